-- 02, W8: what is proved of a listing. p is a program, a a word address, w a word, v the word behind it, i an instruction, l a line, d are the bytes of a buffer, o those afterwards, n says how many were written; b is a byte.
use Rattle.std.specs.Prelude.{◌≡◌, ℕ, ◌+◌, ◌*◌, ◌/◌, ◌%◌, ◌≤◌, true, false, ◌⊎◌, List, [], ◌∷◌, ◌++◌, length, take, slice_index}
use Rattle.basis.specs.Bytes.{Bytes}
use Rattle.basis.specs.Text.{line}
use Rattle.page.specs.Page.{Prints}
use Rattle.memory.specs.Memory.{program_word_of, has_word_of}
use Rattle.instruction.specs.Code.{two_words}
use Rattle.instruction.specs.Decode.{decode_of}
use Rattle.instruction.specs.declared.Instruction.{Instruction}
use Rattle.instruction.specs.declared.Instruction.TheVariants.{UNDEF}
use Rattle.listing.specs.declared.row.Row.{Row}
use Rattle.listing.specs.declared.row.Row.TheVariants.{Lone, Single, Double}
use Rattle.listing.specs.Listing.{Line, lines_of, listing_of}

-- ---- "the lines' words, joined, are the program, byte for byte"
-- "low byte of each word first"
abbrev pub word_bytes : ℕ → List ℕ
word_bytes w = w % 256 ∷ w / 256 ∷ []

abbrev pub row_bytes : Row → List ℕ
row_bytes (Lone b) = b ∷ []
row_bytes (Single w i) = word_bytes w
row_bytes (Double w v i) = word_bytes w ++ word_bytes v

abbrev pub joined : List Line → List ℕ
joined [] = []
joined (l ∷ ls) = row_bytes l.row ++ joined ls

abbrev pub WordsAreTheProgram : Type 0
WordsAreTheProgram = (p : List ℕ) → Bytes p → joined (lines_of p) ≡ p

-- ---- "each line's instruction is `decode_of` at its address"
-- what the words at a word address decode to
abbrev pub decoded_at : List ℕ → ℕ → Instruction
decoded_at p a = decode_of (program_word_of p a) (program_word_of p (a + 1))

-- the words are those at the address, and the instruction is what they decode to, or its second word is missing; a lone byte has none
abbrev pub Decoded : List ℕ → ℕ → Row → Type 0
Decoded p a (Lone b) = (b ≡ slice_index p (a * 2)) × (has_word_of p a ≡ false)
Decoded p a (Single w i) = (w ≡ program_word_of p a) × ((i ≡ decoded_at p a) ⊎ ((i ≡ UNDEF) × ((two_words (decoded_at p a) ≡ true) × (has_word_of p (a + 1) ≡ false))))
Decoded p a (Double w v i) = (w ≡ program_word_of p a) × ((v ≡ program_word_of p (a + 1)) × (i ≡ decoded_at p a))

abbrev pub AllDecoded : List ℕ → List Line → Type 0
AllDecoded p [] = Unit
AllDecoded p (l ∷ ls) = Decoded p l.at l.row × AllDecoded p ls

abbrev pub LinesAreDecoded : Type 0
LinesAreDecoded = (p : List ℕ) → AllDecoded p (lines_of p)

-- ---- "the listing ends and fits its buffer": one for 65,536 lines of 49 bytes takes the whole of every listing
abbrev pub WholeListing : Type 0
WholeListing = (p d o : List ℕ) (n : ℕ) → 65536 * 49 ≤ length d → Prints (listing_of p) d n o → take n o ≡ listing_of p

-- the program reads at most a byte more than has addresses, and prints the listing of the whole input
abbrev pub CutListing : Type 0
CutListing = (p : List ℕ) → listing_of (take 131073 p) ≡ listing_of p

-- the example of docs/LISTING.md
abbrev pub Example : Type 0
Example =
    listing_of (0x05 ∷ 0xE0 ∷ 0x0E ∷ 0x94 ∷ 0x23 ∷ 0x01 ∷ 0xD9 ∷ 0xF7 ∷ 0x01 ∷ 0x00 ∷ 0x98 ∷ [])
    ≡ line "0000 E005      LDI R16, 0x05" ++ line "0001 940E 0123 CALL 0x000123" ++ line "0003 F7D9      BRBC 1, 0xFFFF" ++ line "0004 0001      .word 0x0001" ++ line "0005 98        .byte 0x98"
