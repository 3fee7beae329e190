-- Each line has the words at its address, and the instruction that they decode to, or its second word is missing.
-- Assumes nothing.
use Rattle.std.proofs.Common.{ℕ, zero, suc, ◌+◌, ◌*◌, ltb, List, [], ◌∷◌, length, get_or, refl, inl, inr}
use Rattle.basis.specs.Pick.{pick}
use Rattle.basis.proofs.Choice.{cases, either}
use Rattle.memory.specs.Memory.{program_word_of, has_word_of}
use Rattle.instruction.specs.Code.{two_words}
use Rattle.instruction.specs.declared.Instruction.TheVariants.{UNDEF}
use Rattle.listing.specs.declared.row.Row.TheVariants.{Lone, Single, Double}
use Rattle.listing.specs.Listing.{whole_at, row_at, words_in, lines_from}
use Rattle.listing.specs.Laws.{decoded_at, Decoded, AllDecoded, LinesAreDecoded}

row_decoded : (p : List ℕ) (a : ℕ) → Decoded p a (row_at p a)
row_decoded p a =
    let i = decoded_at p a in
    let w = program_word_of p a in
    let two = Double w (program_word_of p (a + 1)) i in
    let second = has_word_of p (a + 1) in
    cases (Decoded p a) (has_word_of p a) (whole_at p a i) (Lone (get_or p (a * 2) 0))
    (λ e. cases (Decoded p a) (two_words i) (pick second two (Single w UNDEF)) (Single w i)
    (λ t. cases (Decoded p a) second two (Single w UNDEF) (λ h. (refl, (refl, refl))) (λ h. (refl, inr (refl, (t, h))))) (λ t. (refl, inl refl)))
    (λ e. (refl, e))

all_decoded : (n : ℕ) (p : List ℕ) (a : ℕ) → AllDecoded p (lines_from n p a)
unfolding lines_from
all_decoded zero p a = tt
all_decoded (suc n) p a =
    let r = row_at p a in
    either (AllDecoded p) (ltb (a * 2) (length p)) (record { at = a; row = r } ∷ lines_from n p (a + words_in r)) []
    (row_decoded p a, all_decoded n p (a + words_in r)) tt

pub lines_are_decoded : LinesAreDecoded
lines_are_decoded p = all_decoded _ p 0
