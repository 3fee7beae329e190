-- What a bit pattern's text means: as the macro `bitmatch` reads one in the Rust, and as the manual's opcodes are read.
-- "1001_010d_dddd_0101" fits a word whose bits are 1 and 0 where it says so; each letter takes its bits, the most significant first.
use Rattle.std.specs.Prelude.{ℕ, zero, suc, ◌+◌, ◌*◌, ◌/◌, ◌%◌, ◌^◌, Bool, true, false, ◌&&◌, List, [], ◌∷◌, eqb}
use Prim.Native.Char.{Char, code}
use Prim.Native.String.{String, [] as end, ◌∷◌ as then}
use Rattle.instruction.specs.declared.Instruction.{Instruction}
use Rattle.instruction.specs.declared.Instruction.TheVariants.{UNDEF}

-- a place of a pattern: a bit that must be so, or a letter that takes the bit
pub data Place : Type 0 where
  fixed : ℕ → Place
  letter : Char → Place

-- '0' and '1' are bits; any other character is a letter
abbrev pub place : Char → Place
place c = elim (eqb (code c) 48) [ true ↦ fixed 0 | false ↦ elim (eqb (code c) 49) [ true ↦ fixed 1 | false ↦ letter c ] ]

-- the places of a pattern's text; '_' is no place
abbrev pub places : String → List Place
places end = []
places (then c t) = elim (eqb (code c) 95) [ true ↦ places t | false ↦ place c ∷ places t ]

-- the lowest n bits of a word, the most significant first
abbrev pub bits : ℕ → ℕ → List ℕ
bits zero w = []
bits (suc n) w = (w / 2 ^ n % 2) ∷ bits n w

-- the places and the bits are as many, and each fixed place is its bit
abbrev pub fits : List Place → List ℕ → Bool
fits [] [] = true
fits [] (b ∷ bs) = false
fits (fixed v ∷ ps) [] = false
fits (letter c ∷ ps) [] = false
fits (fixed v ∷ ps) (b ∷ bs) = eqb v b && fits ps bs
fits (letter c ∷ ps) (b ∷ bs) = fits ps bs

-- what each letter has taken
abbrev pub Letters : Type 0
Letters = Char → ℕ

abbrev pub none : Letters
none c = 0

-- one bit more for the letter l
abbrev pub take : Char → ℕ → Letters → Letters
take l b x c = elim (eqb (code c) (code l)) [ true ↦ x c * 2 + b | false ↦ x c ]

abbrev pub taken : List Place → List ℕ → Letters → Letters
taken [] bs x = x
taken (fixed v ∷ ps) [] x = x
taken (letter c ∷ ps) [] x = x
taken (fixed v ∷ ps) (b ∷ bs) x = taken ps bs x
taken (letter c ∷ ps) (b ∷ bs) x = taken ps bs (take c b x)

-- what an arm gives: of its letters, or of its letters and the word after
pub data Body : Type 0 where
  plain : (Letters → Instruction) → Body
  wide : (Letters → ℕ → Instruction) → Body

abbrev pub given : Body → Letters → ℕ → Instruction
given (plain f) x s = f x
given (wide g) x s = g x s

-- an arm: the places still to be read, what the letters have taken, and the body
pub data Arm : Type 0 where
  arm : List Place → Letters → Body → Arm

abbrev pub on : String → Body → Arm
on text body = arm (places text) none body

-- the first arm whose pattern fits; no arm is UNDEF
abbrev pub first : List Arm → List ℕ → ℕ → Instruction
first [] bs s = UNDEF
first (arm ps x m ∷ l) bs s = elim (fits ps bs) [ true ↦ given m (taken ps bs x) s | false ↦ first l bs s ]

-- a match of a word on arms, where s is the word after it
unfoldable pub matched : List Arm → ℕ → ℕ → Instruction
matched arms w s = first arms (bits 16 w) s
