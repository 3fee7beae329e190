-- 02, W10: a table "indexed by the word's high byte and low nibble, giving the instruction's form or a mark for a further look at the remaining bits".
-- w is a word, t a table, i an instruction.
use Rattle.std.specs.Prelude.{List, [], ◌∷◌, ℕ, ◌+◌, ◌*◌, ◌/◌, ◌%◌, eqb, get_or}
use Rattle.basis.specs.Pick.{pick}
use Rattle.instruction.specs.Code.{code}
use Rattle.instruction.specs.Decode.{Cases, look, under, decode_of, mulsu_to_fmulsu_of, control_of, indirect_of}
use Rattle.instruction.specs.declared.Instruction.{Instruction}
use Rattle.instruction.specs.declared.Instruction.TheVariants.{NOP, UNDEF}

-- "the instruction's form": its place in the enum, whatever its fields
abbrev pub form : Instruction → ℕ
form i = (code i).0

-- what the present decoder says of a word: its form does not hang on the second word
abbrev pub form_of : ℕ → ℕ
form_of w = form (decode_of w 0)

-- "or a mark": the number of no form
abbrev pub mark : ℕ
mark = 255

-- "indexed by the word's high byte and low nibble"
abbrev pub index : ℕ → ℕ
index w = w / 256 * 16 + w % 16

-- what a table says of a word; behind its end every word is undefined
abbrev pub entry_at : List ℕ → ℕ → ℕ
entry_at t w = get_or t (index w) (form UNDEF)

-- "a further look at the remaining bits", 7 to 4: of the words that share high byte and low nibble with words of another form
abbrev pub control_or_indirect : ℕ → Cases
control_or_indirect w =
    (8, control_of w) ∷  -- 1001_010x_xxxx_1000
    (9, indirect_of w) ∷  -- 1001_010x_xxxx_1001
    []

abbrev pub further_cases : ℕ → Cases
further_cases w =
    (0x0001, NOP) ∷  -- 0000_0000_0000_0000
    (0x0100, UNDEF) ∷
    (0x0400, mulsu_to_fmulsu_of w) ∷  -- 0000_0011_xxxx_xxxx
    (0x10000, look (w % 16) (control_or_indirect w)) ∷
    []

unfoldable pub further_of : ℕ → ℕ
further_of w = form (under w (further_cases w))

-- the form of a word, by any table
unfoldable pub form_by : List ℕ → ℕ → ℕ
form_by t w = pick (eqb (entry_at t w) mark) (further_of w) (entry_at t w)
