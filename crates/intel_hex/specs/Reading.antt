-- Document 02, W1: "a reader into a lent program buffer".
-- t is a text, l a line, n its number, p a program buffer; `size` is the buffer's, `end` where the data line before ended.
use Rattle.std.specs.Prelude.{List, [], ◌∷◌, ℕ, ◌+◌, eqb, ltb, length, replicate}
use Rattle.std.proofs.lemmas.List.Edits.{sets}
use Rattle.basis.specs.Pick.{pick}
use Rattle.hex_line.specs.Line.{lines_of, address_of, data_of, is_end, end_of, fault_of}
use Rattle.std.specs.Prelude.{Result, Ok, Err}
use Rattle.hex_line.specs.Line as line
use Rattle.intel_hex.specs.declared.errors.ReadError.{ReadError}
use Rattle.intel_hex.specs.declared.errors.ReadError.TheVariants.{Fault, End, TooLarge}

-- what reading answers: a refusal and the number of its line, both 0 where nothing is refused
pub record Read : Type 0 where
  pub refusal : ℕ
  pub line : ℕ

abbrev pub answer : ℕ → ℕ → Read
answer refusal line = record { refusal = refusal; line = line }

-- "56 end record missing, or any line after it (no other number there)": the lines behind the end record, the first of number n
abbrev pub behind_end : ℕ → List (List ℕ) → Read
behind_end n [] = answer 0 0
behind_end n (l ∷ ls) = answer 56 n

-- "the first faulty line is reported"; "a missing end record is named at the line after the last"
unfoldable pub checked : ℕ → ℕ → ℕ → List (List ℕ) → Read
checked size n end [] = answer 56 n
checked size n end (l ∷ ls) =
    pick (eqb (fault_of size end l) 0)
    (pick (is_end l) (behind_end (n + 1) ls) (checked size (n + 1) (end_of l) ls))
    (answer (fault_of size end l) n)

-- "Before any line (named 0), reader and writer refuse with 57 a program buffer above 65,536 bytes"; lines are "counted from 1"
abbrev pub read_of : List ℕ → ℕ → Read
read_of t size = pick (ltb 65536 size) (answer 57 0) (checked size 1 0 (lines_of t))

-- the bytes that the lines name, in their places; an end record names none
unfoldable pub filled : List (List ℕ) → List ℕ → List ℕ
filled [] p = p
filled (l ∷ ls) p = filled ls (sets p (address_of l) (data_of l))

-- "Bytes no line names become 0xFF"; "A refused file leaves the buffer untouched"
abbrev pub program_of : List ℕ → List ℕ → List ℕ
program_of t p = pick (eqb (read_of t (length p)).refusal 0) (filled (lines_of t) (replicate (length p) 0xFF)) p

-- ---- the code's errors: the numbers, "56 end record missing, or any line after it", "57 a program buffer above 65,536 bytes", those of a line from `hex_line`; and their lines, "named 0" before any
abbrev pub number_of : ReadError → ℕ
number_of (Fault n fault) = line.number_of fault
number_of (End n) = 56
number_of TooLarge = 57

abbrev pub line_of : ReadError → ℕ
line_of (Fault n fault) = n
line_of (End n) = n
line_of TooLarge = 0

-- and what the code answers
abbrev pub read_said : Result (Unit {0}) ReadError → Read
read_said (Ok done) = answer 0 0
read_said (Err error) = answer (number_of error) (line_of error)
