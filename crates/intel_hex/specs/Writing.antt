-- Document 02, W1: "a writer back out".
-- p is a program or what is left of it, s the bytes of a line, o the output buffer.
use Rattle.std.specs.Prelude.{List, [], ◌∷◌, ◌++◌, ℕ, zero, suc, ◌+◌, ◌/◌, ◌%◌, ◌-◌, eqb, ltb, take, drop, length}
use Rattle.basis.specs.Pick.{pick}
use Rattle.basis.specs.Text.{hex_digit}
use Rattle.hex_line.specs.Line.{sum_of}
use Rattle.std.specs.Prelude.{Result, Ok, Err}
use Rattle.intel_hex.specs.declared.errors.WriteError.{WriteError}
use Rattle.intel_hex.specs.declared.errors.WriteError.TheVariants.{TooLarge, NoRoom}

-- what writing answers: a refusal, and the text's length; 0 where there is none
pub record Written : Type 0 where
  pub refusal : ℕ
  pub length : ℕ

-- "capitals on output", two digits a byte
unfoldable pub digits_of : List ℕ → List ℕ
digits_of [] = []
digits_of (b ∷ s) = hex_digit (b / 16) ∷ hex_digit b ∷ digits_of s

-- the byte that makes a sum 0 modulo 256
abbrev pub sum_from : ℕ → ℕ
sum_from n = (256 - n % 256) % 256

-- a colon, then count, address, high byte first, type, data and sum
abbrev pub line_of : ℕ → ℕ → List ℕ → List ℕ
line_of kind address s =
    let head = length s ∷ address / 256 ∷ address % 256 ∷ kind ∷ s in
    58 ∷ digits_of (head ++ (sum_from (sum_of head) ∷ []))

-- "16 data bytes a line, the last line shorter, the end record at address 0", "LF on output": so many data lines, the first at this address
unfoldable pub text_from : ℕ → ℕ → List ℕ → List ℕ
text_from zero address p = line_of 1 0 [] ++ (10 ∷ [])
text_from (suc lines) address p = line_of 0 address (take 16 p) ++ (10 ∷ text_from lines (address + 16) (drop 16 p))

-- every byte of the program, 0xFF too
abbrev pub text_of : List ℕ → List ℕ
text_of p = text_from ((length p + 15) / 16) 0 p

abbrev pub written : ℕ → ℕ → Written
written refusal length = record { refusal = refusal; length = length }

-- "reader and writer refuse with 57 a program buffer above 65,536 bytes, then the writer with 58 an output too short"
abbrev pub write_of : List ℕ → ℕ → Written
write_of p room =
    pick (ltb 65536 (length p)) (written 57 0) (pick (ltb room (length (text_of p))) (written 58 0) (written 0 (length (text_of p))))

-- "nothing written" where it is refused; what stands behind the text stays
abbrev pub buffer_of : List ℕ → List ℕ → List ℕ
buffer_of p o = pick (eqb (write_of p (length o)).refusal 0) (text_of p ++ drop (length (text_of p)) o) o

-- ---- the code's errors, "57 a program buffer above 65,536 bytes", "58 an output too short"; and what the code answers
abbrev pub number_of : WriteError → ℕ
number_of TooLarge = 57
number_of NoRoom = 58

abbrev pub write_said : Result ℕ WriteError → Written
write_said (Ok n) = written 0 n
write_said (Err error) = written (number_of error) 0
