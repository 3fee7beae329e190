-- Document 02, W1: the lines of a HEX file, the record of a line, and the faults of a line.
-- t is a text, c and d characters, l a line, b a byte, s bytes; `size` is the buffer's, `end` where the data line before ended.
use Rattle.std.specs.Prelude.{Bool, true, false, not, ◌&&◌, ◌||◌, List, [], ◌∷◌, ℕ, ◌+◌, ◌*◌, ◌%◌, ◌-◌, eqb, ltb, leb, get_or, take, drop, length}
use Rattle.std.specs.Prelude.{Result, Ok, Err}
use Rattle.basis.specs.Pick.{pick}
use Rattle.hex_line.specs.declared.faults.LineFault.{LineFault}
use Rattle.hex_line.specs.declared.faults.LineFault.TheVariants.{Character, Length, Sum, Kind, Outside, Falls}

-- ---- lines: "Lines end in LF or CR LF on input ..; the last may lack it on input"
abbrev pub starts_lf : List ℕ → Bool
starts_lf [] = false
starts_lf (c ∷ t) = eqb c 10

-- a character in front of the first line
abbrev pub on_first : ℕ → List (List ℕ) → List (List ℕ)
on_first c [] = (c ∷ []) ∷ []
on_first c (l ∷ ls) = (c ∷ l) ∷ ls

-- an LF ends a line, a CR right before an LF goes with it, any other character stands in its line; a text of no bytes has no line
unfoldable pub lines_of : List ℕ → List (List ℕ)
lines_of [] = []
lines_of (c ∷ t) = pick (eqb c 10) ([] ∷ lines_of t) (pick (eqb c 13 && starts_lf t) (lines_of t) (on_first c (lines_of t)))

-- ---- digits: "hex digits in either case on input": 0 to 9, A to F, a to f
abbrev among : ℕ → ℕ → ℕ → Bool
among first last c = leb first c && leb c last

unfoldable pub is_digit : ℕ → Bool
is_digit c = among 48 57 c || among 65 70 c || among 97 102 c

-- what a digit is worth; 0 of what is none
unfoldable pub value_of : ℕ → ℕ
value_of c = pick (among 48 57 c) (c - 48) (pick (among 65 70 c) (c - 55) (pick (among 97 102 c) (c - 87) 0))

unfoldable pub all_digits : List ℕ → Bool
all_digits [] = true
all_digits (c ∷ t) = is_digit c && all_digits t

-- the bytes that digits say, two a byte
unfoldable pub said : List ℕ → List ℕ
said [] = []
said (c ∷ []) = []
said (c ∷ d ∷ t) = (value_of c * 16 + value_of d) ∷ said t

-- ---- the record of a line, behind its colon: count, address, high byte first, type, data, sum
abbrev pub record_of : List ℕ → List ℕ
record_of l = said (drop 1 l)

abbrev pub count_of : List ℕ → ℕ
count_of l = get_or (record_of l) 0 0

abbrev pub address_of : List ℕ → ℕ
address_of l = get_or (record_of l) 1 0 * 256 + get_or (record_of l) 2 0

abbrev pub type_of : List ℕ → ℕ
type_of l = get_or (record_of l) 3 0

abbrev pub data_of : List ℕ → List ℕ
data_of l = take (count_of l) (drop 4 (record_of l))

-- "Record types 00 and 01 only": 01 is the end record
abbrev pub is_end : List ℕ → Bool
is_end l = eqb (type_of l) 1

-- where the data of a line end, at address plus count, not wrapped
abbrev pub end_of : List ℕ → ℕ
end_of l = address_of l + count_of l

unfoldable pub sum_of : List ℕ → ℕ
sum_of [] = 0
sum_of (b ∷ s) = b + sum_of s

-- ---- the faults of a line
-- "50 a character that doesn't belong": the first is no colon, or a later one no digit
unfoldable pub wrong_character : List ℕ → Bool
wrong_character [] = false
wrong_character (c ∷ t) = not (eqb c 58 && all_digits t)

-- "51 line length": a colon, then two digits for each byte of count, address, type, data and sum; "an end record with data is 51"
abbrev pub wrong_length : List ℕ → Bool
wrong_length l = not (eqb (length l) (count_of l * 2 + 11)) || is_end l && ltb 0 (count_of l)

-- "52 line sum": all bytes, the sum's included, add up to 0 modulo 256
abbrev pub wrong_sum : List ℕ → Bool
wrong_sum l = not (eqb (sum_of (record_of l) % 256) 0)

-- "53 record type"
abbrev pub wrong_type : List ℕ → Bool
wrong_type l = ltb 1 (type_of l)

-- "54 byte outside the buffer"; a line of no bytes names none
abbrev pub outside : ℕ → List ℕ → Bool
outside size l = ltb 0 (count_of l) && ltb size (end_of l)

-- "55 address falls": "A data line must not start below the end of the one before"
abbrev pub falls : ℕ → List ℕ → Bool
falls end l = not (is_end l) && ltb (address_of l) end

-- "lowest number first on that line"; 0 for none
unfoldable pub fault_of : ℕ → ℕ → List ℕ → ℕ
fault_of size end l =
    pick (wrong_character l) 50
    (pick (wrong_length l) 51
    (pick (wrong_sum l) 52
    (pick (wrong_type l) 53
    (pick (outside size l) 54
    (pick (falls end l) 55 0)))))

-- the numbers of the code's faults: "50 a character that doesn't belong, 51 line length .., 52 line sum, 53 record type, 54 byte outside the buffer, 55 address falls"
abbrev pub number_of : LineFault → ℕ
number_of Character = 50
number_of Length = 51
number_of Sum = 52
number_of Kind = 53
number_of Outside = 54
number_of Falls = 55

-- and of what the code answers: 0 for no fault
abbrev pub number_said : Result (Unit {0}) LineFault → ℕ
number_said (Ok done) = 0
number_said (Err fault) = number_of fault
