-- How the code goes through a text and reads a digit. That it comes to `lines_of` and `record_of` is proved (proofs/Found.antt, proofs/RecordBytes.antt).
-- t is a text, c a character, l a line, k the number of a byte in its record, `at` a place.
use Rattle.std.specs.Prelude.{◌≡◌, true, ◌&&◌, List, [], ◌∷◌, ℕ, suc, ◌+◌, ◌*◌, ◌/◌, ◌%◌, ◌<◌, ◌≤◌, eqb, ltb, length, drop, get_or}
use Rattle.basis.specs.Pick.{pick}
use Rattle.hex_line.specs.declared.Line.{Line}
use Rattle.hex_line.specs.Line.{starts_lf, all_digits, count_of, end_of}

-- the line's end that stands at the start of a text: an LF, or a CR and an LF; 0 where there is none
abbrev pub end_length : List ℕ → ℕ
end_length [] = 0
end_length (c ∷ t) = pick (eqb c 10) 1 (pick (eqb c 13 && starts_lf t) 2 0)

-- the characters before the first line's end
unfoldable pub line_length : List ℕ → ℕ
line_length [] = 0
line_length (c ∷ t) = pick (ltb 0 (end_length (c ∷ t))) 0 (suc (line_length t))

-- the line that starts at a place
abbrev pub stop_of : List ℕ → ℕ → ℕ
stop_of t at = at + line_length (drop at t)

abbrev pub line_at : List ℕ → ℕ → Line
line_at t at = record { stop = stop_of t at; next = stop_of t at + end_length (drop (stop_of t at) t) }

-- what a digit is worth by its code: the low four bits, and 9 more for a letter
unfoldable pub digit_of : ℕ → ℕ
digit_of c = c % 16 + c / 64 * 9

-- byte k of a record by the two digits that say it, of a line whose characters belong; 0 where the line is shorter
unfoldable pub byte_of : List ℕ → ℕ → ℕ
byte_of l k = pick (ltb (k * 2 + 1 + 1) (length l)) ((digit_of (get_or l (k * 2 + 1) 0) * 16 + digit_of (get_or l (k * 2 + 1 + 1) 0)) % 256) 0

-- a line whose bytes can be filled into a buffer of `size` bytes
pub record Fits (size : ℕ) (l : List ℕ) : Type 0 where
  pub digits : all_digits (drop 1 l) ≡ true
  pub long : length l ≡ count_of l * 2 + 11
  pub inside : 0 < count_of l → end_of l ≤ size
