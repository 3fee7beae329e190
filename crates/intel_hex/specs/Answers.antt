-- When reading answers each of 02's numbers, and at which line: exactly then.
-- t is a text, l a line, n a line's number; `size` is the buffer's, `end` where the data line before ended.
use Rattle.std.specs.Prelude.{◌≡◌, Bool, true, not, ◌&&◌, ◌⊎◌, ◌↔◌, List, [], ◌∷◌, ◌++◌, ℕ, ◌+◌, ◌≤◌, ◌<◌, eqb, length}
use Rattle.hex_line.specs.Line.{lines_of, is_end, end_of, wrong_character, wrong_length, wrong_sum, wrong_type, outside, falls, fault_of}
use Rattle.intel_hex.specs.Reading.{answer, read_of}

-- data lines without a fault, one after another
unfoldable pub good_data : ℕ → ℕ → List (List ℕ) → Bool
good_data size end [] = true
good_data size end (l ∷ ls) = eqb (fault_of size end l) 0 && not (is_end l) && good_data size (end_of l) ls

-- where the last of them ends
unfoldable pub end_after : ℕ → List (List ℕ) → ℕ
end_after end [] = end
end_after end (l ∷ ls) = end_after (end_of l) ls

-- line n, the first behind good data lines, and what is wrong with it where the data line before ended at `end`
pub record At (t : List ℕ) (size n : ℕ) (Wrong : ℕ → List ℕ → Bool) : Type 0 where
  pub small : size ≤ 65536
  pub before : List (List ℕ)
  pub line : List ℕ
  pub after : List (List ℕ)
  pub lines : lines_of t ≡ before ++ (line ∷ after)
  pub number : n ≡ length before + 1
  pub good : good_data size 0 before ≡ true
  pub wrong : Wrong (end_after 0 before) line ≡ true

-- a good end record, behind good data lines and before the lines `after`
pub record Ends (t : List ℕ) (size : ℕ) (after : List (List ℕ)) : Type 0 where
  pub small : size ≤ 65536
  pub before : List (List ℕ)
  pub line : List ℕ
  pub lines : lines_of t ≡ before ++ (line ∷ after)
  pub good : good_data size 0 before ≡ true
  pub right : fault_of size (end_after 0 before) line ≡ 0
  pub ends : is_end line ≡ true

-- "56 end record missing": "named at the line after the last"
pub record NoEnd (t : List ℕ) (size n : ℕ) : Type 0 where
  pub small : size ≤ 65536
  pub good : good_data size 0 (lines_of t) ≡ true
  pub number : n ≡ length (lines_of t) + 1

-- "or any line after it": the line behind the end record
pub record Behind (t : List ℕ) (size n : ℕ) : Type 0 where
  pub line : List ℕ
  pub after : List (List ℕ)
  pub end : Ends t size (line ∷ after)
  pub number : n ≡ length end.before + 2

-- ---- "lowest number first on that line": a line without 50, without 50 and 51, and so on
abbrev pub spelled : List ℕ → Bool
spelled l = not (wrong_character l)

abbrev pub whole : List ℕ → Bool
whole l = spelled l && not (wrong_length l)

abbrev pub summed : List ℕ → Bool
summed l = whole l && not (wrong_sum l)

abbrev pub known : List ℕ → Bool
known l = summed l && not (wrong_type l)

abbrev pub placed : ℕ → List ℕ → Bool
placed size l = known l && not (outside size l)

pub record Answers (t : List ℕ) (size n : ℕ) : Type 0 where
  pub fifty : (read_of t size ≡ answer 50 n) ↔ At t size n (λ end l. wrong_character l)
  pub fifty-one : (read_of t size ≡ answer 51 n) ↔ At t size n (λ end l. spelled l && wrong_length l)
  pub fifty-two : (read_of t size ≡ answer 52 n) ↔ At t size n (λ end l. whole l && wrong_sum l)
  pub fifty-three : (read_of t size ≡ answer 53 n) ↔ At t size n (λ end l. summed l && wrong_type l)
  pub fifty-four : (read_of t size ≡ answer 54 n) ↔ At t size n (λ end l. known l && outside size l)
  pub fifty-five : (read_of t size ≡ answer 55 n) ↔ At t size n (λ end l. placed size l && falls end l)
  pub fifty-six : (read_of t size ≡ answer 56 n) ↔ (NoEnd t size n ⊎ Behind t size n)
  pub fifty-seven : (read_of t size ≡ answer 57 n) ↔ ((65536 < size) × (n ≡ 0))
  pub read : (read_of t size ≡ answer 0 n) ↔ (Ends t size [] × (n ≡ 0))

abbrev pub EachNumberExactly : Type 0
EachNumberExactly = (t : List ℕ) (size n : ℕ) → Answers t size n
