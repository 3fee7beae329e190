-- The characters of a line, one after another: as the loop over them goes.
-- Assumes nothing.
use mathlib.Core.Path.{◌≡◌, refl}
use mathlib.Core.Bool.{Bool, true, false, ◌&&◌}
use mathlib.Core.List.{List, [], ◌∷◌}
use Prim.Native.Nat.{ℕ, zero, suc, ◌+◌, ◌*◌, ◌-◌, ◌≤◌, ◌<◌}
use native.Mathlib.Omega.{arith}
use native.Mathlib.Numerals.{add-one}
use lib.ListN.{length, drop, get_or, drop_of_length-le, length-drop}
use lib.Seq.{drop-cons, get_or-drop}
use Rattle.basis.proofs.Both.{both_true}
use Rattle.hex_line.specs.Line.{value_of, is_digit, all_digits, wrong_character}
use Rattle.hex_line.specs.Way.{digit_of}
use Rattle.hex_line.proofs.Table.{digit_is}

pub no_character : (l : List ℕ) → length l ≡ 0 → false ≡ wrong_character l
unfolding wrong_character
no_character [] h = refl
no_character (c ∷ t) h = absurd (omega arith)

pub next_character : (l : List ℕ) (i : ℕ) (right : Bool) → i < length l → (right && all_digits (drop i l)) ≡ (right && is_digit (get_or l i 0) && all_digits (drop (i + 1) l))
unfolding all_digits
next_character l i true h = rw (drop-cons l i 0 h, add-one i)
next_character l i false h = refl

pub last_character : (l : List ℕ) (i : ℕ) (right : Bool) → length l ≤ i → (right && all_digits (drop i l)) ≡ right
unfolding all_digits
last_character l i true h = rw (drop_of_length-le l {i = i} h)
last_character l i false h = refl

-- ---- a line that is all digits behind its first character
digit_in : (t : List ℕ) → all_digits t ≡ true → (i : ℕ) → i < length t → is_digit (get_or t i 0) ≡ true
unfolding all_digits
digit_in [] h i k = absurd (omega arith)
digit_in (c ∷ t) h zero k = (both_true (is_digit c) (all_digits t) h).0
digit_in (c ∷ t) h (suc i) k = digit_in t (both_true (is_digit c) (all_digits t) h).1 i (omega arith)

pub digit_at : (l : List ℕ) → all_digits (drop 1 l) ≡ true → (i : ℕ) → 0 < i → i < length l → is_digit (get_or l i 0) ≡ true
digit_at l h i k j =
    let n = length-drop 1 l in
    let e : 1 + (i - 1) ≡ i = omega arith in
    rw (get_or-drop 1 l (i - 1) 0, e) at (digit_in (drop 1 l) h (i - 1) (omega arith))

pub pair_is : (l : List ℕ) → all_digits (drop 1 l) ≡ true → (i : ℕ) → 0 < i → i + 1 < length l
    → digit_of (get_or l i 0) * 16 + digit_of (get_or l (i + 1) 0) ≡ value_of (get_or l i 0) * 16 + value_of (get_or l (i + 1) 0)
pair_is l h i k j = rw (digit_is (get_or l i 0) (digit_at l h i k (omega arith)), digit_is (get_or l (i + 1) 0) (digit_at l h (i + 1) (omega arith) j))
