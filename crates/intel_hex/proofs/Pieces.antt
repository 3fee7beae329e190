-- A line put piece by piece.
-- Assumes nothing.
use mathlib.Core.Path.{◌≡◌, refl, sym, ◌∙◌}
use mathlib.Core.List.{List, [], ◌∷◌, ◌++◌, append_assoc}
use Prim.Native.Nat.{ℕ, suc, ◌+◌, ◌*◌, ◌/◌, ◌%◌, ◌<◌}
use native.Mathlib.Omega.{arith}
use native.Mathlib.Nat.{zero-add, add-zero}
use native.Mathlib.Numerals.{add-one}
use lib.ListN.{length, take, get_or, set}
use lib.Seq.{sets, take-suc, length-take-le}
use Rattle.std.specs.Prelude.{fold}
use Rattle.basis.specs.Text.{hex_digit}
use Rattle.hex_line.specs.Line.{sum_of}
use Rattle.intel_hex.specs.Writing.{sum_from, digits_of, line_of}
use Rattle.intel_hex.proofs.Spelled.{length_digits}

pub sets_append : (p : List ℕ) (i : ℕ) (s t : List ℕ) → sets p i (s ++ t) ≡ sets (sets p i s) (i + length s) t
sets_append p i [] t = rw (add-zero i)
sets_append p i (b ∷ s) t = let e : i + suc (length s) ≡ suc i + length s = omega arith in rw e (sets_append (set p i b) (suc i) s t)

-- ---- digits
digits_append : (s t : List ℕ) → digits_of (s ++ t) ≡ digits_of s ++ digits_of t
unfolding digits_of
digits_append [] t = refl
digits_append (b ∷ s) t = rw (digits_append s t)

pub digits_one : (p : List ℕ) (i b : ℕ) → set (set p i (hex_digit (b / 16))) (i + 1) (hex_digit b) ≡ sets p i (digits_of (b ∷ []))
unfolding digits_of
digits_one p i b = rw (add-one i)

pub digits_none : (p : List ℕ) (i : ℕ) → p ≡ sets p i (digits_of [])
unfolding digits_of
digits_none p i = refl

pub digits_step : (p : List ℕ) (i : ℕ) (s : List ℕ) (j : ℕ) → j < length s
    → sets (sets p i (digits_of (take j s))) (i + j * 2) (digits_of (get_or s j 0 ∷ [])) ≡ sets p i (digits_of (take (j + 1) s))
digits_step p i s j h =
    let n : length (digits_of (take j s)) ≡ j * 2 = length_digits (take j s) ∙ rw (length-take-le j s (omega arith)) in
    rw (add-one j, take-suc s j 0 h, digits_append (take j s) (get_or s j 0 ∷ []), sets_append p i (digits_of (take j s)) (digits_of (get_or s j 0 ∷ [])), n)

-- ---- the sum
sum_append : (s t : List ℕ) → sum_of (s ++ t) ≡ sum_of s + sum_of t
unfolding sum_of
sum_append [] t = omega arith
sum_append (b ∷ s) t = rw (sum_append s t) (omega arith)

fold_from : (s : List ℕ) (a : ℕ) → a < 256 → fold (λ sum b. (sum + b) % 256) a s ≡ (a + sum_of s) % 256
unfolding sum_of
fold_from [] a h = omega arith
fold_from (b ∷ s) a h = fold_from s ((a + b) % 256) (omega arith) ∙ omega arith

pub fold_sum : (s : List ℕ) → fold (λ sum b. (sum + b) % 256) 0 s ≡ sum_of s % 256
fold_sum s = fold_from s 0 (omega arith) ∙ rw zero-add

-- ---- the line
byte_put : (q : List ℕ) (i b x : ℕ) → sets q i (digits_of (b ∷ []) ++ (x ∷ [])) ≡ set (sets q i (digits_of (b ∷ []))) (i + 2) x
unfolding digits_of
byte_put q i b x = let e : i + 2 ≡ suc (suc i) = omega arith in rw e

-- the digits of head and bytes, those of one byte more, and a last character
digits_put : (q : List ℕ) (i : ℕ) (head s : List ℕ) (b x : ℕ)
    → sets q i (digits_of ((head ++ s) ++ (b ∷ [])) ++ (x ∷ []))
    ≡ set (sets (sets (sets q i (digits_of head)) (i + length head * 2) (digits_of s)) (i + length head * 2 + length s * 2) (digits_of (b ∷ []))) (i + length head * 2 + length s * 2 + 2) x
digits_put q i head s b x =
    rw (
      append_assoc head s (b ∷ []),
      digits_append head (s ++ (b ∷ [])),
      digits_append s (b ∷ []),
      append_assoc (digits_of head) (digits_of s ++ digits_of (b ∷ [])) (x ∷ []),
      append_assoc (digits_of s) (digits_of (b ∷ [])) (x ∷ []),
      sets_append q i (digits_of head) (digits_of s ++ (digits_of (b ∷ []) ++ (x ∷ []))),
      length_digits head,
      sets_append (sets q i (digits_of head)) (i + length head * 2) (digits_of s) (digits_of (b ∷ []) ++ (x ∷ [])),
      length_digits s,
    )
    (byte_put (sets (sets q i (digits_of head)) (i + length head * 2) (digits_of s)) (i + length head * 2 + length s * 2) b x)

abbrev pub head_of : ℕ → ℕ → List ℕ → List ℕ
head_of kind address s = length s ∷ address / 256 ∷ address % 256 ∷ kind ∷ []

pub put_all : (o : List ℕ) (at kind address : ℕ) (s : List ℕ) (x : ℕ) → x ≡ sum_from (sum_of (head_of kind address s) + sum_of s)
    → set (sets (sets (sets (set o at 58) (at + 1) (digits_of (head_of kind address s))) (at + 1 + 8) (digits_of s)) (at + 1 + 8 + length s * 2) (digits_of (x ∷ []))) (at + 1 + 8 + length s * 2 + 2) 10
    ≡ sets o at (line_of kind address s ++ (10 ∷ []))
unfolding digits_of
put_all o at kind address s x h =
    let head = head_of kind address s in
    let e : sum_from (sum_of (head ++ s)) ≡ x = rw (sum_append head s) (sym h) in
    sym (rw (e, ← add-one at) (digits_put (set o at 58) (at + 1) head s x 10))
