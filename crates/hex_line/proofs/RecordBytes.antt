-- The bytes of a record by the digits that say them, and their sum as the loop over them goes.
-- Assumes nothing.
use mathlib.Core.Path.{◌≡◌, refl, ◌∙◌}
use mathlib.Core.Bool.{true, ◌&&◌}
use mathlib.Core.List.{List, [], ◌∷◌, ◌++◌}
use Prim.Native.Nat.{ℕ, zero, suc, ◌+◌, ◌*◌, ◌%◌, ◌≤◌, ◌<◌}
use native.Mathlib.Omega.{arith}
use native.Mathlib.Numerals.{add-one}
use lib.Dec.{ltb}
use lib.ListN.{length, drop, take, get_or}
use lib.Seq.{get_or-take, length-take-le}
use borrow.Author.Tests.{lt-ltb, ltb-true, ltb-false}
use Rattle.basis.proofs.Both.{both_true}
use Rattle.basis.proofs.Choice.{test}
use Rattle.hex_line.specs.Line.{value_of, is_digit, all_digits, said, sum_of, record_of, count_of, address_of, type_of}
use Rattle.hex_line.specs.Way.{digit_of, byte_of}
use Rattle.hex_line.proofs.Table.{value_lt, digit_is}
use Rattle.hex_line.proofs.Characters.{pair_is}

-- ---- byte k of a record: the digits at 2 k + 1 and 2 k + 2
said_at : (t : List ℕ) (k : ℕ) → k * 2 + 1 < length t → get_or (said t) k 0 ≡ value_of (get_or t (k * 2) 0) * 16 + value_of (get_or t (k * 2 + 1) 0)
unfolding said
said_at [] k h = absurd (omega arith)
said_at (c ∷ []) k h = absurd (omega arith)
said_at (c ∷ d ∷ t) zero h = refl
said_at (c ∷ d ∷ t) (suc k) h =
    let e : suc k * 2 ≡ suc (suc (k * 2)) = omega arith in
    let f : suc (suc (k * 2)) + 1 ≡ suc (suc (k * 2 + 1)) = omega arith in
    rw (e, f) (said_at t k (omega arith))

said_none : (t : List ℕ) (k : ℕ) → length t ≤ k * 2 + 1 → get_or (said t) k 0 ≡ 0
unfolding said
said_none [] k h = refl
said_none (c ∷ []) k h = refl
said_none (c ∷ d ∷ t) zero h = absurd (omega arith)
said_none (c ∷ d ∷ t) (suc k) h = said_none t k (omega arith)

pub byte_at : (l : List ℕ) (k : ℕ) → k * 2 + 1 + 1 < length l
    → get_or (record_of l) k 0 ≡ value_of (get_or l (k * 2 + 1) 0) * 16 + value_of (get_or l (k * 2 + 1 + 1) 0)
byte_at [] k h = absurd (omega arith)
byte_at (c ∷ t) k h = let e : k * 2 + 1 + 1 ≡ suc (k * 2 + 1) = omega arith in rw (e, add-one (k * 2)) (rw (← add-one (k * 2)) (said_at t k (omega arith)))

pub byte_none : (l : List ℕ) (k : ℕ) → length l ≤ k * 2 + 1 + 1 → get_or (record_of l) k 0 ≡ 0
byte_none [] k h = said_none [] k (omega arith)
byte_none (c ∷ t) k h = said_none t k (omega arith)

-- ---- the bytes as the code reads them, of a line that is all digits behind its first character
said_byte : (t : List ℕ) (k : ℕ) → get_or (said t) k 0 < 256
unfolding said
said_byte [] k = omega arith
said_byte (c ∷ []) k = omega arith
said_byte (c ∷ d ∷ t) zero = let a = value_lt c in let b = value_lt d in omega arith
said_byte (c ∷ d ∷ t) (suc k) = said_byte t k

pub byte_lt : (l : List ℕ) (k : ℕ) → get_or (record_of l) k 0 < 256
byte_lt l k = said_byte (drop 1 l) k

pub byte_is : (l : List ℕ) → all_digits (drop 1 l) ≡ true → (k : ℕ) → byte_of l k ≡ get_or (record_of l) k 0
unfolding byte_of
byte_is l h k =
    let small = byte_lt l k in
    test (ltb (k * 2 + 1 + 1) (length l))
    (λ e. let i = ltb-true (k * 2 + 1 + 1) (length l) e in rw (e, pair_is l h (k * 2 + 1) (omega arith) i, ← byte_at l k i) (omega arith))
    (λ e. let i = ltb-false (k * 2 + 1 + 1) (length l) e in rw (e, byte_none l k i))

module _ (l : List ℕ) (h : all_digits (drop 1 l) ≡ true) where
  pub count_is : byte_of l 0 ≡ count_of l
  count_is = byte_is l h 0

  pub address_is : byte_of l 1 * 256 + byte_of l 2 ≡ address_of l
  address_is = rw (byte_is l h 1, byte_is l h 2)

  pub kind_is : byte_of l 3 ≡ type_of l
  kind_is = byte_is l h 3

-- a line's count by its first characters
pub count_of_part : (n : ℕ) (t : List ℕ) → 3 ≤ n → n ≤ length t → byte_of (take n t) 0 ≡ byte_of t 0
unfolding byte_of
count_of_part n t h k =
    let e : length (take n t) ≡ n = length-take-le n t k in
    rw (e, lt-ltb (0 * 2 + 1 + 1) n (omega arith), lt-ltb (0 * 2 + 1 + 1) (length t) (omega arith), get_or-take n t 1 0 (omega arith), get_or-take n t 2 0 (omega arith))

-- ---- the sum
said_short : (t : List ℕ) → length t < 2 → said t ≡ []
unfolding said
said_short [] h = refl
said_short (c ∷ []) h = refl
said_short (c ∷ d ∷ t) h = absurd (omega arith)

-- a sum is taken modulo 256 at every step
carry : (a b s m : ℕ) → m ≡ (a + b) % 256 → (a + (b + s)) % 256 ≡ (m + s) % 256
carry a b s m e = omega arith

-- two digits more of those that are left
pub sum_more : (digits two rest : List ℕ) (sum b : ℕ) → digits ≡ two ++ rest → length two ≡ 2 → all_digits digits ≡ true
    → b ≡ (digit_of (get_or two 0 0) * 16 + digit_of (get_or two 1 0)) % 256
    → ((sum + sum_of (said digits)) % 256 ≡ ((sum + b) % 256 + sum_of (said rest)) % 256) × (all_digits rest ≡ true)
unfolding sum_of said all_digits
sum_more digits [] rest sum b e n h k = absurd (omega arith)
sum_more digits (c ∷ []) rest sum b e n h k = absurd (omega arith)
sum_more digits (c ∷ d ∷ []) rest sum b e n h k =
    let (first, others) = both_true (is_digit c) (is_digit d && all_digits rest) (rw e at h) in
    let (second, last) = both_true (is_digit d) (all_digits rest) others in
    let x = value_lt c in
    let y = value_lt d in
    let w : b ≡ value_of c * 16 + value_of d = k ∙ rw (digit_is c first, digit_is d second) (omega arith) in
    (rw (e, ← w) (carry sum b (sum_of (said rest)) ((sum + b) % 256) refl), last)
sum_more digits (c ∷ d ∷ f ∷ two) rest sum b e n h k = absurd (omega arith)

pub sum_done : (t : List ℕ) → length t < 2 → sum_of (said t) ≡ 0
unfolding sum_of
sum_done t h = rw (said_short t h)
