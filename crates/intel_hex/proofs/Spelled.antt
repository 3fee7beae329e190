-- What digits say that were written for bytes: those bytes.
-- Assumes nothing.
use mathlib.Core.Path.{◌≡◌, refl}
use mathlib.Core.Bool.{Bool, true, false, ◌&&◌, not}
use mathlib.Core.List.{List, [], ◌∷◌, ◌++◌}
use Prim.Native.Nat.{ℕ, zero, suc, ◌+◌, ◌*◌, ◌/◌, ◌%◌, ◌-◌, ◌<◌}
use native.Mathlib.Omega.{arith}
use lib.Dec.{T, eqb, eqb→eq, ltb}
use lib.ListN.{get_or, length}
use Rattle.basis.specs.Bytes.{Bytes}
use Rattle.basis.specs.Pick.{pick}
use Rattle.basis.specs.Text.{hex_digit}
use Rattle.basis.proofs.Every.{at}
use Rattle.hex_line.specs.Line.{is_digit, value_of, all_digits, said, sum_of}
use Rattle.intel_hex.specs.Writing.{digits_of, sum_from}

-- ---- one digit, of a number below 16
abbrev capital : ℕ → ℕ
capital d = pick (ltb d 10) (48 + d) (55 + d)

digit_back : (d : ℕ) → d < 16 → value_of (capital d) ≡ d
unfolding value_of
digit_back d h = eqb→eq (value_of (capital d)) d (at (λ d. eqb (value_of (capital d)) d) 16 tt d h)

is_digit_lem : (d : ℕ) → d < 16 → T (is_digit (capital d))
unfolding is_digit
is_digit_lem d h = at (λ d. is_digit (capital d)) 16 tt d h

no_end : (d : ℕ) → d < 16 → T (not (eqb (capital d) 10) && not (eqb (capital d) 13))
no_end d h = at (λ d. not (eqb (capital d) 10) && not (eqb (capital d) 13)) 16 tt d h

value_back : (x : ℕ) → value_of (hex_digit x) ≡ x % 16
value_back x = digit_back (x % 16) (omega arith)

a_digit : (x : ℕ) → is_digit (hex_digit x) ≡ true
a_digit x = holds (is_digit (hex_digit x)) (is_digit_lem (x % 16) (omega arith))
  where
    holds : (t : Bool) → T t → t ≡ true
    holds true h = refl
    holds false h = absurd h

halves : (a b : Bool) → T (not a && not b) → (a ≡ false) × (b ≡ false)
halves true b t = absurd t
halves false true t = absurd t
halves false false t = (refl, refl)

-- it ends no line
pub no_lf : (x : ℕ) → eqb (hex_digit x) 10 ≡ false
no_lf x = (halves (eqb (hex_digit x) 10) (eqb (hex_digit x) 13) (no_end (x % 16) (omega arith))).0

pub no_cr : (x : ℕ) → eqb (hex_digit x) 13 ≡ false
no_cr x = (halves (eqb (hex_digit x) 10) (eqb (hex_digit x) 13) (no_end (x % 16) (omega arith))).1

-- ---- bytes
pub none : Bytes []
none = record { byte_lt = λ i. omega arith }

pub cons : (b : ℕ) (s : List ℕ) → b < 256 → Bytes s → Bytes (b ∷ s)
cons b s h k = record { byte_lt = go }
  where
    go : (i : ℕ) → get_or (b ∷ s) i 0 < 256
    go zero = h
    go (suc i) = k.byte_lt i

pub tail : (b : ℕ) (s : List ℕ) → Bytes (b ∷ s) → Bytes s
tail b s h = record { byte_lt = λ i. h.byte_lt (suc i) }

pub snoc : (s : List ℕ) (x : ℕ) → Bytes s → x < 256 → Bytes (s ++ (x ∷ []))
snoc [] x h k = cons x [] k h
snoc (b ∷ s) x h k = cons b _ (h.byte_lt 0) (snoc s x (tail b s h) k)

two : (b : ℕ) → b < 256 → b / 16 % 16 * 16 + b % 16 ≡ b
two b h = omega arith

pub said_back : (s : List ℕ) → Bytes s → said (digits_of s) ≡ s
unfolding said digits_of
said_back [] h = refl
said_back (b ∷ s) h = rw (value_back (b / 16), value_back b, two b (h.byte_lt 0), said_back s (tail b s h))

pub all_digits_lem : (s : List ℕ) → all_digits (digits_of s) ≡ true
unfolding all_digits digits_of
all_digits_lem [] = refl
all_digits_lem (b ∷ s) = rw (a_digit (b / 16), a_digit b) (all_digits_lem s)

pub length_digits : (s : List ℕ) → length (digits_of s) ≡ length s * 2
unfolding digits_of
length_digits [] = refl
length_digits (b ∷ s) = rw (length_digits s) (omega arith)

-- ---- the sum
sum_snoc : (s : List ℕ) (x : ℕ) → sum_of (s ++ (x ∷ [])) ≡ sum_of s + x
unfolding sum_of
sum_snoc [] x = omega arith
sum_snoc (b ∷ s) x = rw (sum_snoc s x) (omega arith)

made_zero : (n x : ℕ) → x ≡ (256 - n % 256) % 256 → (n + x) % 256 ≡ 0
made_zero n x h = omega arith

pub sums_to_zero : (s : List ℕ) → sum_of (s ++ (sum_from (sum_of s) ∷ [])) % 256 ≡ 0
sums_to_zero s = rw (sum_snoc s (sum_from (sum_of s))) (made_zero (sum_of s) (sum_from (sum_of s)) refl)
