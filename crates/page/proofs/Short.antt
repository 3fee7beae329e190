-- How long a text is at most.
-- Assumes nothing.
use mathlib.Core.Bool.{Bool, true, false}
use mathlib.Core.List.{List, [], ◌∷◌, ◌++◌}
use Prim.Native.Nat.{ℕ, ◌+◌, ◌≤◌}
use native.Mathlib.Omega.{arith}
use lib.Dec.{leb}
use lib.ListN.{length, length-append}
use Rattle.basis.specs.Pick.{pick}
use Rattle.page.specs.Numbers.{digit, decimal, hex2, hex4}

pub record Short (t : List ℕ) (n : ℕ) : Type 0 where
  pub bound : length t ≤ n

pub ◌then◌ : {s t : List ℕ} {m n : ℕ} → Short s m → Short t n → Short (s ++ t) (m + n)
◌then◌ {s} {t} p q = let a = p.bound in let b = q.bound in record { bound = rw length-append (omega arith) }

pub one : (x : ℕ) → Short (x ∷ []) 1
one x = record { bound = omega arith }

maybe : (b : Bool) (x : ℕ) → Short (pick b (x ∷ []) []) 1
maybe true x = one x
maybe false x = record { bound = omega arith }

digit_short : (x p : ℕ) → Short (digit x p) 1
digit_short x p = maybe (leb p x) _

pub two : (x : ℕ) → Short (hex2 x) 2
two x = record { bound = omega arith }

pub four : (x : ℕ) → Short (hex4 x) 4
four x = record { bound = omega arith }

pub decimal_short : (x : ℕ) → Short (decimal x) 5
decimal_short x =
    ◌then◌ (◌then◌ (◌then◌ (◌then◌ (digit_short x 10000) (digit_short x 1000)) (digit_short x 100)) (digit_short x 10)) (one _)
