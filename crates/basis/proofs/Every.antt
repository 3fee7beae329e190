-- A test that antt computes at every number below a bound.
-- Assumes nothing.
use mathlib.Core.Path.{◌≡◌, refl, sym, subst}
use mathlib.Core.Bool.{Bool, true, false, ◌&&◌}
use Prim.Native.Nat.{ℕ, zero, suc, ◌<◌}
use native.Mathlib.Nat.{not-suc-le-zero}
use native.Mathlib.Omega.{arith}
use lib.Dec.{T, eqb, eqb→eq}
use borrow.Author.Tests.{eqb-true, eqb-false}
use Rattle.basis.proofs.Both.{both_left, both_right}

abbrev pub every : ℕ → (ℕ → Bool) → Bool
every zero p = true
every (suc n) p = p n && every n p

at_or : (p : ℕ → Bool) (n k : ℕ) (e : Bool) → eqb k n ≡ e → k < suc n → T (p n) → (k < n → T (p k)) → T (p k)
at_or p n k true e h t f = subst (λ (m : ℕ). T (p m)) (sym (eqb-true k n e)) t
at_or p n k false e h t f = let ne : (k ≡ n → ⊥) = eqb-false k n e in f (omega arith)

-- what holds at every number below n holds at k
pub at : (p : ℕ → Bool) (n : ℕ) → T (every n p) → (k : ℕ) → k < n → T (p k)
at p zero t k h = absurd (not-suc-le-zero h)
at p (suc n) t k h = at_or p n k (eqb k n) refl h (both_left (p n) (every n p) t) (λ l. at p n (both_right (p n) (every n p) t) k l)

-- two functions of two numbers, below n and below m, agree
abbrev pub agree : ℕ → ℕ → (ℕ → ℕ → ℕ) → (ℕ → ℕ → ℕ) → Bool
agree n m f g = every n (λ x. every m (λ y. eqb (f x y) (g x y)))

pub agreed : (n m : ℕ) (f g : ℕ → ℕ → ℕ) → T (agree n m f g) → (x y : ℕ) → x < n → y < m → f x y ≡ g x y
agreed n m f g t x y hx hy = eqb→eq (f x y) (g x y) (at (λ y. eqb (f x y) (g x y)) m (at (λ x. every m (λ y. eqb (f x y) (g x y))) n t x hx) y hy)
