-- Boolean formulas that agree, each by one computed test.
-- Assumes nothing.
use mathlib.Core.Path.{◌≡◌, refl}
use mathlib.Core.Bool.{Bool, true, false, ◌&&◌}
use Prim.Native.Nat.{ℕ, ◌<◌}
use native.Mathlib.Omega.{arith}
use lib.Dec.{T, eqb, eqb→eq}
use Rattle.basis.specs.Bit.{one}
use Rattle.basis.proofs.Both.{both_left, both_right}
use Rattle.basis.proofs.Every.{every, at, agreed}

pub bits_same : (x y : Bool) → one x ≡ one y → x ≡ y
bits_same true true h = refl
bits_same false false h = refl
bits_same true false h = absurd (omega arith)
bits_same false true h = absurd (omega arith)

-- a test at both Booleans
abbrev pub each : (Bool → Bool) → Bool
each p = p true && p false

pub of : (p : Bool → Bool) → T (each p) → (b : Bool) → T (p b)
of p t true = both_left (p true) (p false) t
of p t false = both_right (p true) (p false) t

-- two formulas of three Booleans
abbrev same3 : (Bool → Bool → Bool → Bool) → (Bool → Bool → Bool → Bool) → Bool → Bool → Bool → Bool
same3 f g a b c = eqb (one (f a b c)) (one (g a b c))

pub tauto : (f g : Bool → Bool → Bool → Bool) → T (each (λ a. each (λ b. each (λ c. same3 f g a b c)))) → (a b c : Bool) → f a b c ≡ g a b c
tauto f g t a b c =
    bits_same (f a b c) (g a b c)
    (eqb→eq (one (f a b c)) (one (g a b c)) (of (λ c. same3 f g a b c) (of (λ b. each (λ c. same3 f g a b c)) (of (λ a. each (λ b. each (λ c. same3 f g a b c))) t a) b) c))

-- two tests of a number below n
pub tests_agree : (n : ℕ) (f g : ℕ → Bool) → T (every n (λ x. eqb (one (f x)) (one (g x)))) → (x : ℕ) → x < n → f x ≡ g x
tests_agree n f g t x h = bits_same (f x) (g x) (eqb→eq (one (f x)) (one (g x)) (at (λ x. eqb (one (f x)) (one (g x))) n t x h))

-- two tests of two numbers, below n and below m
pub tests_agree2 : (n m : ℕ) (f g : ℕ → ℕ → Bool) → T (every n (λ x. every m (λ y. eqb (one (f x y)) (one (g x y))))) → (x y : ℕ) → x < n → y < m → f x y ≡ g x y
tests_agree2 n m f g t x y hx hy = bits_same (f x y) (g x y) (agreed n m (λ x y. one (f x y)) (λ x y. one (g x y)) t x y hx hy)

-- two numbers made of five Booleans and of a number below n
abbrev same6 : (Bool → Bool → Bool → Bool → Bool → ℕ → ℕ) → (Bool → Bool → Bool → Bool → Bool → ℕ → ℕ) → ℕ → Bool → Bool → Bool → Bool → Bool → Bool
same6 f g n a b c d e = every n (λ s. eqb (f a b c d e s) (g a b c d e s))

pub five_agree : (n : ℕ) (f g : Bool → Bool → Bool → Bool → Bool → ℕ → ℕ)
    → T (each (λ a. each (λ b. each (λ c. each (λ d. each (λ e. same6 f g n a b c d e))))))
    → (a b c d e : Bool) (s : ℕ) → s < n → f a b c d e s ≡ g a b c d e s
five_agree n f g t a b c d e s h =
    eqb→eq (f a b c d e s) (g a b c d e s)
    (at (λ s. eqb (f a b c d e s) (g a b c d e s)) n
    (of (λ e. same6 f g n a b c d e)
    (of (λ d. each (λ e. same6 f g n a b c d e))
    (of (λ c. each (λ d. each (λ e. same6 f g n a b c d e)))
    (of (λ b. each (λ c. each (λ d. each (λ e. same6 f g n a b c d e))))
    (of (λ a. each (λ b. each (λ c. each (λ d. each (λ e. same6 f g n a b c d e))))) t a) b) c) d) e) s h)
