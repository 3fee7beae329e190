-- A fact at every number below a bound, and first numbers.
-- Assumes nothing.
use mathlib.Core.Path.{◌≡◌, sym, ◌∙◌, subst}
use mathlib.Core.Logic.{inl, inr}
use mathlib.Core.Bool.{Bool}
use Prim.Native.Nat.{ℕ, suc, ◌≤◌, ◌<◌}
use native.Mathlib.Nat.{eq-or-lt_of_le}
use native.Mathlib.Decide.{dec_lt}
use native.Mathlib.Omega.{arith}
use Rattle.basis.proofs.Choice.{clash}
use Rattle.interrupts.specs.Handlers.{First, FirstReti}

-- from below j, and j itself, to below the next
pub grow : (P : ℕ → Type 0) (j : ℕ) → ((u : ℕ) → u < j → P u) → P j → (u : ℕ) → u < suc j → P u
grow P j f p u h =
    let h₁ : u ≤ j = omega arith in
    elim (eq-or-lt_of_le h₁) [ inl e ↦ subst P (sym e) p | inr l ↦ f u l ]

pub first_unique : {P : ℕ → Type 0} (j i : ℕ) → First P j → First P i → j ≡ i
first_unique j i a b =
    elim (dec_lt j i) [
      | yes h ↦ absurd (b.not_before j h a.reached)
      | no h ↦ elim (dec_lt i j) [ yes h' ↦ absurd (a.not_before i h' b.reached) | no h' ↦ omega arith ]
    ]

pub reti_unique : {returns : ℕ → Bool} {t : ℕ} (r r' : ℕ) → FirstReti returns t r → FirstReti returns t r' → r ≡ r'
reti_unique r r' a b =
    elim (dec_lt r r') [
      | yes h ↦ clash (sym a.here ∙ b.not_between r a.later h)
      | no h ↦ elim (dec_lt r' r) [ yes h' ↦ clash (sym b.here ∙ a.not_between r' b.later h') | no h' ↦ omega arith ]
    ]
