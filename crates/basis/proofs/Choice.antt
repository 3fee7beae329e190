-- A choice by a test; tests that are the same, and one that is not both.
-- Assumes nothing.
use mathlib.Core.Path.{◌≡◌, refl, subst}
use mathlib.Core.Bool.{Bool, true, false, beq}
use lib.Dec.{T}
use Rattle.basis.specs.Pick.{pick}

pub clash : {A : Type 0} → true ≡ false → A
clash z = absurd (subst T z tt)

pub same : (a b : Bool) → T (beq a b) → a ≡ b
same true true t = refl
same true false t = absurd t
same false true t = absurd t
same false false t = refl

-- what follows where a test is so, and where it is not
pub test : {X : Type 0} (c : Bool) → (c ≡ true → X) → (c ≡ false → X) → X
test true f g = f refl
test false f g = g refl

-- of a choice holds what holds of each side where its test is so
pub cases : {A : Type 0} (P : A → Type 0) (c : Bool) (x y : A) → (c ≡ true → P x) → (c ≡ false → P y) → P (pick c x y)
cases P true x y f g = f refl
cases P false x y f g = g refl

-- and what holds of both, whatever the test
pub either : {A : Type 0} (P : A → Type 0) (c : Bool) (x y : A) → P x → P y → P (pick c x y)
either P true x y a b = a
either P false x y a b = b
