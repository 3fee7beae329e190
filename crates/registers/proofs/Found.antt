-- The instruction of a form, looked up: in an arm of a match, and past all its arms.
-- Assumes nothing.
use mathlib.Core.Path.{◌≡◌, refl, ◌∙◌}
use mathlib.Core.Logic.{◌⊎◌, inl, inr}
use mathlib.Core.Bool.{Bool, true, false, ◌||◌}
use mathlib.Core.List.{List, [], ◌∷◌}
use Prim.Native.Nat.{ℕ}
use borrow.Author.Tests.{ne_eqb, eqb-true}
use lib.Dec.{T, eqb}
use Rattle.basis.proofs.Choice.{either}
use Rattle.instruction.specs.Decode.{Cases, look}
use Rattle.instruction.specs.declared.Instruction.{Instruction}
use Rattle.instruction.specs.declared.Instruction.TheVariants.{UNDEF}
use Rattle.forms.specs.Instructions.{instructions, by_form, instruction_of}

pub found : (f w s : ℕ) → instruction_of f w s ≡ look f (by_form (instructions w s))
unfolding instruction_of
found f w s = refl

-- ---- f is none of these numbers: in the shape in which a `match` has it in its last arm, after A
abbrev pub NoneOf : Type 0 → ℕ → List ℕ → Type 0
NoneOf A f [] = A
NoneOf A f (n ∷ l) = NoneOf (A × (f ≡ n → ⊥)) f l

abbrev pub among : List ℕ → ℕ → Bool
among [] n = false
among (k ∷ l) n = eqb n k || among l n

apart : (f n m : ℕ) (b : Bool) → (f ≡ n → ⊥) → (T b → f ≡ m → ⊥) → T (eqb m n || b) → f ≡ m → ⊥
apart f n m b h g t e = by (eqb m n) (eqb-true m n) t
  where
    by : (x : Bool) → (x ≡ true → m ≡ n) → T (x || b) → ⊥
    by true q t = h (e ∙ q refl)
    by false q t = g t e

none_after : (A : Type 0) (f : ℕ) (ns : List ℕ) → NoneOf A f ns → A × ((m : ℕ) → T (among ns m) → f ≡ m → ⊥)
none_after A f [] h = (h, λ m t e. t)
none_after A f (n ∷ l) h =
    let (a, g) = none_after (A × (f ≡ n → ⊥)) f l h in
    (a.0, λ m. apart f n m (among l m) a.1 (g m))

-- ---- what holds of UNDEF and of every case whose number is none of these holds of what is found
module _ (P : Instruction → Type 0) (u : P UNDEF) (f : ℕ) (ns : List ℕ) (h : NoneOf Unit f ns) where
  abbrev pub AllBut : Cases → Type 0
  AllBut [] = Unit {0}
  AllBut (e ∷ l) = (T (among ns e.0) ⊎ P e.1) × AllBut l

  pub found_past : (l : Cases) → AllBut l → P (look f l)
  found_past [] a = u
  found_past (e ∷ l) (inl t, a) = rw (ne_eqb f e.0 ((none_after Unit f ns h).1 e.0 t)) (found_past l a)
  found_past (e ∷ l) (inr p, a) = either P (eqb f e.0) e.1 (look f l) p (found_past l a)
