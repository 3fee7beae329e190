-- The two kinds of table, as a `match` on a number leaves them: past every key, or within a range; and what holds of each of their cases.
-- Assumes nothing.
use Prim.Native.Nat.{ℕ, zero, suc, ◌<◌, ◌≤◌}
use mathlib.Core.List.{[], ◌∷◌}
use mathlib.Core.Path.{◌≡◌, refl}
use lib.Dec.{eqb, ltb}
use borrow.Author.Tests.{ne_eqb, lt-ltb, le-ltb}
use Rattle.basis.proofs.Choice.{either}
use Rattle.instruction.specs.Decode.{Cases, look, under}
use Rattle.instruction.specs.declared.Instruction.{Instruction}
use Rattle.instruction.specs.declared.Instruction.TheVariants.{UNDEF}

-- k is the number of no case: in the shape in which a `match` has it in its last arm, after A
abbrev pub Missed : Type 0 → ℕ → Cases → Type 0
Missed A k [] = A
Missed A k (p ∷ l) = Missed (A × (k ≡ p.0 → ⊥)) k l

missed_after : (A : Type 0) (k : ℕ) (l : Cases) → Missed A k l → A × (UNDEF ≡ look k l)
missed_after A k [] h = (h, refl)
missed_after A k (p ∷ l) h =
    let (a, e) = missed_after (A × (k ≡ p.0 → ⊥)) k l h in
    (a.0, rw (ne_eqb k p.0 a.1) e)

pub missed : (k : ℕ) (l : Cases) → Missed Unit k l → UNDEF ≡ look k l
missed k l h = (missed_after Unit k l h).1

-- k is in the range of case j
abbrev pub In : ℕ → ℕ → Cases → Type 0
In j k [] = ⊥
In zero k (p ∷ l) = k < p.0
In (suc j) k (p ∷ l) = (p.0 ≤ k) × In j k l

abbrev pub case : ℕ → Cases → Instruction
case j [] = UNDEF
case zero (p ∷ l) = p.1
case (suc j) (p ∷ l) = case j l

pub within : (j k : ℕ) (l : Cases) → In j k l → case j l ≡ under k l
within j k [] h = absurd h
within zero k (p ∷ l) h = rw (lt-ltb k p.0 h)
within (suc j) k (p ∷ l) h = rw (le-ltb k p.0 h.0) (within j k l h.1)

-- k is past every range
abbrev pub Past : ℕ → Cases → Type 0
Past k [] = Unit {0}
Past k (p ∷ l) = (p.0 ≤ k) × Past k l

pub past : (k : ℕ) (l : Cases) → Past k l → under k l ≡ UNDEF
past k [] h = refl
past k (p ∷ l) h = rw (le-ltb k p.0 h.0) (past k l h.1)

-- ---- what holds of every case of a table, and of UNDEF, holds of what is found in it
module _ (P : Instruction → Type 0) where
  abbrev pub All : Cases → Type 0
  All [] = Unit {0}
  All (p ∷ l) = P p.1 × All l

  module _ (u : P UNDEF) where
    pub all_looked : (k : ℕ) (l : Cases) → All l → P (look k l)
    all_looked k [] a = u
    all_looked k (p ∷ l) a = either P (eqb k p.0) p.1 (look k l) a.0 (all_looked k l a.1)

    pub all_ranged : (k : ℕ) (l : Cases) → All l → P (under k l)
    all_ranged k [] a = u
    all_ranged k (p ∷ l) a = either P (ltb k p.0) p.1 (under k l) a.0 (all_ranged k l a.1)
