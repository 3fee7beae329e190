-- The stack's bytes: where entry writes them, and what it and RETI need.
-- Assumes nothing.
use mathlib.Core.Path.{◌≡◌, refl}
use mathlib.Core.Bool.{Bool, true, false}
use mathlib.Core.List.{List}
use Prim.Native.Nat.{ℕ, ◌-◌, ◌≤◌, ◌<◌}
use native.Mathlib.Omega.{arith}
use borrow.Author.Tests.{ltb-true, leb-true}
use lib.Dec.{ltb, leb}
use lib.ListN.{get_or, set, length, length-set}
use lib.Seq.{get_or-set_same, get_or-set_other}
use Rattle.basis.specs.Pick.{pick}
use Rattle.basis.specs.Bit.{down}
use Rattle.cores.specs.declared.Core.{Core}
use Rattle.execute.specs.Needs.{refusal, push_needs}

pub low_byte : (m : List ℕ) (sp a b : ℕ) → 2 ≤ sp → sp < length m → sp < 65536 → get_or (set (set m sp a) (down sp 1) b) sp 0 ≡ a
low_byte m sp a b h r f =
    let z : down sp 1 ≡ sp - 1 = omega arith in
    rw (z, get_or-set_other (set m sp a) (sp - 1) sp b 0 (omega arith), get_or-set_same m sp a 0 r)

pub high_byte : (m : List ℕ) (sp a b : ℕ) → 2 ≤ sp → sp < length m → sp < 65536 → get_or (set (set m sp a) (down sp 1) b) (sp - 1) 0 ≡ b
high_byte m sp a b h r f =
    let z : down sp 1 ≡ sp - 1 = omega arith in
    rw (z, get_or-set_same (set m sp a) (sp - 1) b 0 (omega (arith, length-set m sp a)))

-- what a refusal tests, where nothing is lacking
pub met : (program stack bytes : Bool) → ◌≡◌ {A = ℕ} (pick program (pick stack (pick bytes 0 4) 3) 1) 0 → (stack ≡ true) × (bytes ≡ true)
met true true true h = (refl, refl)
met true true false h = absurd (omega (arith, h))
met true false bytes h = absurd (omega (arith, h))
met false stack bytes h = absurd (omega (arith, h))

pub push_room : (k : Core) (m : List ℕ) → refusal (push_needs k m) ≡ 0 → (2 ≤ k.sp) × (k.sp < length m)
push_room k m h = let (a, b) = met true (leb 2 k.sp) (ltb k.sp (length m)) h in (leb-true 2 k.sp a, ltb-true k.sp (length m) b)
