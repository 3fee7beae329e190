-- The checks of a list, where they are passed and where they are not.
-- Assumes nothing.
use mathlib.Core.Path.{◌≡◌, refl}
use mathlib.Core.Bool.{Bool, true, false}
use mathlib.Core.List.{List, ◌++◌}
use Prim.Native.Nat.{ℕ, ◌/◌, ◌%◌, ◌≤◌}
use native.Mathlib.Omega.{arith}
use lib.Dec.{eqb, ltb}
use lib.ListN.{take, drop, length, replicate}
use Rattle.std.proofs.Common.{length-take-le}
use borrow.Author.Tests.{ltb-false}
use Rattle.basis.specs.Pick.{pick}
use Rattle.schedule.specs.Schedule.{records_of, rising, refusal_of}

-- the three tests: whole records, rising, too little room
abbrev checked : Bool → Bool → Bool → ℕ
checked w r t = pick w (pick r (pick t 32 0) 31) 30

all : (w r t : Bool) → checked w r t ≡ 0 → (w ≡ true) × ((r ≡ true) × (t ≡ false))
all true true true h = absurd (omega (arith, h))
all true true false h = (refl, (refl, refl))
all true false t h = absurd (omega (arith, h))
all false r t h = absurd (omega (arith, h))

module _ (l : List ℕ) (room : ℕ) (h : refusal_of l room ≡ 0) where
  pub passed_rises : rising 0 (records_of l) ≡ true
  passed_rises = (all (eqb (length l % 5) 0) (rising 0 (records_of l)) (ltb room (length l / 5)) h).1.0

  pub passed_room : length l / 5 ≤ room
  passed_room = ltb-false room (length l / 5) (all (eqb (length l % 5) 0) (rising 0 (records_of l)) (ltb room (length l / 5)) h).1.1

-- a number for each record is cleared
pub cleared : (l e : List ℕ) → refusal_of l (length e) ≡ 0 → {n : ℕ} {z : List ℕ} → n ≡ length l / 5 → z ≡ replicate (length (take n e)) 0
    → z ++ drop n e ≡ replicate (length l / 5) 0 ++ drop (length l / 5) e
cleared l e h {n} many zeros =
    let room = passed_room l (length e) h in
    rw (zeros, many, length-take-le (length l / 5) e (omega (arith, room)))
