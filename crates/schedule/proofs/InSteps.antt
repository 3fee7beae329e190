-- A scheduled run taken up where its budget had ended.
-- Assumes nothing.
use mathlib.Core.Path.{◌≡◌, refl, ap, ◌∙◌}
use mathlib.Core.Bool.{Bool, true, false}
use mathlib.Core.List.{List, [], ◌∷◌, ◌++◌}
use Prim.Native.Nat.{ℕ, zero, suc, ◌+◌}
use native.Mathlib.Nat.{zero-add, suc-add}
use native.Mathlib.Omega.{arith}
use lib.Dec.{eqb}
use lib.ListN.{drop, length, replicate}
use borrow.Author.Tests.{ne_eqb, eqb-false}
use Rattle.tick.specs.Tick.{Tick, number_of, refuses, stops, tick_of}
use Rattle.schedule.specs.Schedule.{Record, offered, Scheduled, noted, scheduled}
use Rattle.schedule.specs.Laws.{entered_of, taken_up, RunsInSteps}
use Rattle.schedule.proofs.Steps.{step_by, by_number}

none_entered : (n : ℕ) → entered_of (replicate n 0) ≡ []
unfolding entered_of
none_entered zero = refl
none_entered (suc n) = refl

one_more : (n : ℕ) (ds : List Record) → drop n (drop 1 ds) ≡ drop (suc n) ds
one_more zero [] = refl
one_more (suc n) [] = refl
one_more n (d ∷ ds) = refl

-- the first record's number stands in front
noted_first : (count left : ℕ) (p : List ℕ) (ds : List Record) (x : Scheduled) → noted (suc count) (taken_up x left p (drop 1 ds)) ≡ taken_up (noted (suc count) x) left p ds
unfolding entered_of
noted_first count left p ds x =
    let e = entered_of x.entries in
    rw (ne_eqb (suc count) 0 (λ z. omega (arith, z)))
    (ap (λ (rest : List Record). let y = scheduled left x.run.count x.run.core p x.run.bytes rest in record { run = y.run; entries = suc count ∷ (e ++ y.entries) }) (one_more (length e) ds))

-- by what a tick does; x and y are the rest of the step, x' and y' of the whole run
by_tick : (r s e : Bool) (count left : ℕ) (p : List ℕ) (t : Tick) (ds : List Record) (x y x' y' : Scheduled) → (number_of t.answer ≡ 24 → ⊥)
    → (x.run.answer ≡ 24 → x' ≡ taken_up x left p (drop 1 ds)) → (y.run.answer ≡ 24 → y' ≡ taken_up y left p ds)
    → (step_by r s e count t ds x y).run.answer ≡ 24 → step_by r s e count t ds x' y' ≡ taken_up (step_by r s e count t ds x y) left p ds
by_tick true s e count left p t ds x y x' y' n f g h = absurd (n h)
by_tick false true e count left p t ds x y x' y' n f g h = absurd (n h)
by_tick false false true count left p t ds x y x' y' n f g h = ap (noted (suc count)) (f h) ∙ noted_first count left p ds x
by_tick false false false count left p t ds x y x' y' n f g h = g h

pub runs_in_steps : RunsInSteps
unfolding scheduled
runs_in_steps zero left done k p m ds h = rw (zero-add, none_entered)
runs_in_steps (suc j) left done k p m ds h =
    let t = tick_of k p m (offered (suc done) ds) in
    let rest : ℕ → List Record → Scheduled = λ n. scheduled n (suc done) t.core p t.bytes in
    let n = eqb-false (number_of t.answer) 24 (by_number k p m (offered (suc done) ds)).unspent in
    ap (λ (z : ℕ). scheduled z done k p m ds) (suc-add j left)
    ∙ by_tick (refuses t.answer) (stops t.answer) (eqb (number_of t.answer) 17) done left p t ds (rest j (drop 1 ds)) (rest j ds) (rest (j + left) (drop 1 ds)) (rest (j + left) ds) n
    (runs_in_steps j left (suc done) t.core p t.bytes (drop 1 ds)) (runs_in_steps j left (suc done) t.core p t.bytes ds) h
