-- A run that answered anything but 24 answers the same under any larger budget.
-- Assumes nothing.
use Rattle.std.proofs.Common.{◌≡◌, zero, suc, Bool, true, false, refl, ap, le_of_suc-le-suc, not-suc-le-zero}
use Rattle.tick.specs.Tick.{Tick, refuses, stops, tick_of}
use Rattle.run.specs.Run.{Run, after, ran, run_of, SameUnderLargerBudget}
use Rattle.run.proofs.Unroll.{step}

-- two rests that agree unless the first is out of budget give runs that agree unless the first is
lifted : (r s : Bool) (t : Tick) (x y : Run) → ((x.answer ≡ 24 → ⊥) → y ≡ x) → ((step r s t x).answer ≡ 24 → ⊥) → step r s t y ≡ step r s t x
lifted true s t x y h n = refl
lifted false true t x y h n = refl
lifted false false t x y h n = ap (after 1) (h n)

pub same_under_larger_budget : SameUnderLargerBudget
unfolding ran
same_under_larger_budget zero larger h k p m o n = absurd (n refl)
same_under_larger_budget (suc b) zero h k p m o n = absurd (not-suc-le-zero h)
same_under_larger_budget (suc b) (suc l) h k p m o n =
    let t = tick_of k p m o in
    lifted (refuses t.answer) (stops t.answer) t (run_of b t.core p t.bytes o) (run_of l t.core p t.bytes o)
    (same_under_larger_budget b l (le_of_suc-le-suc h) t.core p t.bytes o) n
