-- A step's state handed back.
-- Assumes nothing.
use mathlib.Core.Path.{◌≡◌, sym, ap, ◌∙◌}
use mathlib.Core.List.{List, ◌∷◌, ◌++◌}
use Prim.Native.Nat.{ℕ, ◌+◌, ◌-◌, ◌≤◌, ◌<◌}
use native.Mathlib.Omega.{arith}
use lib.ListN.{length, length-append}
use borrow.Author.Tests.{eq-eqb}
use Rattle.schedule.specs.Schedule.{ScheduleIn}
use Rattle.schedule.specs.Laws.{entered_of}
use Rattle.intel_hex.specs.Reading as hex
use Rattle.schedule_text.specs.Reading as text
use Rattle.schedule_text.proofs.Laws.{text_listed}
use Rattle.rerunning.specs.Rerun.{State, many_of, fours, state_of, image_of, after_of, next_of, gone_on, told_of}
use Rattle.rerunning.specs.Laws.{Limits, Step, RerunInSteps}
use Rattle.rerunning.proofs.Entries.{fours_long, many_more}
use Rattle.rerunning.proofs.Listed.{ds, r}
use Rattle.rerunning.proofs.Whole.{Short, run_short}
use Rattle.rerunning.proofs.InSteps.{told_in_steps}
use Rattle.rerunning.proofs.Joined.{joined_input}

-- the next state keeps the limits
next_limits : (z : State) (t l : List ℕ) (x : ScheduleIn) (many most : ℕ) → Limits z t l → many ≤ 65536 → most < 4294967296 → Short z.bytes (many - many_of z) most x → Limits (next_of z x) t l
next_limits z t l x many most w le small h =
    let new = entered_of x.numbers in
    let long = length-append z.entered (fours new) in
    let more = many_more z.entered new in
    record {
      hex = w.hex;
      schedule = w.schedule;
      size = omega (arith, h.bytes, w.size);
      core = h.snapshot;
      whole = omega (arith, long, more, fours_long new, w.whole);
      many = omega (arith, more, h.new, w.many, le);
      done = omega (arith, h.count, small);
    }

module _ (b : ℕ) (z : State) (t l : List ℕ) (step : Step b z t l) where
  told_is : told_of b z t l ≡ gone_on b z (image_of t) (r l 65536)
  told_is = rw (eq-eqb (hex.read_of t 49152).refusal 0 step.image, eq-eqb (text.read_of l 65536).fault 0 step.list)

  abbrev next : State
  next = next_of z (after_of b z (image_of t) (r l 65536))

  written : told_of b z t l ≡ 0 ∷ 24 ∷ (state_of next ++ r l 65536)
  written = told_is ∙ ap (λ (n : ℕ). 0 ∷ n ∷ (state_of next ++ r l 65536)) step.spent

pub rerun_in_steps : RerunInSteps
rerun_in_steps b c z t l less small step =
    let w = step.limits in
    let h = run_short b z t l w.core step.core_bytes step.data_bytes in
    let after = next_limits z t l (after_of b z (image_of t) (r l 65536)) (length (ds l 65536)) (z.done + (b - z.done)) w (text_listed l 65536 0).few (omega (arith, less, small, w.done)) h in (
      joined_input b z t l (omega (arith, less, small)) w ∙ written b z t l step,
      joined_input c (next b z t l step) t l small after ∙ told_in_steps b c z t l less step.core_bytes step.data_bytes step.spent ∙ sym (joined_input c z t l small w),
    )
