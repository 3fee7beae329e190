-- The numbers of a scheduled run.
-- Assumes nothing.
use mathlib.Core.Path.{ap, ◌∙◌}
use mathlib.Core.Bool.{not}
use mathlib.Core.List.{List, ◌++◌}
use Prim.Native.Nat.{ℕ, ◌/◌, ◌%◌}
use lib.Dec.{eqb, ltb}
use lib.ListN.{length}
use borrow.Author.Tests.{eq-eqb, ne_eqb}
use Rattle.basis.proofs.Choice.{test}
use Rattle.schedule.specs.Schedule.{records_of, rising, refusal_in}
use Rattle.schedule.proofs.Whole.{schedule_told}
use Rattle.host.specs.Schedules.{avr_run_schedule_of}
use Rattle.table.specs.Calls.{readable, snapshot_rows, only_if}
use Rattle.table.specs.Schedules.{list_rows, ScheduleCallsByTheTable}
use Rattle.table.proofs.Calls.{by_checks}
use Rattle.table.proofs.Table.{Fits, shown}

-- the list's, where the snapshot's are passed
fits : (s l : List ℕ) (room : ℕ) → Fits (refusal_in s l room) (snapshot_rows s ++ only_if (readable s) (list_rows l room))
fits s l room =
    by_checks s (λ w. rw w tt) (λ w b. rw (w, b) tt) (λ w b z. rw (w, b, z) tt)
    λ w b z. test (eqb (length l % 5) 0)
    (λ f. test (rising 0 (records_of l)) (λ g. test (ltb room (length l / 5)) (λ h. rw (w, b, z, f, g, h) tt) λ h. rw (w, b, z, f, g, h) tt) λ g. rw (w, b, z, f, g) tt)
    λ f. rw (w, b, z, f) tt

pub schedule_calls_by_the_table : ScheduleCallsByTheTable
unfolding avr_run_schedule_of
schedule_calls_by_the_table s p m l budget e ticks =
    let n = refusal_in s l (length e) in
    record {
      checks = shown n (snapshot_rows s ++ only_if (readable s) (list_rows l (length e))) (fits s l (length e));
      refused = λ h. rw (ne_eqb n 0 h);
      refused_numbers = λ h. rw (ne_eqb n 0 h);
      apart = λ h. schedule_told s p m l budget e ∙ ap not (eq-eqb n 0 h);
    }
