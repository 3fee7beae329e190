-- 02, W5, through the C interface: the checks 7, 8, 9, then 30, 31, 32, then the scheduled run; its count goes into `ticks`, which a call refused by a check leaves as it was.
-- s are the bytes of a snapshot, p is a program, m the bytes of data, l the bytes of a list, e the numbers lent for output, r what the scheduled run gives.
use Rattle.std.specs.Prelude.{List, ℕ, eqb, length}
use Rattle.basis.specs.Pick.{pick}
use Rattle.schedule.specs.Schedule.{refusal_in, schedule_in}
use Rattle.host.specs.Host.{ToldTicks, told_ticks}

unfoldable pub avr_run_schedule_of : List ℕ → List ℕ → List ℕ → List ℕ → ℕ → List ℕ → ℕ → ToldTicks
avr_run_schedule_of s p m l budget e ticks =
    let r = (schedule_in s p m l budget e).run in
    told_ticks r.answer r.snapshot r.bytes (pick (eqb (refusal_in s l (length e)) 0) r.count ticks)
