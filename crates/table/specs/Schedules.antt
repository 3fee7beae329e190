-- 02's numbers of a scheduled run: "Refusals: 30 list not whole records, 31 ticks zero or not rising, 32 output shorter than the number of records; in that order, nothing run", behind 7, 8 and 9.
-- s are the bytes of a snapshot, p is a program, m the bytes of data, l the bytes of a list, e the numbers lent for output.
use Rattle.std.specs.Prelude.{◌≡◌, Bool, false, not, ◌&&◌, List, [], ◌∷◌, ◌++◌, ℕ, ◌/◌, ◌%◌, eqb, ltb, length}
use Rattle.schedule.specs.Schedule.{records_of, rising, refusal_in, schedule_in, of_check}
use Rattle.host.specs.Host.{told_ticks}
use Rattle.host.specs.Schedules.{avr_run_schedule_of}
use Rattle.table.specs.Table.{Given}
use Rattle.table.specs.Calls.{readable, snapshot_rows, only_if}

abbrev pub list_rows : List ℕ → ℕ → List (ℕ × Bool)
list_rows l room =
    let whole = eqb (length l % 5) 0 in
    let rises = rising 0 (records_of l) in
    let short = ltb room (length l / 5) in
    (30, not whole) ∷ (31, whole && not rises) ∷ (32, whole && rises && short) ∷ (0, whole && rises && not short) ∷ []

-- each number exactly when its condition holds, 0 where the run begins; refused, nothing changes, `ticks` included; and a run that begins answers none of them
pub record ScheduleCalls (s p m l : List ℕ) (budget : ℕ) (e : List ℕ) (ticks : ℕ) : Type 0 where
  pub checks : Given (refusal_in s l (length e)) (snapshot_rows s ++ only_if (readable s) (list_rows l (length e)))
  pub refused : (refusal_in s l (length e) ≡ 0 → ⊥) → avr_run_schedule_of s p m l budget e ticks ≡ told_ticks (refusal_in s l (length e)) s m ticks
  pub refused_numbers : (refusal_in s l (length e) ≡ 0 → ⊥) → (schedule_in s p m l budget e).numbers ≡ e
  pub apart : refusal_in s l (length e) ≡ 0 → of_check (avr_run_schedule_of s p m l budget e ticks).number ≡ false

abbrev pub ScheduleCallsByTheTable : Type 0
ScheduleCallsByTheTable = (s p m l : List ℕ) (budget : ℕ) (e : List ℕ) (ticks : ℕ) → ScheduleCalls s p m l budget e ticks
