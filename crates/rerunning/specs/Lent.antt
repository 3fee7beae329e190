-- The state of the code, whose bytes are lent, as `Rerun` has it, and what its run tells. z is a state, e are the numbers of entries, done the ticks done before the run.
use Rattle.std.specs.Prelude.{List, ◌++◌, ℕ, Result, Ok, Err}
use Rattle.run.specs.Run.{ended_number}
use Rattle.run.specs.declared.over.Over.{Over}
use Rattle.schedule.specs.Schedule.{refused_number}
use Rattle.schedule.specs.declared.Refused.{Refused}
use Rattle.rerunning.specs.declared.state.State as code
use Rattle.rerunning.specs.Rerun.{State, fours}

abbrev pub lent : code.State → State
lent z = record { done = z.done; core = z.core.now; entered = z.entered.now; bytes = z.«data».now }

-- with these entries behind those that were there
abbrev pub added : State → List ℕ → State
added z e = record z { entered = z.entered ++ fours e }

-- 01's number and the ticks done; a refused run does none
abbrev pub told_by : Result Over Refused → ℕ → ℕ × ℕ
told_by (Ok x) done = (ended_number x.ended, x.ticks)
told_by (Err e) done = (refused_number e, done)
