-- A run of which nothing is done.
use native.Mathlib.Nat.{sub-zero}
use Rattle.schedule.proofs.run_in.Goals as goal

pub returns-clause-value : goal.returns-clause-value
returns-clause-value c = let e = c.go_on.ensures.value in rw sub-zero at e

pub returns-clause-snapshot_after : goal.returns-clause-snapshot_after
returns-clause-snapshot_after c = let e = c.go_on.ensures.snapshot_after in rw sub-zero at e

pub returns-clause-data_after : goal.returns-clause-data_after
returns-clause-data_after c = let e = c.go_on.ensures.data_after in rw sub-zero at e

pub returns-clause-entered_after : goal.returns-clause-entered_after
returns-clause-entered_after c = let e = c.go_on.ensures.entered_after in rw sub-zero at e
