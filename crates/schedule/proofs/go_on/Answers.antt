-- The list's run leaves the snapshot of its last core.
use Rattle.std.proofs.Common.{◌∙◌, ap, sym}
use Rattle.snapshot.specs.Snapshot.{said_read}
use Rattle.run.proofs.Stretched.{long}
use Rattle.run.proofs.Turns.{in_bytes}
use Rattle.schedule.proofs.Refusals.{list_passed, read_passed}
use Rattle.schedule.proofs.Whole.{in_passed}
use Rattle.schedule.proofs.go_on.Goals as goal

pub returns-clause-snapshot_after : goal.returns-clause-snapshot_after
returns-clause-snapshot_after c =
    let a = c.args in
    let read = sym (ap said_read c.in_ok-read.was) ∙ c.read.ensures in
    let passed = read_passed a.snapshot.now a.list.now _ c.in_ok-read.field-0 read ∙ list_passed c.check.ensures c.in_ok-check.was in
    sym (ap (λ z. z.run.snapshot) (in_passed a.snapshot.now a.program.now a.«data».now a.list.now a.done a.budget a.entered.now passed (long a.snapshot.now (ap (λ r. r.refusal) (sym read)))
    c.follow.result c.max.result c.max.ensures (in_bytes c.type_inv.snapshot) c.follow.ensures))
