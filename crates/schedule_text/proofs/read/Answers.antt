-- A line more: wrong, without a record, or a record put behind those read so far.
use Rattle.std.proofs.Common.{◌/◌, length}
use Rattle.hex_line.specs.Left.{lines_left}
use Rattle.schedule_text.specs.Reading.{fault_number}
use Rattle.schedule_text.proofs.Through.{begins, over, stopped, passed, fired}
use Rattle.schedule_text.proofs.read.Goals as goal

pub loop-line-init : goal.loop-line-init
loop-line-init c = rw (c.into_iter-line-iterator.ensures.into_iter_gives, c.of-line-items.ensures.lines) (begins c.args.text.now c.args.list.now (length c.args.list.now / 5))

pub returns-in-Err-clause-value : goal.returns-in-Err-clause-value
returns-in-Err-clause-value c =
    (stopped c.loop-line.invariant c.in-Some.line.now (lines_left c.next.new.self) c.in-Some.ensures.steps.lines (fault_number c.in-Err.fault) c.in-Err.ensures).0

pub returns-in-Err-clause-list_after : goal.returns-in-Err-clause-list_after
returns-in-Err-clause-list_after c =
    (stopped c.loop-line.invariant c.in-Some.line.now (lines_left c.next.new.self) c.in-Some.ensures.steps.lines (fault_number c.in-Err.fault) c.in-Err.ensures).1

pub returns-clause-value : goal.returns-clause-value
returns-clause-value c = (over c.loop-line.invariant c.in-None.ensures.steps.lines.0).0

pub returns-clause-list_after : goal.returns-clause-list_after
returns-clause-list_after c = (over c.loop-line.invariant c.in-None.ensures.steps.lines.0).1

pub loop-line-preserved-in-Some-given : goal.loop-line-preserved-in-Some-given
loop-line-preserved-in-Some-given c =
    fired c.loop-line.invariant c.in-Some.line.now (lines_left c.next.new.self) c.in-Some.ensures.steps.lines c.in-Some-given.firing c.put_record.new.list (rw c.in-Some-given.is at c.in-Ok.ensures) c.put_record.ensures

pub loop-line-preserved : goal.loop-line-preserved
loop-line-preserved c = passed c.loop-line.invariant c.in-Some.line.now (lines_left c.next.new.self) c.in-Some.ensures.steps.lines (rw c.in_default.is at c.in-Ok.ensures)
