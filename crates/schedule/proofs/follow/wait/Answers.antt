-- A turn of the loop: a tick with the vector offered.
use Rattle.std.proofs.Common.{arith}
use Rattle.run.proofs.Turns.{in_bytes}
use Rattle.schedule.proofs.Waiting.{turn_entered, turn_refused, turn_stopped, turn_waits, turns_spent}
use Rattle.schedule.proofs.follow.wait.Goals as goal

pub returns-in-Entered : goal.returns-in-Entered
returns-in-Entered c =
    turn_entered c.loop-done.invariant (omega arith) (omega arith) (omega arith) (in_bytes c.type_inv.program) c.unwrap-answer.ensures c.tick_in.ensures.handed_back c.tick_in.ensures.left c.in-Entered.is

pub returns-in-Refused : goal.returns-in-Refused
returns-in-Refused c =
    turn_refused c.loop-done.invariant (omega arith) (omega arith) (omega arith) (in_bytes c.type_inv.program) c.unwrap-answer.ensures c.tick_in.ensures.handed_back c.tick_in.ensures.left
    c.in-Refused.field-0 c.in-Refused.is c.into-ended.ensures

pub returns-in-Break : goal.returns-in-Break
returns-in-Break c =
    turn_stopped c.loop-done.invariant (omega arith) (omega arith) (omega arith) (in_bytes c.type_inv.program) c.unwrap-answer.ensures c.tick_in.ensures.handed_back c.tick_in.ensures.left c.in-Break.is c.into-ended.ensures

pub loop-done-preserved : goal.loop-done-preserved
loop-done-preserved c =
    let n = c.in_default in
    turn_waits c.loop-done.invariant (omega arith) (omega arith) (omega arith) (in_bytes c.type_inv.program) c.unwrap-answer.ensures c.tick_in.ensures.handed_back c.tick_in.ensures.left
    n.not-Refused n.not-Entered n.not-Break n.not-End (in_bytes c.type_inv.snapshot) (in_bytes c.type_inv.«data»)

pub returns : goal.returns
returns c = turns_spent c.loop-done.invariant (omega arith) (omega arith)
