-- The two operations in turn are the tick.
use Rattle.tick.proofs.Foretold.{answered, left}
use Rattle.tick.proofs.tick.Goals as goal

pub returns : goal.returns
returns c =
    let a = c.args in
    let plan = c.decide-plan.ensures in
    let next = left a.core a.program.now a.«data».now a.offer plan c.carry_out-next.ensures in
    record { answer = answered a.core a.program.now a.«data».now a.offer plan c.answer.ensures; core = next.core; bytes = next.bytes }
