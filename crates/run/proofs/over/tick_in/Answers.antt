-- A wait in the last byte alone, or a run of one tick.
use Rattle.std.proofs.Common.{rules}
use Rattle.run.proofs.Turns.{in_bytes}
use Rattle.run.proofs.Calls.{tick_waited, tick_waits, tick_answered, tick_told}
use Rattle.run.proofs.over.tick_in.Goals as goal

pub returns-then-last-ge32-clause-handed_back : goal.returns-then-last-ge32-clause-handed_back
returns-then-last-ge32-clause-handed_back c = let a = c.args in tick_waited a.snapshot.now a.program.now a.«data».now a.offer (search rules) (in_bytes λ i. search rules) c.if-last-ge32.true

pub returns-then-last-ge32-clause-left : goal.returns-then-last-ge32-clause-left
returns-then-last-ge32-clause-left c = tick_waits _ _ _ _ (search rules) (in_bytes λ i. search rules) c.if-last-ge32.true

pub returns-clause-handed_back : goal.returns-clause-handed_back
returns-clause-handed_back c = tick_told _ _ _ _ (search rules) c.advance.ensures c.if-last-ge32.false c.answered.ensures

pub returns-clause-left : goal.returns-clause-left
returns-clause-left c = tick_answered _ _ _ _ (search rules) c.advance.ensures c.if-last-ge32.false c.answered.ensures
