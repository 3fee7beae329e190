-- A check's number, a wait in the last byte alone, or a run of one tick.
use Rattle.std.proofs.Common.{rules}
use Rattle.run.proofs.Turns.{in_bytes}
use Rattle.run.proofs.Calls.{tick_waits, tick_advanced}
use Rattle.run.proofs.over.tick_number_in.Goals as goal

pub returns-then-last-ge32 : goal.returns-then-last-ge32
returns-then-last-ge32 c = rw c.number.ensures (tick_waits _ _ _ _ (search rules) (in_bytes λ i. search rules) c.if-last-ge32.true)

pub returns : goal.returns
returns c = tick_advanced _ _ _ _ (search rules) c.advance.ensures c.if-last-ge32.false
