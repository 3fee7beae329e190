-- A turn makes one tick; behind the last none is left.
use Rattle.std.proofs.Common.{◌+◌, ◌-◌, arith}
use Rattle.ticking.proofs.Ticks.{none_left, one_less}
use Rattle.ticking.proofs.after.Goals as goal

pub loop-preserved : goal.loop-preserved
loop-preserved c =
    let a = c.args in
    let t = c.tick_in_place in
    let left = a.ticks - c.loop.counter in
    one_less left (a.ticks - (c.loop.counter + 1)) (omega arith) c.loop.core t.new.core a.program.now c.loop.«data» t.new.«data» a.offer _ t.ensures.core t.ensures.bytes c.loop.invariant

pub returns : goal.returns
returns c = none_left (c.args.ticks - c.loop.counter) (omega arith) c.loop.core c.args.program.now c.loop.«data» c.args.offer _ c.loop.invariant
