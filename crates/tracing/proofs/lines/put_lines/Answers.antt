-- Each tick's line is the next of the whole trace.
use Rattle.std.proofs.Common.{◌≡◌, true, false, rules}
use mathlib.Core.Bool.{◌||◌}
use Rattle.tick.specs.Tick.{refuses, stops}
use Rattle.page.proofs.Gained.{none, ◌then◌}
use Rattle.tracing.proofs.Unroll.{begun, spent, ends, goes_on}
use Rattle.tracing.proofs.lines.put_lines.Goals as goal

pub loop-number-init : goal.loop-number-init
loop-number-init c = let a = c.args in λ q g. rw (begun a.sp a.budget a.program.now c.fresh-core.result c.fresh-core.ensures) g

pub returns-then-refuses : goal.returns-then-refuses
returns-then-refuses c =
    let l = c.loop-number in
    let over : (refuses c.tick-ticked.result.answer || stops c.tick-ticked.result.answer) ≡ true = search rules in
    l.invariant _ (rw (ends c.args.budget l.number l.core c.args.program.now l.«data» _ _ c.loop-number-test.true c.tick-ticked.ensures over) c.put_line.ensures)

pub loop-number-preserved : goal.loop-number-preserved
loop-number-preserved c =
    let l = c.loop-number in
    let on : (refuses c.tick-ticked.result.answer || stops c.tick-ticked.result.answer) ≡ false = search rules in
    let more = goes_on c.args.budget l.number l.core c.args.program.now l.«data» _ _ c.loop-number-test.true c.tick-ticked.ensures on in
    λ q g. l.invariant q (rw more (c.put_line.ensures then g))

pub returns : goal.returns
returns c =
    let l = c.loop-number in
    l.invariant l.page (rw (spent c.args.budget l.number l.core c.args.program.now l.«data» c.loop-number-test.false) (none l.page))
