-- Each row's line is the next of the whole listing.
use Rattle.std.proofs.Common.{rules}
use Rattle.page.proofs.Gained.{none, ◌then◌}
use Rattle.listing.proofs.Unroll.{spent, goes_on}
use Rattle.listing.proofs.lines.put_lines.Goals as goal

pub loop-pc-preserved : goal.loop-pc-preserved
loop-pc-preserved c =
    let l = c.loop-pc in
    let turn = goes_on c.args.program.now l.pc c.at-row.result c.words-pc.result c.loop-pc-test.true c.at-row.ensures c.words-pc.ensures in
    record { within = search rules; left = λ q g. l.invariant.left q (rw turn (c.put_line.ensures then g)) }

pub returns : goal.returns
returns c = let l = c.loop-pc in l.invariant.left l.page (rw (spent c.args.program.now l.pc c.loop-pc-test.false) (none l.page))
