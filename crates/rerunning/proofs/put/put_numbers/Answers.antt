-- A number more.
use Rattle.std.proofs.Common.{add-one}
use lib.Seq.{take-suc}
use Rattle.page.proofs.Gained.{none, ◌then◌}
use Rattle.rerunning.proofs.Entries.{fours_none, fours_more}
use Rattle.rerunning.proofs.put.put_numbers.Goals as goal

pub loop-n-init : goal.loop-n-init
loop-n-init c = rw fours_none (none c.args.page.now)

pub loop-n-preserved : goal.loop-n-preserved
loop-n-preserved c =
    let i = c.loop-n.n-index in
    rw (add-one i, take-suc c.args.numbers.now i 0 c.loop-n-test.true, fours_more) (c.loop-n.invariant then c.put_number.ensures)
