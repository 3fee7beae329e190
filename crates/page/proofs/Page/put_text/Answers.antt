-- A byte more.
use Rattle.std.proofs.Common.{add-one}
use lib.Seq.{take-suc}
use Rattle.page.proofs.Gained.{◌then◌}
use Rattle.page.proofs.Page.put_text.Goals as goal

pub loop-b-preserved : goal.loop-b-preserved
loop-b-preserved c =
    let i = c.loop-b.b-index in
    rw (add-one i, take-suc c.args.text.now i 0 c.loop-b-test.true) (c.loop-b.invariant then c.put_byte.ensures)
