-- The run, and what it gives laid out.
use Rattle.page.proofs.Gained.{◌then◌}
use Rattle.rerunning.specs.Lent.{lent}
use Rattle.rerunning.proofs.Run.{laid_out}
use Rattle.rerunning.proofs.going.put_run.Goals as goal

pub returns : goal.returns
returns c =
    let a = c.args in
    let gone = c.go_on-run.ensures in
    let puts = c.put_byte.ensures then c.put_byte-2.ensures then c.put_state.ensures in
    laid_out a.budget (lent a.state) a.program.now a.list.now c.copy_from_slice.ensures.after c.copy_from_slice-2.ensures.after c.left_of-left.ensures
    gone.value gone.snapshot_after gone.data_after gone.entered_after c.entered_in.ensures (rw c.told-answer.ensures at puts)
