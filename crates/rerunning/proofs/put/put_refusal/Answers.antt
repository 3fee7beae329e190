-- Two bytes and a number.
use Rattle.page.proofs.Gained.{◌then◌}
use Rattle.rerunning.proofs.put.put_refusal.Goals as goal

pub returns : goal.returns
returns c = c.put_byte.ensures then c.put_byte-2.ensures then c.put_number.ensures
