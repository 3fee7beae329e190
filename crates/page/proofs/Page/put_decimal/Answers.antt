-- A digit each.
use Rattle.page.proofs.Gained.{◌then◌}
use Rattle.page.proofs.Page.put_decimal.Goals as goal

pub returns : goal.returns
returns c = c.put_if.ensures then c.put_if-2.ensures then c.put_if-3.ensures then c.put_if-4.ensures then c.put_byte.ensures
