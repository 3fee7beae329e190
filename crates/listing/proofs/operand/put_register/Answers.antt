-- An R and the number.
use Rattle.page.proofs.Gained.{◌then◌}
use Rattle.listing.proofs.operand.put_register.Goals as goal

pub returns : goal.returns
returns c = c.put_byte.ensures then c.put_decimal.ensures
