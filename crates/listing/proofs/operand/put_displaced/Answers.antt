-- The pointer, a plus, the number.
use Rattle.page.proofs.Gained.{◌then◌}
use Rattle.listing.proofs.operand.put_displaced.Goals as goal

pub returns : goal.returns
returns c = c.put_byte.ensures then c.put_byte-2.ensures then c.put_decimal.ensures
