-- The upper register, a colon, the lower.
use Rattle.page.proofs.Gained.{◌then◌}
use Rattle.listing.proofs.operand.put_pair.Goals as goal

pub returns : goal.returns
returns c = c.put_register.ensures then c.put_byte.ensures then c.put_register-2.ensures
