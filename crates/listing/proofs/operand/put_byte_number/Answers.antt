-- 0x and two digits.
use Rattle.page.proofs.Gained.{◌then◌}
use Rattle.listing.proofs.operand.put_byte_number.Goals as goal

pub returns : goal.returns
returns c = c.put_text.ensures then c.put_hex2.ensures
