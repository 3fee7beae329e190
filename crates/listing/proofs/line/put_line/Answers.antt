-- The address, the row, LF.
use Rattle.page.proofs.Gained.{◌then◌}
use Rattle.listing.proofs.line.put_line.Goals as goal

pub returns : goal.returns
returns c = c.put_hex4.ensures then c.put_byte.ensures then c.put_row.ensures then c.put_byte-2.ensures
