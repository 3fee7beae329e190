-- A byte as two digits.
use Rattle.std.proofs.Common.{sym}
use Rattle.page.proofs.Gained.{◌then◌}
use Rattle.page.proofs.Page.put_hex2.Goals as goal

pub returns : goal.returns
returns c = rw (sym c.hex_digit.ensures, sym c.hex_digit-2.ensures) (c.put_byte.ensures then c.put_byte-2.ensures)
