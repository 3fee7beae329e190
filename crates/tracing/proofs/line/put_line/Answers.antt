-- The fields one behind the other.
use Rattle.page.proofs.Gained.{◌then◌}
use Rattle.tracing.proofs.line.put_line.Goals as goal

pub returns : goal.returns
returns c =
    c.put_decimal.ensures then c.put_byte.ensures then c.put_hex4.ensures then c.put_byte-2.ensures
    then c.put_word.ensures then c.put_byte-3.ensures then c.put_core.ensures then c.put_byte-4.ensures
