-- PC, busy, SREG and SP, one space apart.
use Rattle.page.proofs.Gained.{◌then◌}
use Rattle.tracing.proofs.line.put_core.Goals as goal

pub returns : goal.returns
returns c =
    c.put_hex4.ensures then c.put_byte.ensures then c.put_byte-2.ensures then c.put_byte-3.ensures
    then c.put_hex2.ensures then c.put_byte-4.ensures then c.put_hex4-2.ensures
