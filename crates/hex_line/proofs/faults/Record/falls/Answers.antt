-- The record's numbers as its line says them.
use Rattle.hex_line.proofs.RecordBytes.{address_is, kind_is}
use Rattle.hex_line.proofs.faults.Record.falls.Goals as goal

pub returns : goal.returns
returns c = let r = c.args.self.now in rw (c.kind.ensures, c.address-at.ensures, kind_is r.line.now r.digits, address_is r.line.now r.digits)
