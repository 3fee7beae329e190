-- The record's numbers as its line says them.
use Rattle.hex_line.proofs.RecordBytes.{count_is, address_is}
use Rattle.hex_line.proofs.faults.Record.outside.Goals as goal

pub returns : goal.returns
returns c = let r = c.args.self.now in rw (c.count-n.ensures, c.address-at.ensures, count_is r.line.now r.digits, address_is r.line.now r.digits)
