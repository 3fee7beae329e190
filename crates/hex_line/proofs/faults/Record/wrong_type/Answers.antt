-- The record's numbers as its line says them.
use Rattle.hex_line.proofs.RecordBytes.{kind_is}
use Rattle.hex_line.proofs.faults.Record.wrong_type.Goals as goal

pub returns : goal.returns
returns c = let r = c.args.self.now in rw (c.kind.ensures, kind_is r.line.now r.digits)
