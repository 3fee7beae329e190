-- The record's numbers as its line says them.
use Rattle.hex_line.proofs.RecordBytes.{count_is, kind_is}
use Rattle.hex_line.proofs.faults.Record.wrong_length.Goals as goal

pub returns : goal.returns
returns c = let r = c.args.self.now in rw (c.kind.ensures, c.count-n.ensures, kind_is r.line.now r.digits, count_is r.line.now r.digits)
