-- 32 registers, and six bytes behind them.
use Rattle.std.proofs.Common.{arith}
use Rattle.snapshot.proofs.Laid.{laid}
use Rattle.snapshot.proofs.bytes_of.Goals as goal

pub returns : goal.returns
returns c =
    let pc = c.to_be_bytes in
    let sp = c.to_be_bytes-2 in
    laid c.args.core pc.result sp.result _ _ _ (omega arith) (omega arith) (omega arith) c.copy_from_slice.ensures.after pc.ensures sp.ensures c.last_byte-last.ensures c.copy_from_slice-2.ensures.after
