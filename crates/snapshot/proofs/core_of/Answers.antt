-- The registers are the first 32 bytes.
use Rattle.std.proofs.Common.{sym, arith, length-take-le}
use Rattle.cores.specs.State.{fresh_of, with_regs, with_pc, with_busy, with_inhibit, with_service, with_chip}
use Rattle.snapshot.proofs.core_of.Goals as goal

pub slice_bounds-copy_from_slice-end-2 : goal.slice_bounds-copy_from_slice-end-2
slice_bounds-copy_from_slice-end-2 c = sym (length-take-le 32 c.args.bytes.now (omega arith))

pub returns : goal.returns
unfolding fresh_of with_regs with_pc with_busy with_inhibit with_service with_chip
returns c = rw (c.copy_from_slice.ensures.after, c.from_be_bytes.ensures, c.from_be_bytes-2.ensures)
