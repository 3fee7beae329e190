-- One lower, where dec.
use Rattle.std.proofs.Common.{◌≡◌, ◌+◌, ◌%◌, arith}
use Rattle.basis.specs.Bit.{down}
use Rattle.cores.specs.State.{with_regs}
use Rattle.cores.specs.Transfer.{pointed_of}
use Rattle.effects.proofs.transfer.pointed.Goals as goal

pub returns-then-dec : goal.returns-then-dec
unfolding pointed_of with_regs
returns-then-dec c =
    let at = c.read_word-address.result in
    let e : (at + 65535) % 65536 ≡ down at 1 = omega arith in
    rw (c.if-dec.true, ← c.read_word-address.ensures) e

pub returns-else-dec : goal.returns-else-dec
unfolding pointed_of with_regs
returns-else-dec c = rw c.if-dec.false c.read_word-address.ensures
