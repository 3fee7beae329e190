-- The low byte and the high one below.
use Rattle.std.proofs.Common.{◌≡◌, ◌+◌, ◌/◌, ◌%◌, arith}
use Rattle.basis.specs.Bit.{down}
use Rattle.cores.specs.State.{with_sp}
use Rattle.effects.proofs.stack.push_word.Goals as goal

pub returns-clause-value : goal.returns-clause-value
unfolding with_sp
returns-clause-value c = let two : (c.args.sp + 65534) % 65536 ≡ down c.args.sp 2 = omega arith in two

pub returns-clause-data_after : goal.returns-clause-data_after
unfolding with_sp
returns-clause-data_after c =
    let one : (c.args.sp + 65535) % 65536 ≡ down c.args.sp 1 = omega arith in
    let high : c.args.value / 256 % 256 ≡ c.args.value / 256 = omega (arith, c.ranges.value.fits) in
    rw (c.write-2.ensures, c.write.ensures, c.to_be_bytes.ensures, one, high)
