-- Too short, or the whole text.
use Rattle.std.proofs.Common.{arith}
use Rattle.intel_hex.proofs.Whole.{short, enough, put}
use Rattle.intel_hex.proofs.write.Goals as goal

pub returns-then-text-length-clause-value : goal.returns-then-text-length-clause-value
returns-then-text-length-clause-value c = (short c.args.program.now c.args.text.now _ c.if-size-gt65536.false (omega (arith, c.div_ceil.ensures)) c.if-text-length.true).0

pub returns-then-text-length-clause-text_after : goal.returns-then-text-length-clause-text_after
returns-then-text-length-clause-text_after c = (short c.args.program.now c.args.text.now _ c.if-size-gt65536.false (omega (arith, c.div_ceil.ensures)) c.if-text-length.true).1

pub put_text-requires : goal.put_text-requires
put_text-requires c =
    let small = c.if-size-gt65536.false in
    (small, enough c.args.program.now c.args.text.now _ small (omega (arith, c.div_ceil.ensures)) c.if-text-length.false)

pub returns-clause-value : goal.returns-clause-value
returns-clause-value c =
    (put c.args.program.now c.args.text.now _ c.if-size-gt65536.false (omega (arith, c.div_ceil.ensures)) c.put_text.new.out c.if-text-length.false c.put_text.ensures).0

pub returns-clause-text_after : goal.returns-clause-text_after
returns-clause-text_after c =
    (put c.args.program.now c.args.text.now _ c.if-size-gt65536.false (omega (arith, c.div_ceil.ensures)) c.put_text.new.out c.if-text-length.false c.put_text.ensures).1
