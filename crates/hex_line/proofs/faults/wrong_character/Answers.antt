-- The first character apart, then digit by digit.
use Rattle.std.proofs.Common.{arith, rules}
use Rattle.hex_line.specs.Line.{wrong_character, is_digit}
use Rattle.hex_line.proofs.Characters.{no_character, next_character, last_character}
use Rattle.hex_line.proofs.faults.wrong_character.Goals as goal

pub returns-in_default : goal.returns-in_default
returns-in_default c = no_character c.args.line.now c.in_default.ensures.cases

pub loop-c-init : goal.loop-c-init
unfolding wrong_character
loop-c-init c = rw c.in-Some.ensures.cases.0

pub loop-c-preserved : goal.loop-c-preserved
unfolding is_digit
loop-c-preserved c =
    let more = next_character c.in-Some.digits.now c.loop-c.c-index c.loop-c.right (search rules) in
    grind arith

pub returns : goal.returns
returns c = rw (c.loop-c.invariant, last_character c.in-Some.digits.now c.loop-c.c-index c.loop-c.right c.loop-c-test.false)
