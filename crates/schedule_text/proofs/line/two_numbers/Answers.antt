-- Where the second number does not stand apart, or more stands behind it.
use Rattle.schedule_text.proofs.Forms.{not_two}
use Rattle.schedule_text.proofs.line.two_numbers.Goals as goal

pub returns-else-second-behind : goal.returns-else-second-behind
returns-else-second-behind c =
    let tick = c.in_ok-tick.ensures in
    let vector = c.in_ok-vector.ensures in
    not_two
    c.args.text.now
    c.in_ok-tick.behind.now
    c.past_blanks-second.result.now
    c.in_ok-vector.end.now
    c.past_blanks.result.now
    c.is_over.result
    tick.0
    tick.2
    c.past_blanks-second.ensures
    vector.0
    vector.2
    c.past_blanks.ensures
    c.is_over.ensures
    c.if-second-behind.false
