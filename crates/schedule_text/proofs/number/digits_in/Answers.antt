-- Where nothing is taken, no digit stands in front.
use Rattle.std.proofs.Common.{◌≡◌, ◌-◌, length, length-drop, arith, ap, ◌∙◌}
use Rattle.schedule_text.specs.Reading.{digits_from}
use Rattle.schedule_text.proofs.Digits.{digits_fit}
use Rattle.schedule_text.proofs.number.digits_in.Goals as goal

pub returns-then-behind-text : goal.returns-then-behind-text
returns-then-behind-text c =
    let t = c.args.text.now in
    let n = (digits_from 8 c.args.base 0 0 t).length in
    let left : length c.digits-value.result.1.now ≡ length t - n = ap length c.digits-value.ensures.behind ∙ length-drop n t in
    omega (arith, digits_fit 8 c.args.base 0 0 t, c.if-behind-text.true)
