-- No blank, a blank more, and blanks to the end.
use Rattle.std.proofs.Common.{◌≡◌, ◌-◌, length, drop, length-drop, arith, ◌∙◌}
use lib.Seq.{take_all}
use Rattle.schedule_text.specs.Reading.{blanks}
use Rattle.schedule_text.proofs.Forms.{blank, no_blank, blanks_out}
use Rattle.schedule_text.proofs.line.past_blanks.Goals as goal

pub returns-then-c : goal.returns-then-c
returns-then-c c =
    let t = c.args.text.now in
    let n = c.loop-n.n in
    let e : blanks t ≡ n = c.loop-n.invariant ∙ no_blank t n c.loop-n-test.true c.if-c.true in
    rw (e, take_all (length t - n) (drop n t) (omega (arith, length-drop n t)))

pub loop-n-init : goal.loop-n-init
loop-n-init c = omega arith

pub loop-n-preserved : goal.loop-n-preserved
loop-n-preserved c = c.loop-n.invariant ∙ blank c.args.text.now c.loop-n.n c.loop-n-test.true c.if-c.false

pub returns : goal.returns
returns c =
    let t = c.args.text.now in
    let n = c.loop-n.n in
    let e : blanks t ≡ length t = c.loop-n.invariant ∙ blanks_out t n c.loop-n-test.false ∙ omega (arith, c.loop-n.auto.n-end) in
    rw (e, take_all (length t - length t) (drop (length t) t) (omega (arith, length-drop (length t) t)))
