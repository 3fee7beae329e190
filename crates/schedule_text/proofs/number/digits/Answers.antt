-- A digit more, a character that is none, and no character more.
use Rattle.std.proofs.Common.{◌-◌, length, drop, arith, rules, sym, ap, ◌∙◌, length-drop}
use lib.Seq.{take_all}
use Rattle.schedule_text.proofs.Digits.{more, none, over}
use Rattle.schedule_text.proofs.number.digits.Goals as goal

pub returns-in_default-clause-value : goal.returns-in_default-clause-value
returns-in_default-clause-value c =
    let l = c.loop-n in
    sym (ap (λ x. x.value) (l.invariant.1 ∙ none c.args.text.now c.min-most.result l.n c.args.base l.value c.min-most.ensures c.requires.1 c.loop-n-test.true c.in_default.ensures.value))

pub returns-in_default-clause-behind : goal.returns-in_default-clause-behind
returns-in_default-clause-behind c =
    let l = c.loop-n in
    let t = c.args.text.now in
    let e = none t c.min-most.result l.n c.args.base l.value c.min-most.ensures c.requires.1 c.loop-n-test.true c.in_default.ensures.value in
    rw (l.invariant.1, e, take_all (length t - l.n) (drop l.n t) (omega (arith, length-drop l.n t)))

pub overflow_mul-value : goal.overflow_mul-value
overflow_mul-value c =
    let l = c.loop-n in
    let digit = c.in-Some.ensures.value in
    let m = more c.args.text.now c.min-most.result l.n c.args.base l.value c.min-most.ensures c.requires.1 c.in-Some.digit c.loop-n-test.true l.invariant.0 digit.0 digit.1 in
    let f = m.fits in
    search rules

pub overflow_add-value : goal.overflow_add-value
overflow_add-value c =
    let l = c.loop-n in
    let digit = c.in-Some.ensures.value in
    let m = more c.args.text.now c.min-most.result l.n c.args.base l.value c.min-most.ensures c.requires.1 c.in-Some.digit c.loop-n-test.true l.invariant.0 digit.0 digit.1 in
    let f = m.fits in
    search rules

pub loop-n-preserved : goal.loop-n-preserved
loop-n-preserved c =
    let l = c.loop-n in
    let digit = c.in-Some.ensures.value in
    let m = more c.args.text.now c.min-most.result l.n c.args.base l.value c.min-most.ensures c.requires.1 c.in-Some.digit c.loop-n-test.true l.invariant.0 digit.0 digit.1 in
    (m.small, l.invariant.1 ∙ m.rest)

pub returns-clause-value : goal.returns-clause-value
returns-clause-value c =
    let l = c.loop-n in
    sym (ap (λ x. x.value) (l.invariant.1 ∙ over c.args.text.now c.min-most.result l.n c.args.base l.value c.min-most.ensures c.requires.1 c.loop-n-test.false l.auto.n-end))

pub returns-clause-behind : goal.returns-clause-behind
returns-clause-behind c =
    let l = c.loop-n in
    let t = c.args.text.now in
    let most = c.min-most.result in
    rw (l.invariant.1, over t most l.n c.args.base l.value c.min-most.ensures c.requires.1 c.loop-n-test.false l.auto.n-end, take_all (length t - most) (drop most t) (omega (arith, length-drop most t)))
