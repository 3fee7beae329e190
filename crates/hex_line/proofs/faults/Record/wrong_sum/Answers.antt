-- Two digits more, and at most one left.
use Rattle.std.proofs.Common.{◌≡◌, ◌%◌, ◌<◌, drop, length, length-drop, arith, refl, zero-add, ◌∙◌}
use Rattle.hex_line.specs.Line.{said, sum_of, record_of}
use Rattle.hex_line.proofs.RecordBytes.{sum_more, sum_done}
use Rattle.hex_line.proofs.faults.Record.wrong_sum.Goals as goal

pub returns-in_default : goal.returns-in_default
returns-in_default c =
    let l = c.args.self.now.line.now in
    rw (sum_done (drop 1 l) (omega (arith, length-drop 1 l, c.in_default.ensures.cases)))

pub loop-two-init : goal.loop-two-init
loop-two-init c =
    let r = c.args.self.now in
    let s = c.chunks_exact-two-items.ensures in
    let e : drop 1 r.line.now ≡ c.in-Some.digits.now = rw c.in-Some.ensures.cases.0 in
    rw (c.into_iter-two-iterator.ensures.into_iter_gives, s.rest, s.size, zero-add) (rw e, rw e at r.digits, refl)

pub loop-two-preserved : goal.loop-two-preserved
loop-two-preserved c =
    let i = c.loop-two.invariant in
    let n = c.in-Some-two.ensures.steps in
    let w = sum_more c.loop-two.two-iterator.rest.now c.in-Some-two.two.now c.next.new.self.rest.now c.loop-two.sum c.pair-sum.result n.1.0 (n.1.1 ∙ i.2) i.1 c.pair-sum.ensures in
    (i.0 ∙ w.0, w.1, n.0 ∙ i.2)

pub returns : goal.returns
returns c =
    let i = c.loop-two.invariant in
    let short : length c.loop-two.two-iterator.rest.now < 2 = omega (arith, c.in-None.ensures.steps.1.0, i.2) in
    let none : sum_of (said c.loop-two.two-iterator.rest.now) ≡ 0 = sum_done c.loop-two.two-iterator.rest.now short in
    let e : sum_of (record_of c.args.self.now.line.now) % 256 ≡ c.loop-two.sum = i.0 ∙ rw none (omega arith) in
    rw e
