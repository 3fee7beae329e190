-- Two digits more.
use Rattle.std.proofs.Common.{arith, refl, ◌∙◌}
use lib.Seq.{length-sets}
use Rattle.intel_hex.proofs.Pieces.{digits_none, digits_step}
use Rattle.intel_hex.proofs.put.Page.put_digits.Goals as goal

pub loop-b-init : goal.loop-b-init
loop-b-init c = let page = c.args.self.now in (omega arith, refl, digits_none page.out.now page.at, refl)

pub loop-b-preserved : goal.loop-b-preserved
loop-b-preserved c =
    let page = c.args.self.now in
    let i = c.loop-b.invariant in
    let h = c.put_hex.ensures in
    (omega (arith, h.at, i.0), rw (h.out, length-sets) i.1, rw (h.out, i.2, i.0) (digits_step page.out.now page.at c.args.bytes.now c.loop-b.b-index c.loop-b-test.true), h.same ∙ i.3)
