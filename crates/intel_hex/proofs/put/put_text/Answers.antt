-- A line more of the program's text, and the end record.
use Rattle.std.proofs.Common.{◌≡◌, ◌+◌, ◌*◌, length, min, [], arith, ap, ◌∙◌, rules}
use lib.Seq.{sets, length-sets}
use Rattle.intel_hex.specs.Writing.{text_of}
use Rattle.intel_hex.proofs.Whole.{ended, length_line, rest_end, next_low, next_length, next_put}
use Rattle.intel_hex.proofs.put.put_text.Goals as goal

pub put_line-requires : goal.put_line-requires
put_line-requires c =
    let l = c.loop-bytes in
    let i = l.invariant in
    let n = c.in-Some.ensures.steps in
    let long : length c.in-Some.bytes.now ≡ min 16 (length l.bytes-iterator.rest.now) = omega (arith, n.1.1, i.0) in
    let g = next_length l.bytes-iterator.rest.now c.in-Some.bytes.now c.next.new.self.rest.now l.address n.1.0 long n.1.2 i.1 in
    (omega (arith, i.2, g), omega (arith, long))

pub loop-bytes-preserved : goal.loop-bytes-preserved
loop-bytes-preserved c =
    let l = c.loop-bytes in
    let i = l.invariant in
    let n = c.in-Some.ensures.steps in
    let rest = l.bytes-iterator.rest.now in
    let bytes = c.in-Some.bytes.now in
    let left = c.next.new.self.rest.now in
    let long : length bytes ≡ min 16 (length rest) = omega (arith, n.1.1, i.0) in
    let g = next_length rest bytes left l.address n.1.0 long n.1.2 i.1 in
    let w = c.put_line.ensures in
    let kept : length c.put_line.new.self.out.now ≡ length l.page.out.now = rw w.out (length-sets l.page.out.now l.page.at (ended 0 l.address bytes)) in
    let at : c.put_line.new.self.at ≡ l.page.at + (length bytes * 2 + 12) = omega (arith, w.at) in (
      n.0 ∙ i.0,
      next_low rest bytes left l.address n.1.0 long n.1.2 i.1,
      omega (arith, kept, at, g, i.2),
      rw (at, w.out) (i.3 ∙ next_put rest bytes left l.address n.1.0 long n.1.2 i.1 l.page.out.now l.page.at),
      w.same ∙ i.4,
    )

pub put_line-requires-2 : goal.put_line-requires-2
put_line-requires-2 c =
    let l = c.loop-bytes in
    let g = ap length (rest_end l.address l.bytes-iterator.rest.now c.in-None.ensures.steps.1.0) ∙ length_line 1 0 [] in
    (omega (arith, l.invariant.2, g), omega arith)

pub returns : goal.returns
returns c =
    let l = c.loop-bytes in
    let w = c.put_line-2.ensures in
    let all : c.put_line-2.new.self.out.now ≡ sets c.args.out.now 0 (text_of c.args.program.now) =
    rw (w.out, l.invariant.3, rest_end l.address l.bytes-iterator.rest.now c.in-None.ensures.steps.1.0) in
    let same = w.same ∙ l.invariant.4 in
    search rules
