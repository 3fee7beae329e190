-- One line more: faulty, the end record, or a data line.
use Rattle.std.proofs.Common.{◌≡◌, length, arith, refl, sym, ap, ◌∙◌}
use Rattle.hex_line.specs.Left.{lines_left}
use Rattle.hex_line.specs.Line.{fault_of, type_of}
use Rattle.hex_line.proofs.Found.{few_lines}
use Rattle.hex_line.proofs.Judged.{fits, fault_never}
use Rattle.hex_line.proofs.RecordBytes.{count_is, address_is, kind_is}
use Rattle.intel_hex.proofs.Checked.{faulty, last, onwards, missing}
use Rattle.intel_hex.proofs.check.check.Goals as goal

pub loop-line-init : goal.loop-line-init
loop-line-init c = rw c.of-lines.ensures.lines (refl, omega (arith, few_lines c.args.text.now))

pub returns-in-Err : goal.returns-in-Err
returns-in-Err c =
    let l = c.loop-line in
    let line = c.in-Some.line.now in
    let e = c.in-Err.ensures in
    rw (l.invariant.0, c.in-Some.ensures.steps.lines, faulty c.args.size l.number l.end line (lines_left c.next.new.self) (λ z. fault_never c.in-Err.fault (e ∙ z)), ← e)

pub returns-in-None : goal.returns-in-None
returns-in-None c =
    let l = c.loop-line in
    let line = c.in-Some.line.now in
    let right : fault_of c.args.size l.end line ≡ 0 = sym c.in_default-fault.ensures in
    let ends : type_of line ≡ 1 = sym (kind_is line (fits c.args.size l.end line right).digits) ∙ sym c.kind.ensures ∙ c.if-kind-eq1.true in
    rw (l.invariant.0, c.in-Some.ensures.steps.lines, last c.args.size l.number l.end line (lines_left c.next.new.self) right ends, c.in-None.ensures.steps.lines.0)

pub returns-in-Some-next : goal.returns-in-Some-next
returns-in-Some-next c =
    let l = c.loop-line in
    let line = c.in-Some.line.now in
    let right : fault_of c.args.size l.end line ≡ 0 = sym c.in_default-fault.ensures in
    let ends : type_of line ≡ 1 = sym (kind_is line (fits c.args.size l.end line right).digits) ∙ sym c.kind.ensures ∙ c.if-kind-eq1.true in
    rw (l.invariant.0, c.in-Some.ensures.steps.lines, last c.args.size l.number l.end line (lines_left c.next.new.self) right ends, c.in-Some-next.ensures.steps.lines)

pub loop-line-preserved : goal.loop-line-preserved
loop-line-preserved c =
    let l = c.loop-line in
    let line = c.in-Some.line.now in
    let right : fault_of c.args.size l.end line ≡ 0 = sym c.in_default-fault.ensures in
    let digits = (fits c.args.size l.end line right).digits in
    let rest = onwards c.args.size l.number l.end line (lines_left c.next.new.self) right (λ z. c.if-kind-eq1.false (c.kind.ensures ∙ kind_is line digits ∙ z)) in
    (rw (l.invariant.0, c.in-Some.ensures.steps.lines, rest, c.address.ensures, address_is line digits, c.count.ensures, count_is line digits), omega (arith, l.invariant.1, ap length c.in-Some.ensures.steps.lines))

pub returns : goal.returns
returns c =
    let l = c.loop-line in
    rw (l.invariant.0, c.in_default.ensures.steps.lines.0, missing c.args.size l.number l.end)
