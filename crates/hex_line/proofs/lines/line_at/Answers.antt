-- At the line's end, past a character that ends none, and at the text's end.
use Rattle.std.proofs.Common.{◌≡◌, ◌<◌, ◌≤◌, drop, length, arith, ◌∙◌, add-zero}
use Rattle.hex_line.specs.Way.{end_length}
use Rattle.hex_line.proofs.Found.{end_out, stops, stops_out, goes_on}
use Rattle.hex_line.proofs.lines.line_at.Goals as goal

pub returns-then-n-gt0 : goal.returns-then-n-gt0
returns-then-n-gt0 c =
    let n = c.end_length-n.ensures in
    let ended : 0 < end_length (drop c.loop-i.i c.args.text.now) = rw n at c.if-n-gt0.true in
    rw (c.loop-i.invariant, stops c.args.text.now c.loop-i.i ended, n)

pub loop-i-preserved : goal.loop-i-preserved
loop-i-preserved c =
    let none : end_length (drop c.loop-i.i c.args.text.now) ≤ 0 = rw c.end_length-n.ensures at c.if-n-gt0.false in
    c.loop-i.invariant ∙ goes_on c.args.text.now c.loop-i.i (omega arith) none

pub returns : goal.returns
returns c =
    let t = c.args.text.now in
    let out : length t ≤ c.loop-i.i = omega (arith, c.max-end.ensures) in
    let e : c.max-end.result ≡ c.loop-i.i = omega (arith, c.max-end.ensures) in
    rw (c.loop-i.invariant, stops_out t c.loop-i.i out, end_out t c.loop-i.i out, add-zero, e)
