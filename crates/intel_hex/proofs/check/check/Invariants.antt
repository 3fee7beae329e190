-- What is left to check gives the answer for the whole text; no more lines are read than it has.
use Rattle.std.proofs.Common.{◌≡◌, ◌+◌, ◌≤◌, length}
use Rattle.hex_line.specs.Line.{lines_of}
use Rattle.hex_line.specs.Left.{lines_left}
use Rattle.intel_hex.specs.Reading.{checked}
use Rattle.intel_hex.proofs.check.check.Given as goal

abbrev pub invariant-loop-line : goal.invariant-loop-line
invariant-loop-line l =
    (checked l.size 1 0 (lines_of l.text) ≡ checked l.size l.number l.end (lines_left l.lines))
    × (l.number + length (lines_left l.lines) ≤ length l.text + 1)
