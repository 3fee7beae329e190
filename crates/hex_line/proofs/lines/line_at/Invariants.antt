-- Up to the line's end, the line that starts at `at` ends where the one from `i` on does.
use Rattle.std.proofs.Common.{◌≡◌}
use Rattle.hex_line.specs.Way.{stop_of}
use Rattle.hex_line.proofs.lines.line_at.Given as goal

abbrev pub invariant-loop-i : goal.invariant-loop-i
invariant-loop-i l = stop_of l.text l.at ≡ stop_of l.text l.i
