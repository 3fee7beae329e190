-- The line is wrong where a character so far is, or one of the rest.
use Rattle.std.proofs.Common.{◌≡◌, not, ◌&&◌, drop}
use Rattle.hex_line.specs.Line.{all_digits, wrong_character}
use Rattle.hex_line.proofs.faults.wrong_character.Given as goal

abbrev pub invariant-loop-c : goal.invariant-loop-c
invariant-loop-c l = wrong_character l.line ≡ not (l.right && all_digits (drop l.c-index l.digits))
