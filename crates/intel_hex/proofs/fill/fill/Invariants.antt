-- What is left to fill, over the buffer as it is, gives the whole.
use Rattle.std.proofs.Common.{◌≡◌, length, replicate}
use Rattle.hex_line.specs.Line.{lines_of}
use Rattle.intel_hex.specs.Reading.{filled}
use Rattle.intel_hex.proofs.Checked.{AllFit}
use Rattle.intel_hex.proofs.fill.fill.Given as goal

abbrev pub invariant-loop-rest : goal.invariant-loop-rest
invariant-loop-rest l =
    let size = length l.fn.program in
    (length l.program ≡ size) × AllFit size (lines_of l.rest)
    × (filled (lines_of l.text) (replicate size 255) ≡ filled (lines_of l.rest) l.program)

abbrev pub decreases-loop-rest : goal.decreases-loop-rest
decreases-loop-rest l = length l.rest
