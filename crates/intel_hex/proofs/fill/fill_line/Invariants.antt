-- The line's first `j` bytes are in their places.
use Rattle.std.proofs.Common.{◌≡◌, length, take}
use Rattle.std.proofs.lemmas.List.Edits.{sets}
use Rattle.hex_line.specs.Line.{data_of}
use Rattle.intel_hex.proofs.fill.fill_line.Given as goal

abbrev pub invariant-loop-j : goal.invariant-loop-j
invariant-loop-j l =
    (length l.program ≡ length l.fn.program) × (l.program ≡ sets l.fn.program l.at (take l.j (data_of l.line)))
