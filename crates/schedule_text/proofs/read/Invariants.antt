-- What is read so far, with what is left, is the whole.
use Rattle.hex_line.specs.Left.{lines_left}
use Rattle.schedule_text.proofs.Through.{Through}
use Rattle.schedule_text.proofs.read.Given as goal

abbrev pub invariant-loop-line : goal.invariant-loop-line
invariant-loop-line l = Through l.text l.fn.list l.list l.room (lines_left l.line-iterator) l.number l.last l.records
