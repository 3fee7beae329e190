-- So many records are entered, and the rest of the run is as the whole list says.
use Rattle.std.proofs.Common.{◌/◌, length, drop}
use Rattle.schedule.proofs.Following.{Stands}
use Rattle.schedule.proofs.follow.follow.Given as goal

abbrev pub invariant-loop-i : goal.invariant-loop-i
invariant-loop-i l =
    Stands l.fn.snapshot l.program l.fn.«data» l.list l.from l.budget (drop (length l.list / 5) l.fn.entered) l.snapshot l.«data» l.entered l.i l.done
