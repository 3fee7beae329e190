-- The rest of the run from where the loop stands is the rest from where it began.
use Rattle.schedule.proofs.Waiting.{Stands}
use Rattle.schedule.proofs.follow.wait.Given as goal

abbrev pub invariant-loop-done : goal.invariant-loop-done
invariant-loop-done l = Stands l.initial.snapshot l.program l.initial.«data» l.vector l.from l.budget l.snapshot l.«data» l.done
