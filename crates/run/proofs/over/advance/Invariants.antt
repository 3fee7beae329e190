-- The rest of the run from where the loop stands is the whole run, with the ticks done added.
use Rattle.std.proofs.Common.{◌-◌}
use Rattle.run.proofs.Turns.{Standing}
use Rattle.run.proofs.over.advance.Given as goal

abbrev pub invariant-loop-program : goal.invariant-loop-program
invariant-loop-program l = Standing l.budget l.at l.fn.snapshot l.program0 l.fn.«data» l.snapshot l.«data» l.offer

abbrev pub decreases-loop-program : goal.decreases-loop-program
decreases-loop-program l = l.budget - l.at
