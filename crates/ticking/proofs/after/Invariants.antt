-- What is left of the ticks, from where the loop stands, is all of them from where it began.
use Rattle.std.proofs.Common.{◌≡◌, ◌-◌}
use Rattle.ticking.specs.After.{after_of}
use Rattle.ticking.proofs.after.Given as goal

abbrev pub invariant-loop : goal.invariant-loop
invariant-loop l = after_of (l.ticks - l.counter) l.core l.program l.data l.offer ≡ after_of l.ticks l.initial.core l.program l.initial.data l.offer
