-- What remains is the rest of the same run.
use Rattle.std.proofs.Common.{◌-◌}
use Rattle.effects.specs.Parts.{stood, cored}
use Rattle.run.specs.Lent.{Goes}
use Rattle.run.proofs.go.go.Given as goal

abbrev pub invariant-loop-at : goal.invariant-loop-at
invariant-loop-at l =
    let f = l.fn in
    Goes (cored f.regs (stood f.pc0 f.sp0 f.sreg0 0 f.inhibit0 f.in_service0) l.chip) l.at0 l.program f.«data» l.offered l.chip l.budget
    (record { at = l.at; pc = l.pc; sp = l.sp; sreg = l.sreg; inhibit = l.inhibit; in_service = l.service }) l.regs l.«data»

abbrev pub decreases-loop-at : goal.decreases-loop-at
decreases-loop-at l = l.budget - l.at
