-- Each turn of the loop is a tick that ran and its waits.
use Rattle.std.proofs.Common.{◌+◌, refl, inl, arith}
use Rattle.forms.specs.Instructions.{instruction_of}
use Rattle.memory.specs.Memory.{program_word_of}
use Rattle.run.specs.declared.go.Gone.{Gone}
use Rattle.run.proofs.Onward.{went_on}
use Rattle.run.proofs.go.go.Goals as goal

pub loop-at-init : goal.loop-at-init
loop-at-init c = record { onward = omega arith; bounded = λ h. h; rest = λ o e. refl; first = λ o e. inl (refl, (refl, refl)) }

pub loop-at-preserved : goal.loop-at-preserved
loop-at-preserved c =
    let a = c.args in
    let l = c.loop-at in
    let p = a.program.now in
    let i = instruction_of c.tells-form.result (program_word_of p l.pc) (program_word_of p (l.pc + 1)) in
    let (_, runs) = c.tells-form.ensures c.if-form-eq-UNDEF.false in
    let left = rw c.get_progmem-opcode.ensures at c.effect-made.ensures in
    let g : Gone = record { at = l.at; pc = l.pc; sp = l.sp; sreg = l.sreg; inhibit = l.inhibit; in_service = l.service } in
    went_on l.regs _ (l.pc + 1) l.sp l.sreg l.service a.chip c.effect-made.result i p l.«data» _ left g l.invariant c.loop-at-test.true (runs a.chip)
