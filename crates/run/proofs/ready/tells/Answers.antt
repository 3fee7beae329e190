-- Where it names a form, nothing is due, both words are there and `ready` found what the instruction needs.
use Rattle.std.proofs.Common.{◌≡◌, ◌+◌, ◌<◌, Bool, true, false, not, ◌&&◌, ◌||◌, sym, refl, ap, ◌∙◌, arith, leb-false}
use Rattle.basis.specs.Pick.{pick}
use Rattle.basis.specs.Bit.{bit}
use Rattle.basis.proofs.Choice.{clash}
use Rattle.instruction.specs.Decode.{decode_of}
use Rattle.forms.specs.Forms.{form_of}
use Rattle.forms.specs.Instructions.{instruction_of}
use Rattle.memory.specs.Memory.{program_word_of}
use Rattle.run.specs.Lent.{offers}
use Rattle.run.specs.Ready.{Unrefused}
use Rattle.run.proofs.Rest.{told}
use Rattle.run.proofs.Told.{told_runs}
use Rattle.run.proofs.ready.tells.Goals as goal

neither : (a b : Bool) → (a || not b) ≡ false → (a ≡ false) × (b ≡ true)
neither true b h = clash h
neither false true h = (refl, refl)
neither false false h = clash h

pub returns-then-ready : goal.returns-then-ready
returns-then-ready c n =
    let a = c.args in
    let p = a.program.now in
    let f = c.form_of-form.result in
    let w = program_word_of p a.pc in
    let x = program_word_of p (a.pc + 1) in
    let (high, there) = neither _ _ c.if-pc-has_word.false in
    let low : a.pc < 65533 = leb-false 65533 a.pc high in
    let second = sym c.has_word.ensures ∙ there in
    let is : f ≡ form_of w = c.form_of-form.ensures ∙ ap form_of c.get_progmem-opcode.ensures in
    let fine : Unrefused a.regs.now (a.pc + 1) a.sp p a.«data».now (instruction_of f w x) =
    rw c.get_progmem-opcode.ensures at c.ready.ensures is (omega (arith, low)) second c.if-ready.true in
    let op = told f w x is in
    let decoded : Unrefused a.regs.now (a.pc + 1) a.sp p a.«data».now (decode_of w x) = rw op at fine in (
      low,
      λ chip o e.
          let undue : pick (offers o) (bit a.sreg 7 && not a.in_service && not a.inhibit) false ≡ false = rw e (sym c.is_due.ensures ∙ c.if-is_due.false) in
          rw op (told_runs a.regs.now a.pc a.sp a.sreg a.inhibit a.in_service chip p a.«data».now o undue (omega (arith, low)) second decoded),
    )
