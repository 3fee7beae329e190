-- `ready`: in each arm what its calls found to be there is what the instruction needs; `rest` has the others.
use Rattle.std.proofs.Common.{◌+◌, true, false, length, sym, refl, ◌∙◌, add-zero, rules}
use Rattle.basis.specs.Bit.{up}
use Rattle.basis.proofs.Choice.{clash}
use Rattle.instruction.specs.Decode.{decode_of, d5, q6, A5, A6, b3, k12, k22}
use Rattle.instruction.specs.declared.Instruction.TheVariants.{CALL, ICALL, RCALL, RET, RETI, SBIC, SBIS, IN, LDX, LDXinc, LDXdec, LDYinc, LDYdec, LDZinc, LDZdec, LDDY, LDDZ, LDS, LPM, LPMZ, LPMZinc, OUT, POP, PUSH, STX, STXdec, STXinc, STYdec, STYinc, STZdec, STZinc, STDY, STDZ, STS, CBI, SBI}
use Rattle.memory.specs.Memory.{word_of, has_of, program_word_of}
use Rattle.cores.specs.State.{with_regs, with_pc, with_sp, with_busy, with_inhibit, with_service, with_chip}
use Rattle.cores.specs.Flow.{two_at, data_bit_is}
use Rattle.cores.specs.Transfer.{reach_of, pointed_of}
use Rattle.registers.proofs.Found.{found}
use Rattle.effects.specs.Parts.{stood, cored, pointed_at}
use Rattle.run.proofs.Unrefused.{by_byte, by_plain, by_program, by_push, by_pop, by_call, by_second, by_skip}
use Rattle.run.proofs.Rest.{rest}
use Rattle.run.proofs.ready.ready.Goals as goal

pub returns-in-13 : goal.returns-in-13
unfolding with_regs with_pc with_sp with_busy with_inhibit with_service with_chip pointed_of
returns-in-13 c f low word go =
    let a = c.args in
    let x = program_word_of a.program.now a.pc in
    rw (c.in-13.is, found 13) (by_call a.regs.now a.pc a.sp a.program.now a.«data».now (CALL (k22 a.opcode x)) refl low (λ s inhibit service chip. refl) (sym c.pushes.ensures ∙ go))

pub returns-in-25 : goal.returns-in-25
unfolding with_regs with_pc with_sp with_busy with_inhibit with_service with_chip pointed_of
returns-in-25 c f low word go =
    let a = c.args in
    rw (c.in-25.is, found 25) (by_push a.regs.now a.pc a.sp a.program.now a.«data».now ICALL refl (λ s inhibit service chip. refl) (sym c.pushes-in-25.ensures ∙ go))

pub returns-in-58 : goal.returns-in-58
unfolding with_regs with_pc with_sp with_busy with_inhibit with_service with_chip pointed_of
returns-in-58 c f low word go =
    let a = c.args in
    rw (c.in-58.is, found 58) (by_push a.regs.now a.pc a.sp a.program.now a.«data».now (RCALL (k12 a.opcode)) refl (λ s inhibit service chip. refl) (sym c.pushes-in-58.ensures ∙ go))

pub returns-in-59 : goal.returns-in-59
unfolding with_regs with_pc with_sp with_busy with_inhibit with_service with_chip pointed_of
returns-in-59 c f low word go =
    let a = c.args in
    rw (c.in-59.is, found 59) (by_pop a.regs.now a.pc a.sp a.program.now a.«data».now RET refl (λ s inhibit service chip. refl) (sym c.pops.ensures ∙ go))

pub returns-in-60 : goal.returns-in-60
unfolding with_regs with_pc with_sp with_busy with_inhibit with_service with_chip pointed_of
returns-in-60 c f low word go =
    let a = c.args in
    rw (c.in-60.is, found 60) (by_pop a.regs.now a.pc a.sp a.program.now a.«data».now RETI refl (λ s inhibit service chip. refl) (sym c.pops-in-60.ensures ∙ go))

pub returns-in-66 : goal.returns-in-66
unfolding with_regs with_pc with_sp with_busy with_inhibit with_service with_chip pointed_of
returns-in-66 c f low word go =
    let a = c.args in
    let e = rw c.A5.ensures at c.has.ensures in
    rw (c.in-66.is, found 66) (by_skip a.regs.now a.pc a.sp a.program.now a.«data».now (SBIC (A5 a.opcode) (b3 a.opcode)) refl low word (data_bit_is a.«data».now (A5 a.opcode) (b3 a.opcode) false) (two_at decode_of (cored a.regs.now (stood a.pc 0 0 0 false false) false) a.program.now) (has_of a.«data».now (A5 a.opcode)) (λ s inhibit service chip. refl) (sym e ∙ go))

pub returns-in-67 : goal.returns-in-67
unfolding with_regs with_pc with_sp with_busy with_inhibit with_service with_chip pointed_of
returns-in-67 c f low word go =
    let a = c.args in
    let e = rw c.A5-in-67.ensures at c.has-in-67.ensures in
    rw (c.in-67.is, found 67) (by_skip a.regs.now a.pc a.sp a.program.now a.«data».now (SBIS (A5 a.opcode) (b3 a.opcode)) refl low word (data_bit_is a.«data».now (A5 a.opcode) (b3 a.opcode) true) (two_at decode_of (cored a.regs.now (stood a.pc 0 0 0 false false) false) a.program.now) (has_of a.«data».now (A5 a.opcode)) (λ s inhibit service chip. refl) (sym e ∙ go))

pub returns-in-27 : goal.returns-in-27
unfolding with_regs with_pc with_sp with_busy with_inhibit with_service with_chip pointed_of
returns-in-27 c f low word go =
    let a = c.args in
    let e = rw c.A6.ensures at c.in_data_space.ensures in
    rw (c.in-27.is, found 27) (by_byte a.regs.now a.pc a.sp a.program.now a.«data».now (IN (d5 a.opcode) (A6 a.opcode)) refl (reach_of (A6 a.opcode) (length a.«data».now)) (λ s inhibit service chip. refl) (sym e ∙ go))

pub returns-in-30 : goal.returns-in-30
unfolding with_regs with_pc with_sp with_busy with_inhibit with_service with_chip pointed_of
returns-in-30 c f low word go =
    let a = c.args in
    let e = rw c.pointed.ensures at c.plain.ensures in
    rw (c.in-30.is, found 30) (by_plain a.regs.now a.pc a.sp a.program.now a.«data».now (LDX (d5 a.opcode)) refl (pointed_at a.regs.now 26 false + 0) (λ s inhibit service chip. refl) (rw add-zero (sym e ∙ go)))

pub returns-in-31 : goal.returns-in-31
unfolding with_regs with_pc with_sp with_busy with_inhibit with_service with_chip pointed_of
returns-in-31 c f low word go =
    let a = c.args in
    let e = rw c.pointed-in-31.ensures at c.plain-in-31.ensures in
    rw (c.in-31.is, found 31) (by_plain a.regs.now a.pc a.sp a.program.now a.«data».now (LDXinc (d5 a.opcode)) refl (pointed_at a.regs.now 26 false + 0) (λ s inhibit service chip. refl) (rw add-zero (sym e ∙ go)))

pub returns-in-32 : goal.returns-in-32
unfolding with_regs with_pc with_sp with_busy with_inhibit with_service with_chip pointed_of
returns-in-32 c f low word go =
    let a = c.args in
    let e = rw c.pointed-in-32.ensures at c.plain-in-32.ensures in
    rw (c.in-32.is, found 32) (by_plain a.regs.now a.pc a.sp a.program.now a.«data».now (LDXdec (d5 a.opcode)) refl (pointed_at a.regs.now 26 true + 0) (λ s inhibit service chip. refl) (rw add-zero (sym e ∙ go)))

pub returns-in-33 : goal.returns-in-33
unfolding with_regs with_pc with_sp with_busy with_inhibit with_service with_chip pointed_of
returns-in-33 c f low word go =
    let a = c.args in
    let e = rw c.pointed-in-33.ensures at c.plain-in-33.ensures in
    rw (c.in-33.is, found 33) (by_plain a.regs.now a.pc a.sp a.program.now a.«data».now (LDYinc (d5 a.opcode)) refl (pointed_at a.regs.now 28 false + 0) (λ s inhibit service chip. refl) (rw add-zero (sym e ∙ go)))

pub returns-in-34 : goal.returns-in-34
unfolding with_regs with_pc with_sp with_busy with_inhibit with_service with_chip pointed_of
returns-in-34 c f low word go =
    let a = c.args in
    let e = rw c.pointed-in-34.ensures at c.plain-in-34.ensures in
    rw (c.in-34.is, found 34) (by_plain a.regs.now a.pc a.sp a.program.now a.«data».now (LDYdec (d5 a.opcode)) refl (pointed_at a.regs.now 28 true + 0) (λ s inhibit service chip. refl) (rw add-zero (sym e ∙ go)))

pub returns-in-35 : goal.returns-in-35
unfolding with_regs with_pc with_sp with_busy with_inhibit with_service with_chip pointed_of
returns-in-35 c f low word go =
    let a = c.args in
    let e = rw c.pointed-in-35.ensures at c.plain-in-35.ensures in
    rw (c.in-35.is, found 35) (by_plain a.regs.now a.pc a.sp a.program.now a.«data».now (LDZinc (d5 a.opcode)) refl (pointed_at a.regs.now 30 false + 0) (λ s inhibit service chip. refl) (rw add-zero (sym e ∙ go)))

pub returns-in-36 : goal.returns-in-36
unfolding with_regs with_pc with_sp with_busy with_inhibit with_service with_chip pointed_of
returns-in-36 c f low word go =
    let a = c.args in
    let e = rw c.pointed-in-36.ensures at c.plain-in-36.ensures in
    rw (c.in-36.is, found 36) (by_plain a.regs.now a.pc a.sp a.program.now a.«data».now (LDZdec (d5 a.opcode)) refl (pointed_at a.regs.now 30 true + 0) (λ s inhibit service chip. refl) (rw add-zero (sym e ∙ go)))

pub returns-in-37 : goal.returns-in-37
unfolding with_regs with_pc with_sp with_busy with_inhibit with_service with_chip pointed_of
returns-in-37 c f low word go =
    let a = c.args in
    let e = rw (c.q6.ensures, c.pointed-in-37.ensures) at c.plain-in-37.ensures in
    rw (c.in-37.is, found 37) (by_plain a.regs.now a.pc a.sp a.program.now a.«data».now (LDDY (d5 a.opcode) (q6 a.opcode)) refl (pointed_at a.regs.now 28 false + q6 a.opcode) (λ s inhibit service chip. refl) (sym e ∙ go))

pub returns-in-38 : goal.returns-in-38
unfolding with_regs with_pc with_sp with_busy with_inhibit with_service with_chip pointed_of
returns-in-38 c f low word go =
    let a = c.args in
    let e = rw (c.q6-in-38.ensures, c.pointed-in-38.ensures) at c.plain-in-38.ensures in
    rw (c.in-38.is, found 38) (by_plain a.regs.now a.pc a.sp a.program.now a.«data».now (LDDZ (d5 a.opcode) (q6 a.opcode)) refl (pointed_at a.regs.now 30 false + q6 a.opcode) (λ s inhibit service chip. refl) (sym e ∙ go))

pub returns-in-40 : goal.returns-in-40
unfolding with_regs with_pc with_sp with_busy with_inhibit with_service with_chip pointed_of
returns-in-40 c f low word go =
    let a = c.args in
    let x = program_word_of a.program.now a.pc in
    let e = rw c.get_progmem.ensures at c.plain-in-40.ensures in
    rw (c.in-40.is, found 40) (by_second a.regs.now a.pc a.sp a.program.now a.«data».now (LDS (d5 a.opcode) x) refl low x (λ s inhibit service chip. refl) (sym e ∙ go))

pub returns-in-41 : goal.returns-in-41
unfolding with_regs with_pc with_sp with_busy with_inhibit with_service with_chip pointed_of
returns-in-41 c f low word go =
    let a = c.args in
    let e = rw c.read_word.ensures at c.has-in-41.ensures in
    rw (c.in-41.is, found 41) (by_program a.regs.now a.pc a.sp a.program.now a.«data».now LPM refl (has_of a.program.now (word_of a.regs.now 30)) (λ s inhibit service chip. refl) (sym e ∙ go))

pub returns-in-42 : goal.returns-in-42
unfolding with_regs with_pc with_sp with_busy with_inhibit with_service with_chip pointed_of
returns-in-42 c f low word go =
    let a = c.args in
    let e = rw c.read_word-in-42.ensures at c.has-in-42.ensures in
    rw (c.in-42.is, found 42) (by_program a.regs.now a.pc a.sp a.program.now a.«data».now (LPMZ (d5 a.opcode)) refl (has_of a.program.now (word_of a.regs.now 30)) (λ s inhibit service chip. refl) (sym e ∙ go))

pub returns-in-43 : goal.returns-in-43
unfolding with_regs with_pc with_sp with_busy with_inhibit with_service with_chip pointed_of
returns-in-43 c f low word go =
    let a = c.args in
    let e = rw c.read_word-in-43.ensures at c.has-in-43.ensures in
    rw (c.in-43.is, found 43) (by_program a.regs.now a.pc a.sp a.program.now a.«data».now (LPMZinc (d5 a.opcode)) refl (has_of a.program.now (word_of a.regs.now 30)) (λ s inhibit service chip. refl) (sym e ∙ go))

pub returns-in-55 : goal.returns-in-55
unfolding with_regs with_pc with_sp with_busy with_inhibit with_service with_chip pointed_of
returns-in-55 c f low word go =
    let a = c.args in
    let e = rw c.A6-in-55.ensures at c.in_data_space-in-55.ensures in
    rw (c.in-55.is, found 55) (by_byte a.regs.now a.pc a.sp a.program.now a.«data».now (OUT (A6 a.opcode) (d5 a.opcode)) refl (reach_of (A6 a.opcode) (length a.«data».now)) (λ s inhibit service chip. refl) (sym e ∙ go))

pub returns-in-56 : goal.returns-in-56
unfolding with_regs with_pc with_sp with_busy with_inhibit with_service with_chip pointed_of
returns-in-56 c f low word go =
    let a = c.args in
    let e = c.plain-in-56.ensures in
    rw (c.in-56.is, found 56) (by_plain a.regs.now a.pc a.sp a.program.now a.«data».now (POP (d5 a.opcode)) refl (up a.sp 1) (λ s inhibit service chip. refl) (sym e ∙ go))

pub returns-in-57 : goal.returns-in-57
unfolding with_regs with_pc with_sp with_busy with_inhibit with_service with_chip pointed_of
returns-in-57 c f low word go =
    let a = c.args in
    rw (c.in-57.is, found 57) (by_plain a.regs.now a.pc a.sp a.program.now a.«data».now (PUSH (d5 a.opcode)) refl a.sp (λ s inhibit service chip. refl) (sym c.plain-in-57.ensures ∙ go))

pub returns-in-72 : goal.returns-in-72
unfolding with_regs with_pc with_sp with_busy with_inhibit with_service with_chip pointed_of
returns-in-72 c f low word go =
    let a = c.args in
    let e = rw c.pointed-in-72.ensures at c.plain-in-72.ensures in
    rw (c.in-72.is, found 72) (by_plain a.regs.now a.pc a.sp a.program.now a.«data».now (STX (d5 a.opcode)) refl (pointed_at a.regs.now 26 false + 0) (λ s inhibit service chip. refl) (rw add-zero (sym e ∙ go)))

pub returns-in-73 : goal.returns-in-73
unfolding with_regs with_pc with_sp with_busy with_inhibit with_service with_chip pointed_of
returns-in-73 c f low word go =
    let a = c.args in
    let e = rw c.pointed-in-73.ensures at c.plain-in-73.ensures in
    rw (c.in-73.is, found 73) (by_plain a.regs.now a.pc a.sp a.program.now a.«data».now (STXdec (d5 a.opcode)) refl (pointed_at a.regs.now 26 true + 0) (λ s inhibit service chip. refl) (rw add-zero (sym e ∙ go)))

pub returns-in-74 : goal.returns-in-74
unfolding with_regs with_pc with_sp with_busy with_inhibit with_service with_chip pointed_of
returns-in-74 c f low word go =
    let a = c.args in
    let e = rw c.pointed-in-74.ensures at c.plain-in-74.ensures in
    rw (c.in-74.is, found 74) (by_plain a.regs.now a.pc a.sp a.program.now a.«data».now (STXinc (d5 a.opcode)) refl (pointed_at a.regs.now 26 false + 0) (λ s inhibit service chip. refl) (rw add-zero (sym e ∙ go)))

pub returns-in-75 : goal.returns-in-75
unfolding with_regs with_pc with_sp with_busy with_inhibit with_service with_chip pointed_of
returns-in-75 c f low word go =
    let a = c.args in
    let e = rw c.pointed-in-75.ensures at c.plain-in-75.ensures in
    rw (c.in-75.is, found 75) (by_plain a.regs.now a.pc a.sp a.program.now a.«data».now (STYdec (d5 a.opcode)) refl (pointed_at a.regs.now 28 true + 0) (λ s inhibit service chip. refl) (rw add-zero (sym e ∙ go)))

pub returns-in-76 : goal.returns-in-76
unfolding with_regs with_pc with_sp with_busy with_inhibit with_service with_chip pointed_of
returns-in-76 c f low word go =
    let a = c.args in
    let e = rw c.pointed-in-76.ensures at c.plain-in-76.ensures in
    rw (c.in-76.is, found 76) (by_plain a.regs.now a.pc a.sp a.program.now a.«data».now (STYinc (d5 a.opcode)) refl (pointed_at a.regs.now 28 false + 0) (λ s inhibit service chip. refl) (rw add-zero (sym e ∙ go)))

pub returns-in-77 : goal.returns-in-77
unfolding with_regs with_pc with_sp with_busy with_inhibit with_service with_chip pointed_of
returns-in-77 c f low word go =
    let a = c.args in
    let e = rw c.pointed-in-77.ensures at c.plain-in-77.ensures in
    rw (c.in-77.is, found 77) (by_plain a.regs.now a.pc a.sp a.program.now a.«data».now (STZdec (d5 a.opcode)) refl (pointed_at a.regs.now 30 true + 0) (λ s inhibit service chip. refl) (rw add-zero (sym e ∙ go)))

pub returns-in-78 : goal.returns-in-78
unfolding with_regs with_pc with_sp with_busy with_inhibit with_service with_chip pointed_of
returns-in-78 c f low word go =
    let a = c.args in
    let e = rw c.pointed-in-78.ensures at c.plain-in-78.ensures in
    rw (c.in-78.is, found 78) (by_plain a.regs.now a.pc a.sp a.program.now a.«data».now (STZinc (d5 a.opcode)) refl (pointed_at a.regs.now 30 false + 0) (λ s inhibit service chip. refl) (rw add-zero (sym e ∙ go)))

pub returns-in-79 : goal.returns-in-79
unfolding with_regs with_pc with_sp with_busy with_inhibit with_service with_chip pointed_of
returns-in-79 c f low word go =
    let a = c.args in
    let e = rw (c.q6-in-79.ensures, c.pointed-in-79.ensures) at c.plain-in-79.ensures in
    rw (c.in-79.is, found 79) (by_plain a.regs.now a.pc a.sp a.program.now a.«data».now (STDY (q6 a.opcode) (d5 a.opcode)) refl (pointed_at a.regs.now 28 false + q6 a.opcode) (λ s inhibit service chip. refl) (sym e ∙ go))

pub returns-in-80 : goal.returns-in-80
unfolding with_regs with_pc with_sp with_busy with_inhibit with_service with_chip pointed_of
returns-in-80 c f low word go =
    let a = c.args in
    let e = rw (c.q6-in-80.ensures, c.pointed-in-80.ensures) at c.plain-in-80.ensures in
    rw (c.in-80.is, found 80) (by_plain a.regs.now a.pc a.sp a.program.now a.«data».now (STDZ (q6 a.opcode) (d5 a.opcode)) refl (pointed_at a.regs.now 30 false + q6 a.opcode) (λ s inhibit service chip. refl) (sym e ∙ go))

pub returns-in-81 : goal.returns-in-81
unfolding with_regs with_pc with_sp with_busy with_inhibit with_service with_chip pointed_of
returns-in-81 c f low word go =
    let a = c.args in
    let x = program_word_of a.program.now a.pc in
    let e = rw c.get_progmem-in-81.ensures at c.plain-in-81.ensures in
    rw (c.in-81.is, found 81) (by_second a.regs.now a.pc a.sp a.program.now a.«data».now (STS x (d5 a.opcode)) refl low x (λ s inhibit service chip. refl) (sym e ∙ go))

pub returns-in-14 : goal.returns-in-14
unfolding with_regs with_pc with_sp with_busy with_inhibit with_service with_chip pointed_of
returns-in-14 c f low word go =
    let a = c.args in
    let e = rw c.A5-in-14.ensures at c.has-in-14.ensures in
    rw (c.in-14.is, found 14) (by_byte a.regs.now a.pc a.sp a.program.now a.«data».now (CBI (A5 a.opcode) (b3 a.opcode)) refl (has_of a.«data».now (A5 a.opcode)) (λ s inhibit service chip. refl) (sym e ∙ go))

pub returns-in-65 : goal.returns-in-65
unfolding with_regs with_pc with_sp with_busy with_inhibit with_service with_chip pointed_of
returns-in-65 c f low word go =
    let a = c.args in
    let e = rw c.A5-in-65.ensures at c.has-in-65.ensures in
    rw (c.in-65.is, found 65) (by_byte a.regs.now a.pc a.sp a.program.now a.«data».now (SBI (A5 a.opcode) (b3 a.opcode)) refl (has_of a.«data».now (A5 a.opcode)) (λ s inhibit service chip. refl) (sym e ∙ go))

pub returns-in-10 : goal.returns-in-10
returns-in-10 c f low word go = clash (sym go)

pub returns-in_default : goal.returns-in_default
returns-in_default c f low word go =
    let a = c.args in
    rest a.regs.now a.pc a.sp a.program.now a.«data».now low word a.form a.opcode (program_word_of a.program.now a.pc) f (search rules) (search rules)
