-- `effect`: in each arm what its calls ensure is what `executed` says of the form's instruction; `others` has the rest.
use Rattle.std.proofs.Common.{◌≡◌, ◌+◌, ◌%◌, true, false, eqb, get_or, refl, ◌∙◌, arith, rules}
use mathlib.Core.Bool.{beq}
use Rattle.basis.specs.Bit.{bit, down}
use Rattle.memory.specs.Memory.{program_word_of}
use Rattle.instruction.specs.Decode.{d5, r5, q6, A5, A6, b3, k7}
use Rattle.cores.specs.State.{with_regs, with_reg, with_pc, with_sp, with_busy, with_inhibit, with_service, with_chip}
use Rattle.cores.specs.Flow.{data_bit_is}
use Rattle.cores.specs.Transfer.{data_of, pointed_of, word_if}
use Rattle.registers.specs.Registers.{parted}
use Rattle.registers.proofs.Found.{found}
use Rattle.effects.proofs.Skips.{branches, skips}
use Rattle.effects.proofs.Stores.{out_leaves, push_leaves, sts_leaves, st_leaves}
use Rattle.effects.proofs.Rest.{others}
use Rattle.effects.proofs.effect.Goals as goal

pub returns-in-8 : goal.returns-in-8
unfolding with_regs with_reg with_pc with_sp with_busy with_inhibit with_service with_chip
returns-in-8 c =
    let a = c.args in
    rw (c.in-8.is, found 8, c.hop-pc.ensures, c.flag_is-taken.ensures, c.leaves-left.ensures)
    (record { core = branches a.regs.now a.pc0 a.sp0 a.sreg0 a.inhibit0 a.in_service0 a.chip (b3 a.opcode) (k7 a.opcode) false; bytes = refl })

pub returns-in-9 : goal.returns-in-9
unfolding with_regs with_reg with_pc with_sp with_busy with_inhibit with_service with_chip
returns-in-9 c =
    let a = c.args in
    rw (c.in-9.is, found 9, c.hop-pc-in-9.ensures, c.flag_is-taken-in-9.ensures, c.leaves-left.ensures)
    (record { core = branches a.regs.now a.pc0 a.sp0 a.sreg0 a.inhibit0 a.in_service0 a.chip (b3 a.opcode) (k7 a.opcode) true; bytes = refl })

pub returns-in-13 : goal.returns-in-13
unfolding with_regs with_reg with_pc with_sp with_busy with_inhibit with_service with_chip
returns-in-13 c =
    rw (c.in-13.is, found 13, c.target-pc.ensures, c.push_word.ensures.value, c.push_word.ensures.data_after, c.leaves-left.ensures)
    (record { core = refl; bytes = refl })

pub returns-in-19 : goal.returns-in-19
unfolding with_regs with_reg with_pc with_sp with_busy with_inhibit with_service with_chip
returns-in-19 c =
    let a = c.args in
    rw (c.in-19.is, found 19, c.words_over.ensures, c.equal.ensures, c.leaves-left.ensures)
    (record { core = skips a.regs.now a.pc0 a.sp0 a.sreg0 a.inhibit0 a.in_service0 a.chip c.ranges.pc0.fits a.program.now (eqb (get_or a.regs.now (d5 a.opcode) 0) (get_or a.regs.now (r5 a.opcode) 0)); bytes = refl })

pub returns-in-25 : goal.returns-in-25
unfolding with_regs with_reg with_pc with_sp with_busy with_inhibit with_service with_chip
returns-in-25 c =
    rw (c.in-25.is, found 25, c.read_word-pc.ensures, c.push_word-in-25.ensures.value, c.push_word-in-25.ensures.data_after, c.leaves-left.ensures)
    (record { core = refl; bytes = refl })

pub returns-in-26 : goal.returns-in-26
unfolding with_regs with_reg with_pc with_sp with_busy with_inhibit with_service with_chip
returns-in-26 c =
    rw (c.in-26.is, found 26, c.read_word-pc-in-26.ensures, c.leaves-left.ensures)
    (record { core = refl; bytes = refl })

pub returns-in-29 : goal.returns-in-29
unfolding with_regs with_reg with_pc with_sp with_busy with_inhibit with_service with_chip
returns-in-29 c =
    rw (c.in-29.is, found 29, c.target-pc-in-29.ensures, c.leaves-left.ensures)
    (record { core = refl; bytes = refl })

pub returns-in-58 : goal.returns-in-58
unfolding with_regs with_reg with_pc with_sp with_busy with_inhibit with_service with_chip
returns-in-58 c =
    rw (c.in-58.is, found 58, c.k12-pc.ensures, c.push_word-in-58.ensures.value, c.push_word-in-58.ensures.data_after, c.leaves-left.ensures)
    (record { core = refl; bytes = refl })

pub returns-in-59 : goal.returns-in-59
unfolding with_regs with_reg with_pc with_sp with_busy with_inhibit with_service with_chip
returns-in-59 c =
    rw (c.in-59.is, found 59, c.pop_word-pc.ensures, c.leaves-left.ensures)
    (record { core = refl; bytes = refl })

pub returns-in-60 : goal.returns-in-60
unfolding with_regs with_reg with_pc with_sp with_busy with_inhibit with_service with_chip
returns-in-60 c =
    rw (c.in-60.is, found 60, c.pop_word-pc-in-60.ensures, c.leaves-left.ensures)
    (record { core = refl; bytes = refl })

pub returns-in-61 : goal.returns-in-61
unfolding with_regs with_reg with_pc with_sp with_busy with_inhibit with_service with_chip
returns-in-61 c =
    rw (c.in-61.is, found 61, c.k12-pc-in-61.ensures, c.leaves-left.ensures)
    (record { core = refl; bytes = refl })

pub returns-in-66 : goal.returns-in-66
unfolding with_regs with_reg with_pc with_sp with_busy with_inhibit with_service with_chip
returns-in-66 c =
    let a = c.args in
    rw (c.in-66.is, found 66, c.words_over-in-66.ensures, c.data_bit_is.ensures, c.leaves-left.ensures)
    (record { core = skips a.regs.now a.pc0 a.sp0 a.sreg0 a.inhibit0 a.in_service0 a.chip c.ranges.pc0.fits a.program.now (data_bit_is a.«data».now (A5 a.opcode) (b3 a.opcode) false); bytes = refl })

pub returns-in-67 : goal.returns-in-67
unfolding with_regs with_reg with_pc with_sp with_busy with_inhibit with_service with_chip
returns-in-67 c =
    let a = c.args in
    rw (c.in-67.is, found 67, c.words_over-in-67.ensures, c.data_bit_is-in-67.ensures, c.leaves-left.ensures)
    (record { core = skips a.regs.now a.pc0 a.sp0 a.sreg0 a.inhibit0 a.in_service0 a.chip c.ranges.pc0.fits a.program.now (data_bit_is a.«data».now (A5 a.opcode) (b3 a.opcode) true); bytes = refl })

pub returns-in-69 : goal.returns-in-69
unfolding with_regs with_reg with_pc with_sp with_busy with_inhibit with_service with_chip
returns-in-69 c =
    let a = c.args in
    rw (c.in-69.is, found 69, c.words_over-in-69.ensures, c.register_bit_is.ensures, c.leaves-left.ensures)
    (record { core = skips a.regs.now a.pc0 a.sp0 a.sreg0 a.inhibit0 a.in_service0 a.chip c.ranges.pc0.fits a.program.now (beq (bit (get_or a.regs.now (d5 a.opcode) 0) (b3 a.opcode)) false); bytes = refl })

pub returns-in-70 : goal.returns-in-70
unfolding with_regs with_reg with_pc with_sp with_busy with_inhibit with_service with_chip
returns-in-70 c =
    let a = c.args in
    rw (c.in-70.is, found 70, c.words_over-in-70.ensures, c.register_bit_is-in-70.ensures, c.leaves-left.ensures)
    (record { core = skips a.regs.now a.pc0 a.sp0 a.sreg0 a.inhibit0 a.in_service0 a.chip c.ranges.pc0.fits a.program.now (beq (bit (get_or a.regs.now (d5 a.opcode) 0) (b3 a.opcode)) true); bytes = refl })

pub returns-in-27 : goal.returns-in-27
unfolding with_regs with_reg with_pc with_sp with_busy with_inhibit with_service with_chip data_of pointed_of word_if
returns-in-27 c =
    rw (c.in-27.is, found 27, c.load_to.ensures, c.A6.ensures, c.leaves-left.ensures)
    (record { core = refl; bytes = refl })

pub returns-in-30 : goal.returns-in-30
unfolding with_regs with_reg with_pc with_sp with_busy with_inhibit with_service with_chip data_of pointed_of word_if
returns-in-30 c =
    rw (c.in-30.is, found 30, c.ld.ensures.value, c.ld.ensures.regs_after, c.leaves-left.ensures)
    (record { core = refl; bytes = refl })

pub returns-in-31 : goal.returns-in-31
unfolding with_regs with_reg with_pc with_sp with_busy with_inhibit with_service with_chip data_of pointed_of word_if
returns-in-31 c =
    rw (c.in-31.is, found 31, c.ld-in-31.ensures.value, c.ld-in-31.ensures.regs_after, c.leaves-left.ensures)
    (record { core = refl; bytes = refl })

pub returns-in-32 : goal.returns-in-32
unfolding with_regs with_reg with_pc with_sp with_busy with_inhibit with_service with_chip data_of pointed_of word_if
returns-in-32 c =
    rw (c.in-32.is, found 32, c.ld-in-32.ensures.value, c.ld-in-32.ensures.regs_after, c.leaves-left.ensures)
    (record { core = refl; bytes = refl })

pub returns-in-33 : goal.returns-in-33
unfolding with_regs with_reg with_pc with_sp with_busy with_inhibit with_service with_chip data_of pointed_of word_if
returns-in-33 c =
    rw (c.in-33.is, found 33, c.ld-in-33.ensures.value, c.ld-in-33.ensures.regs_after, c.leaves-left.ensures)
    (record { core = refl; bytes = refl })

pub returns-in-34 : goal.returns-in-34
unfolding with_regs with_reg with_pc with_sp with_busy with_inhibit with_service with_chip data_of pointed_of word_if
returns-in-34 c =
    rw (c.in-34.is, found 34, c.ld-in-34.ensures.value, c.ld-in-34.ensures.regs_after, c.leaves-left.ensures)
    (record { core = refl; bytes = refl })

pub returns-in-35 : goal.returns-in-35
unfolding with_regs with_reg with_pc with_sp with_busy with_inhibit with_service with_chip data_of pointed_of word_if
returns-in-35 c =
    rw (c.in-35.is, found 35, c.ld-in-35.ensures.value, c.ld-in-35.ensures.regs_after, c.leaves-left.ensures)
    (record { core = refl; bytes = refl })

pub returns-in-36 : goal.returns-in-36
unfolding with_regs with_reg with_pc with_sp with_busy with_inhibit with_service with_chip data_of pointed_of word_if
returns-in-36 c =
    rw (c.in-36.is, found 36, c.ld-in-36.ensures.value, c.ld-in-36.ensures.regs_after, c.leaves-left.ensures)
    (record { core = refl; bytes = refl })

pub returns-in-37 : goal.returns-in-37
unfolding with_regs with_reg with_pc with_sp with_busy with_inhibit with_service with_chip data_of pointed_of word_if
returns-in-37 c =
    rw (c.in-37.is, found 37, c.ld-in-37.ensures.value, c.ld-in-37.ensures.regs_after, c.q6-q.ensures, c.leaves-left.ensures)
    (record { core = refl; bytes = refl })

pub returns-in-38 : goal.returns-in-38
unfolding with_regs with_reg with_pc with_sp with_busy with_inhibit with_service with_chip data_of pointed_of word_if
returns-in-38 c =
    rw (c.in-38.is, found 38, c.ld-in-38.ensures.value, c.ld-in-38.ensures.regs_after, c.q6-q-in-38.ensures, c.leaves-left.ensures)
    (record { core = refl; bytes = refl })

pub returns-in-40 : goal.returns-in-40
unfolding with_regs with_reg with_pc with_sp with_busy with_inhibit with_service with_chip data_of pointed_of word_if
returns-in-40 c =
    rw (c.in-40.is, found 40, c.load_to-in-40.ensures, c.get_progmem-at.ensures, c.leaves-left.ensures)
    (record { core = refl; bytes = refl })

pub returns-in-41 : goal.returns-in-41
unfolding with_regs with_reg with_pc with_sp with_busy with_inhibit with_service with_chip data_of pointed_of word_if
returns-in-41 c =
    rw (c.in-41.is, found 41, c.lpm.ensures.value, c.lpm.ensures.regs_after, c.leaves-left.ensures)
    (record { core = refl; bytes = refl })

pub returns-in-42 : goal.returns-in-42
unfolding with_regs with_reg with_pc with_sp with_busy with_inhibit with_service with_chip data_of pointed_of word_if
returns-in-42 c =
    rw (c.in-42.is, found 42, c.lpm-in-42.ensures.value, c.lpm-in-42.ensures.regs_after, c.d5.ensures, c.leaves-left.ensures)
    (record { core = refl; bytes = refl })

pub returns-in-43 : goal.returns-in-43
unfolding with_regs with_reg with_pc with_sp with_busy with_inhibit with_service with_chip data_of pointed_of word_if
returns-in-43 c =
    rw (c.in-43.is, found 43, c.lpm-in-43.ensures.value, c.lpm-in-43.ensures.regs_after, c.d5-in-43.ensures, c.leaves-left.ensures)
    (record { core = refl; bytes = refl })

pub returns-in-55 : goal.returns-in-55
unfolding with_regs with_reg with_pc with_sp with_busy with_inhibit with_service with_chip
returns-in-55 c =
    let a = c.args in
    let e = rw c.A6-in-55.ensures at c.store_from-left.ensures in
    rw (c.in-55.is, found 55)
    (let l = out_leaves a.pc0 a.sp0 a.sreg0 a.inhibit0 a.in_service0 a.chip a.«data».now a.regs.now (d5 a.opcode) (A6 a.opcode) e.value e.data_after in record { core = l.core; bytes = l.bytes })

pub returns-in-56 : goal.returns-in-56
unfolding with_regs with_reg with_pc with_sp with_busy with_inhibit with_service with_chip data_of pointed_of word_if
returns-in-56 c =
    rw (c.in-56.is, found 56, c.load_to-in-56.ensures, c.leaves-left.ensures)
    (record { core = refl; bytes = refl })

pub returns-in-57 : goal.returns-in-57
unfolding with_regs with_reg with_pc with_sp with_busy with_inhibit with_service with_chip
returns-in-57 c =
    let a = c.args in
    let e = c.store_from-left-in-57.ensures in
    let lower : (c.store_from-left-in-57.result.sp + 65535) % 65536 ≡ down c.store_from-left-in-57.result.sp 1 = omega arith in
    rw (c.in-57.is, found 57)
    (let l = push_leaves a.pc0 a.sp0 a.sreg0 a.inhibit0 a.in_service0 a.chip a.«data».now a.regs.now (d5 a.opcode) e.value e.data_after lower in record { core = l.core; bytes = l.bytes })

pub returns-in-72 : goal.returns-in-72
unfolding with_regs with_reg with_pc with_sp with_busy with_inhibit with_service with_chip
returns-in-72 c =
    let a = c.args in
    let e = c.st-left.ensures in
    rw (c.in-72.is, found 72)
    (let l = st_leaves a.pc0 a.sp0 a.sreg0 a.inhibit0 a.in_service0 a.chip a.«data».now a.regs.now (d5 a.opcode) 26 0 false false e.value e.regs_after e.data_after in record { core = l.core; bytes = l.bytes })

pub returns-in-73 : goal.returns-in-73
unfolding with_regs with_reg with_pc with_sp with_busy with_inhibit with_service with_chip
returns-in-73 c =
    let a = c.args in
    let e = c.st-left-in-73.ensures in
    rw (c.in-73.is, found 73)
    (let l = st_leaves a.pc0 a.sp0 a.sreg0 a.inhibit0 a.in_service0 a.chip a.«data».now a.regs.now (d5 a.opcode) 26 0 true false e.value e.regs_after e.data_after in record { core = l.core; bytes = l.bytes })

pub returns-in-74 : goal.returns-in-74
unfolding with_regs with_reg with_pc with_sp with_busy with_inhibit with_service with_chip
returns-in-74 c =
    let a = c.args in
    let e = c.st-left-in-74.ensures in
    rw (c.in-74.is, found 74)
    (let l = st_leaves a.pc0 a.sp0 a.sreg0 a.inhibit0 a.in_service0 a.chip a.«data».now a.regs.now (d5 a.opcode) 26 0 false true e.value e.regs_after e.data_after in record { core = l.core; bytes = l.bytes })

pub returns-in-75 : goal.returns-in-75
unfolding with_regs with_reg with_pc with_sp with_busy with_inhibit with_service with_chip
returns-in-75 c =
    let a = c.args in
    let e = c.st-left-in-75.ensures in
    rw (c.in-75.is, found 75)
    (let l = st_leaves a.pc0 a.sp0 a.sreg0 a.inhibit0 a.in_service0 a.chip a.«data».now a.regs.now (d5 a.opcode) 28 0 true false e.value e.regs_after e.data_after in record { core = l.core; bytes = l.bytes })

pub returns-in-76 : goal.returns-in-76
unfolding with_regs with_reg with_pc with_sp with_busy with_inhibit with_service with_chip
returns-in-76 c =
    let a = c.args in
    let e = c.st-left-in-76.ensures in
    rw (c.in-76.is, found 76)
    (let l = st_leaves a.pc0 a.sp0 a.sreg0 a.inhibit0 a.in_service0 a.chip a.«data».now a.regs.now (d5 a.opcode) 28 0 false true e.value e.regs_after e.data_after in record { core = l.core; bytes = l.bytes })

pub returns-in-77 : goal.returns-in-77
unfolding with_regs with_reg with_pc with_sp with_busy with_inhibit with_service with_chip
returns-in-77 c =
    let a = c.args in
    let e = c.st-left-in-77.ensures in
    rw (c.in-77.is, found 77)
    (let l = st_leaves a.pc0 a.sp0 a.sreg0 a.inhibit0 a.in_service0 a.chip a.«data».now a.regs.now (d5 a.opcode) 30 0 true false e.value e.regs_after e.data_after in record { core = l.core; bytes = l.bytes })

pub returns-in-78 : goal.returns-in-78
unfolding with_regs with_reg with_pc with_sp with_busy with_inhibit with_service with_chip
returns-in-78 c =
    let a = c.args in
    let e = c.st-left-in-78.ensures in
    rw (c.in-78.is, found 78)
    (let l = st_leaves a.pc0 a.sp0 a.sreg0 a.inhibit0 a.in_service0 a.chip a.«data».now a.regs.now (d5 a.opcode) 30 0 false true e.value e.regs_after e.data_after in record { core = l.core; bytes = l.bytes })

pub returns-in-79 : goal.returns-in-79
unfolding with_regs with_reg with_pc with_sp with_busy with_inhibit with_service with_chip
returns-in-79 c =
    let a = c.args in
    let e = rw c.q6-q-in-79.ensures at c.st-left-in-79.ensures in
    rw (c.in-79.is, found 79)
    (let l = st_leaves a.pc0 a.sp0 a.sreg0 a.inhibit0 a.in_service0 a.chip a.«data».now a.regs.now (d5 a.opcode) 28 (q6 a.opcode) false false e.value e.regs_after e.data_after in record { core = l.core; bytes = l.bytes })

pub returns-in-80 : goal.returns-in-80
unfolding with_regs with_reg with_pc with_sp with_busy with_inhibit with_service with_chip
returns-in-80 c =
    let a = c.args in
    let e = rw c.q6-q-in-80.ensures at c.st-left-in-80.ensures in
    rw (c.in-80.is, found 80)
    (let l = st_leaves a.pc0 a.sp0 a.sreg0 a.inhibit0 a.in_service0 a.chip a.«data».now a.regs.now (d5 a.opcode) 30 (q6 a.opcode) false false e.value e.regs_after e.data_after in record { core = l.core; bytes = l.bytes })

pub returns-in-81 : goal.returns-in-81
unfolding with_regs with_reg with_pc with_sp with_busy with_inhibit with_service with_chip
returns-in-81 c =
    let a = c.args in
    let e = rw c.get_progmem-at-in-81.ensures at c.store_from-left-in-81.ensures in
    rw (c.in-81.is, found 81)
    (let l = sts_leaves a.pc0 a.sp0 a.sreg0 a.inhibit0 a.in_service0 a.chip a.«data».now a.regs.now (d5 a.opcode) (program_word_of a.program.now a.pc0) e.value e.data_after in record { core = l.core; bytes = l.bytes })

pub returns-in-14 : goal.returns-in-14
unfolding with_regs with_reg with_pc with_sp with_busy with_inhibit with_service with_chip
returns-in-14 c =
    rw (c.in-14.is, found 14, c.set_io_bit.ensures, c.leaves-left.ensures)
    (record { core = refl; bytes = refl })

pub returns-in-65 : goal.returns-in-65
unfolding with_regs with_reg with_pc with_sp with_busy with_inhibit with_service with_chip
returns-in-65 c =
    rw (c.in-65.is, found 65, c.set_io_bit-in-65.ensures, c.leaves-left.ensures)
    (record { core = refl; bytes = refl })

pub returns-in_default : goal.returns-in_default
unfolding with_regs with_reg with_pc with_sp with_busy with_inhibit with_service with_chip
returns-in_default c =
    let a = c.args in
    let x = program_word_of a.program.now a.pc0 in
    let k = parted a.regs.now a.pc0 a.sp0 a.sreg0 0 a.inhibit0 a.in_service0 a.chip in
    let e = others a.form a.opcode x k a.program.now a.«data».now (search rules) in
    rw c.leaves-left.ensures (record { core = c.change-made.ensures a.pc0 a.sp0 a.in_service0 x a.program.now a.«data».now ∙ e.0; bytes = e.1 })
