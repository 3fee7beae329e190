-- `change`: in each arm what its calls ensure is what `executed` says of the form's instruction; past all arms is nothing of the list but NOP.
use Prim.Native.Nat.{ℕ}
use Rattle.cores.specs.State.{with_regs, with_reg, with_pc, with_sp, with_busy, with_inhibit, with_service, with_chip}
use Rattle.forms.specs.Instructions.{instructions, by_form}
use Rattle.registers.proofs.Found.{found, found_past}
use Rattle.registers.specs.Registers.{parted, listed_only}
use borrow.Author.Rules.{rules}
use mathlib.Core.List.{List, [], ◌∷◌}
use mathlib.Core.Logic.{inl, inr}
use mathlib.Core.Path.{◌≡◌, refl, sym}
use Rattle.registers.proofs.change.Goals as goal

-- the forms of the arms, in their order
abbrev listed : List ℕ
listed = 0 ∷ 1 ∷ 2 ∷ 3 ∷ 4 ∷ 15 ∷ 20 ∷ 21 ∷ 22 ∷ 23 ∷ 24 ∷ 28 ∷ 48 ∷ 49 ∷ 50 ∷ 51 ∷ 53 ∷ 54 ∷ 63 ∷ 64 ∷ 68 ∷ 82 ∷ 83 ∷ 16 ∷ 17 ∷ 18 ∷ 39 ∷ 46 ∷ 47 ∷ 5 ∷ 6 ∷ 7 ∷ 11 ∷ 12 ∷ 45 ∷ 62 ∷ 84 ∷ []

pub returns-in-0 : goal.returns-in-0
unfolding with_regs with_reg with_pc with_sp with_busy with_inhibit with_service with_chip
returns-in-0 c pc sp service x p m =
    rw (c.in-0.is, found 0, c.adc-sreg.ensures.value, c.adc-sreg.ensures.regs_after, c.r5.ensures, c.d5.ensures)

pub returns-in-1 : goal.returns-in-1
unfolding with_regs with_reg with_pc with_sp with_busy with_inhibit with_service with_chip
returns-in-1 c pc sp service x p m =
    rw (c.in-1.is, found 1, c.add-sreg.ensures.value, c.add-sreg.ensures.regs_after, c.r5-in-1.ensures, c.d5-in-1.ensures)

pub returns-in-2 : goal.returns-in-2
unfolding with_regs with_reg with_pc with_sp with_busy with_inhibit with_service with_chip
returns-in-2 c pc sp service x p m =
    rw (c.in-2.is, found 2, c.adiw-sreg.ensures.value, c.adiw-sreg.ensures.regs_after, c.K6.ensures, c.d2.ensures)

pub returns-in-3 : goal.returns-in-3
unfolding with_regs with_reg with_pc with_sp with_busy with_inhibit with_service with_chip
returns-in-3 c pc sp service x p m =
    rw (c.in-3.is, found 3, c.and-sreg.ensures.value, c.and-sreg.ensures.regs_after, c.read.ensures, c.r5-in-3.ensures, c.d5-in-3.ensures)

pub returns-in-4 : goal.returns-in-4
unfolding with_regs with_reg with_pc with_sp with_busy with_inhibit with_service with_chip
returns-in-4 c pc sp service x p m =
    rw (c.in-4.is, found 4, c.and-sreg-in-4.ensures.value, c.and-sreg-in-4.ensures.regs_after, c.K8.ensures, c.d4.ensures)

pub returns-in-15 : goal.returns-in-15
unfolding with_regs with_reg with_pc with_sp with_busy with_inhibit with_service with_chip
returns-in-15 c pc sp service x p m =
    rw (c.in-15.is, found 15, c.com-sreg.ensures.value, c.com-sreg.ensures.regs_after, c.d5-in-15.ensures)

pub returns-in-20 : goal.returns-in-20
unfolding with_regs with_reg with_pc with_sp with_busy with_inhibit with_service with_chip
returns-in-20 c pc sp service x p m =
    rw (c.in-20.is, found 20, c.dec-sreg.ensures.value, c.dec-sreg.ensures.regs_after, c.d5-in-20.ensures)

pub returns-in-21 : goal.returns-in-21
unfolding with_regs with_reg with_pc with_sp with_busy with_inhibit with_service with_chip
returns-in-21 c pc sp service x p m =
    rw (c.in-21.is, found 21, c.eor-sreg.ensures.value, c.eor-sreg.ensures.regs_after, c.read-in-21.ensures, c.r5-in-21.ensures, c.d5-in-21.ensures)

pub returns-in-22 : goal.returns-in-22
unfolding with_regs with_reg with_pc with_sp with_busy with_inhibit with_service with_chip
returns-in-22 c pc sp service x p m =
    rw (c.in-22.is, found 22, c.fmul-sreg.ensures.value, c.fmul-sreg.ensures.regs_after, c.r3.ensures, c.d3.ensures)

pub returns-in-23 : goal.returns-in-23
unfolding with_regs with_reg with_pc with_sp with_busy with_inhibit with_service with_chip
returns-in-23 c pc sp service x p m =
    rw (c.in-23.is, found 23, c.fmuls-sreg.ensures.value, c.fmuls-sreg.ensures.regs_after, c.r3-in-23.ensures, c.d3-in-23.ensures)

pub returns-in-24 : goal.returns-in-24
unfolding with_regs with_reg with_pc with_sp with_busy with_inhibit with_service with_chip
returns-in-24 c pc sp service x p m =
    rw (c.in-24.is, found 24, c.fmulsu-sreg.ensures.value, c.fmulsu-sreg.ensures.regs_after, c.r3-in-24.ensures, c.d3-in-24.ensures)

pub returns-in-28 : goal.returns-in-28
unfolding with_regs with_reg with_pc with_sp with_busy with_inhibit with_service with_chip
returns-in-28 c pc sp service x p m =
    rw (c.in-28.is, found 28, c.inc-sreg.ensures.value, c.inc-sreg.ensures.regs_after, c.d5-in-28.ensures)

pub returns-in-48 : goal.returns-in-48
unfolding with_regs with_reg with_pc with_sp with_busy with_inhibit with_service with_chip
returns-in-48 c pc sp service x p m =
    rw (c.in-48.is, found 48, c.mul-sreg.ensures.value, c.mul-sreg.ensures.regs_after, c.r5-in-48.ensures, c.d5-in-48.ensures)

pub returns-in-49 : goal.returns-in-49
unfolding with_regs with_reg with_pc with_sp with_busy with_inhibit with_service with_chip
returns-in-49 c pc sp service x p m =
    rw (c.in-49.is, found 49, c.muls-sreg.ensures.value, c.muls-sreg.ensures.regs_after, c.r4.ensures, c.d4-in-49.ensures)

pub returns-in-50 : goal.returns-in-50
unfolding with_regs with_reg with_pc with_sp with_busy with_inhibit with_service with_chip
returns-in-50 c pc sp service x p m =
    rw (c.in-50.is, found 50, c.mulsu-sreg.ensures.value, c.mulsu-sreg.ensures.regs_after, c.r3-in-50.ensures, c.d3-in-50.ensures)

pub returns-in-51 : goal.returns-in-51
unfolding with_regs with_reg with_pc with_sp with_busy with_inhibit with_service with_chip
returns-in-51 c pc sp service x p m =
    rw (c.in-51.is, found 51, c.neg-sreg.ensures.value, c.neg-sreg.ensures.regs_after, c.d5-in-51.ensures)

pub returns-in-53 : goal.returns-in-53
unfolding with_regs with_reg with_pc with_sp with_busy with_inhibit with_service with_chip
returns-in-53 c pc sp service x p m =
    rw (c.in-53.is, found 53, c.or-sreg.ensures.value, c.or-sreg.ensures.regs_after, c.read-in-53.ensures, c.r5-in-53.ensures, c.d5-in-53.ensures)

pub returns-in-54 : goal.returns-in-54
unfolding with_regs with_reg with_pc with_sp with_busy with_inhibit with_service with_chip
returns-in-54 c pc sp service x p m =
    rw (c.in-54.is, found 54, c.or-sreg-in-54.ensures.value, c.or-sreg-in-54.ensures.regs_after, c.K8-in-54.ensures, c.d4-in-54.ensures)

pub returns-in-63 : goal.returns-in-63
unfolding with_regs with_reg with_pc with_sp with_busy with_inhibit with_service with_chip
returns-in-63 c pc sp service x p m =
    rw (c.in-63.is, found 63, c.sbc-sreg.ensures.value, c.sbc-sreg.ensures.regs_after, c.read-in-63.ensures, c.r5-in-63.ensures, c.d5-in-63.ensures)

pub returns-in-64 : goal.returns-in-64
unfolding with_regs with_reg with_pc with_sp with_busy with_inhibit with_service with_chip
returns-in-64 c pc sp service x p m =
    rw (c.in-64.is, found 64, c.sbc-sreg-in-64.ensures.value, c.sbc-sreg-in-64.ensures.regs_after, c.K8-in-64.ensures, c.d4-in-64.ensures)

pub returns-in-68 : goal.returns-in-68
unfolding with_regs with_reg with_pc with_sp with_busy with_inhibit with_service with_chip
returns-in-68 c pc sp service x p m =
    rw (c.in-68.is, found 68, c.sbiw-sreg.ensures.value, c.sbiw-sreg.ensures.regs_after, c.K6-in-68.ensures, c.d2-in-68.ensures)

pub returns-in-82 : goal.returns-in-82
unfolding with_regs with_reg with_pc with_sp with_busy with_inhibit with_service with_chip
returns-in-82 c pc sp service x p m =
    rw (c.in-82.is, found 82, c.sub-sreg.ensures.value, c.sub-sreg.ensures.regs_after, c.read-in-82.ensures, c.r5-in-82.ensures, c.d5-in-82.ensures)

pub returns-in-83 : goal.returns-in-83
unfolding with_regs with_reg with_pc with_sp with_busy with_inhibit with_service with_chip
returns-in-83 c pc sp service x p m =
    rw (c.in-83.is, found 83, c.sub-sreg-in-83.ensures.value, c.sub-sreg-in-83.ensures.regs_after, c.K8-in-83.ensures, c.d4-in-83.ensures)

pub returns-in-16 : goal.returns-in-16
unfolding with_regs with_reg with_pc with_sp with_busy with_inhibit with_service with_chip
returns-in-16 c pc sp service x p m =
    rw (c.in-16.is, found 16, c.cp-sreg.ensures, c.read-in-16.ensures, c.r5-in-16.ensures, c.d5-in-16.ensures)

pub returns-in-17 : goal.returns-in-17
unfolding with_regs with_reg with_pc with_sp with_busy with_inhibit with_service with_chip
returns-in-17 c pc sp service x p m =
    rw (c.in-17.is, found 17, c.cpc-sreg.ensures, c.read-in-17.ensures, c.r5-in-17.ensures, c.d5-in-17.ensures)

pub returns-in-18 : goal.returns-in-18
unfolding with_regs with_reg with_pc with_sp with_busy with_inhibit with_service with_chip
returns-in-18 c pc sp service x p m =
    rw (c.in-18.is, found 18, c.cp-sreg-in-18.ensures, c.K8-in-18.ensures, c.d4-in-18.ensures)

pub returns-in-39 : goal.returns-in-39
unfolding with_regs with_reg with_pc with_sp with_busy with_inhibit with_service with_chip
returns-in-39 c pc sp service x p m =
    rw (c.in-39.is, found 39, c.write.ensures, c.K8-in-39.ensures, c.d4-in-39.ensures)

pub returns-in-46 : goal.returns-in-46
unfolding with_regs with_reg with_pc with_sp with_busy with_inhibit with_service with_chip
returns-in-46 c pc sp service x p m =
    rw (c.in-46.is, found 46, c.write-in-46.ensures, c.read-in-46.ensures, c.r5-in-46.ensures, c.d5-in-46.ensures)

pub returns-in-47 : goal.returns-in-47
unfolding with_regs with_reg with_pc with_sp with_busy with_inhibit with_service with_chip
returns-in-47 c pc sp service x p m =
    rw (c.in-47.is, found 47, c.put_word.ensures, c.read_word.ensures, c.r4_pair.ensures, c.d4_pair.ensures)

pub returns-in-5 : goal.returns-in-5
unfolding with_regs with_reg with_pc with_sp with_busy with_inhibit with_service with_chip
returns-in-5 c pc sp service x p m =
    rw (c.in-5.is, found 5, c.asr-sreg.ensures.value, c.asr-sreg.ensures.regs_after, c.d5-in-5.ensures)

pub returns-in-6 : goal.returns-in-6
unfolding with_regs with_reg with_pc with_sp with_busy with_inhibit with_service with_chip
returns-in-6 c pc sp service x p m =
    rw (c.in-6.is, found 6, c.with_bit-sreg.ensures, c.s3.ensures)

pub returns-in-7 : goal.returns-in-7
unfolding with_regs with_reg with_pc with_sp with_busy with_inhibit with_service with_chip
returns-in-7 c pc sp service x p m =
    rw (c.in-7.is, found 7, c.bld.ensures, c.b3.ensures, c.d5-in-7.ensures)

pub returns-in-11 : goal.returns-in-11
unfolding with_regs with_reg with_pc with_sp with_busy with_inhibit with_service with_chip
returns-in-11 c pc sp service x p m =
    rw (c.in-11.is, found 11, c.bset_inhibits-inhibit.ensures, c.s3-in-11-2.ensures, c.with_bit-sreg-in-11.ensures, c.s3-in-11.ensures)

pub returns-in-12 : goal.returns-in-12
unfolding with_regs with_reg with_pc with_sp with_busy with_inhibit with_service with_chip
returns-in-12 c pc sp service x p m =
    rw (c.in-12.is, found 12, c.bst-sreg.ensures, c.b3-in-12.ensures, c.d5-in-12.ensures)

pub returns-in-45 : goal.returns-in-45
unfolding with_regs with_reg with_pc with_sp with_busy with_inhibit with_service with_chip
returns-in-45 c pc sp service x p m =
    rw (c.in-45.is, found 45, c.lsr-sreg.ensures.value, c.lsr-sreg.ensures.regs_after, c.d5-in-45.ensures)

pub returns-in-62 : goal.returns-in-62
unfolding with_regs with_reg with_pc with_sp with_busy with_inhibit with_service with_chip
returns-in-62 c pc sp service x p m =
    rw (c.in-62.is, found 62, c.ror-sreg.ensures.value, c.ror-sreg.ensures.regs_after, c.d5-in-62.ensures)

pub returns-in-84 : goal.returns-in-84
unfolding with_regs with_reg with_pc with_sp with_busy with_inhibit with_service with_chip
returns-in-84 c pc sp service x p m =
    rw (c.in-84.is, found 84, c.swap.ensures, c.d5-in-84.ensures)

pub returns-in_default : goal.returns-in_default
unfolding with_regs with_reg with_pc with_sp with_busy with_inhibit with_service with_chip
returns-in_default c pc sp service x p m =
    let a = c.args in
    let k = parted a.regs.now pc sp a.sreg0 0 a.inhibit0 service a.chip in
    rw (found a.form)
    (sym (found_past (λ i. listed_only i k p m ≡ k) refl a.form listed (search rules) (by_form (instructions a.opcode x))
    (inl tt, (inl tt, (inl tt, (inl tt, (inl tt, (inl tt, (inl tt, (inl tt, (inr refl, (inr refl, (inr refl, (inl tt, (inl tt, (inr refl, (inr refl, (inl tt, (inl tt, (inl tt, (inl tt, (inr refl, (inl tt, (inl tt, (inl tt, (inl tt, (inl tt, (inr refl, (inr refl, (inr refl, (inl tt, (inr refl, (inr refl, (inr refl, (inr refl, (inr refl, (inr refl, (inr refl, (inr refl, (inr refl, (inr refl, (inl tt, (inr refl, (inr refl, (inr refl, (inr refl, (inl tt, (inl tt, (inl tt, (inl tt, (inl tt, (inl tt, (inl tt, (inr refl, (inl tt, (inl tt, (inr refl, (inr refl, (inr refl, (inr refl, (inr refl, (inr refl, (inr refl, (inl tt, (inl tt, (inl tt, (inr refl, (inr refl, (inr refl, (inl tt, (inr refl, (inr refl, (inr refl, (inr refl, (inr refl, (inr refl, (inr refl, (inr refl, (inr refl, (inr refl, (inr refl, (inr refl, (inr refl, (inl tt, (inl tt, (inl tt, (inr refl, tt)))))))))))))))))))))))))))))))))))))))))))))))))))))))))))))))))))))))))))))))))))))))
