-- The registers that an instruction does not name stay, and one of the register-only list leaves all but registers, SREG and busy, and inhibit to SEI under chip.
-- Assumes nothing.
use mathlib.Core.Path.{◌≡◌, refl, ap, subst, ◌∙◌}
use mathlib.Core.Bool.{Bool, true, false, beq}
use mathlib.Core.List.{List, [], ◌∷◌}
use Prim.Native.Nat.{ℕ, ◌+◌}
use lib.ListN.{get_or}
use lib.Seq.{get_or-set_other}
use Rattle.basis.specs.Bit.{one, up}
use Rattle.basis.proofs.Choice.{either}
use Rattle.alu.specs.Alu.{signed_of}
use Rattle.instruction.specs.declared.Instruction.{Instruction}
use Rattle.instruction.specs.declared.Instruction.TheVariants.{ADC, ADD, ADIW, AND, ANDI, ASR, BCLR, BLD, BRBC, BRBS, BREAK, BSET, BST, CALL, CBI, COM, CP, CPC, CPI, CPSE, DEC, EOR, FMUL, FMULS, FMULSU, ICALL, IJMP, IN, INC, JMP, LDX, LDXinc, LDXdec, LDYinc, LDYdec, LDZinc, LDZdec, LDDY, LDDZ, LDI, LDS, LPM, LPMZ, LPMZinc, LSL, LSR, MOV, MOVW, MUL, MULS, MULSU, NEG, NOP, OR, ORI, OUT, POP, PUSH, RCALL, RET, RETI, RJMP, ROR, SBC, SBCI, SBI, SBIC, SBIS, SBIW, SBRC, SBRS, SLEEP, STX, STXdec, STXinc, STYdec, STYinc, STZdec, STZinc, STDY, STDZ, STS, SUB, SUBI, SWAP, WDR, UNDEF}
use Rattle.instruction.specs.Code.{is_register_only}
use Rattle.cores.specs.declared.Core.{Core}
use Rattle.cores.specs.State.{reg, flag, with_reg, with_pc, with_sp, with_busy, with_inhibit, with_service}
use Rattle.cores.specs.Flow.{brbx_of, skipped}
use Rattle.cores.specs.Transfer.{word_if}
use Rattle.cores.proofs.Space.{store_regs}
use Rattle.execute.specs.Execute.{executed, ran}
use Rattle.invariants.specs.Instructions.{Unnamed, rest_of, inhibited_by, OtherRegistersKept, RegisterOnlyKeepsTheRest}

-- ---- one, two or three registers written, seen at another
past_one : (k : Core) (i d v : ℕ) → Unnamed i (d ∷ []) → reg (with_reg k d v) i ≡ reg k i
unfolding with_reg
past_one k i d v u = get_or-set_other k.regs d i v 0 u.0

past_two : (k : Core) (i d e v w : ℕ) → Unnamed i (d ∷ e ∷ []) → reg (with_reg (with_reg k d v) e w) i ≡ reg k i
past_two k i d e v w u = past_one (with_reg k d v) i e w u.1 ∙ past_one k i d v (u.0, tt)

-- a load and a stepped pointer: the pointer is written last, or first
past_load_step : (k : Core) (i d e f v w x : ℕ) → Unnamed i (d ∷ e ∷ f ∷ []) → reg (with_reg (with_reg (with_reg k d v) e w) f x) i ≡ reg k i
past_load_step k i d e f v w x u = past_two (with_reg k d v) i e f w x u.1 ∙ past_one k i d v (u.0, tt)

past_step_load : (k : Core) (i d e f v w x : ℕ) → Unnamed i (d ∷ e ∷ f ∷ []) → reg (with_reg (with_reg (with_reg k e w) f x) d v) i ≡ reg k i
past_step_load k i d e f v w x u = past_one (with_reg (with_reg k e w) f x) i d v (u.0, tt) ∙ past_two k i e f w x u.1

-- ---- a branch, a skip and a store write no register
branch_regs : (k : Core) (s o : ℕ) (on : Bool) → (brbx_of k s o on).regs ≡ k.regs
unfolding brbx_of with_busy with_pc
branch_regs k s o on = either (λ j. j.regs ≡ k.regs) (beq (flag k s) on) (with_busy (with_pc k (up k.pc (signed_of o))) 1) k refl refl

skip_regs : (k : Core) (taken two : Bool) → (skipped k taken two).regs ≡ k.regs
unfolding skipped with_busy with_pc
skip_regs k taken two = either (λ j. j.regs ≡ k.regs) taken (with_busy (with_pc k (up k.pc (1 + one two))) (1 + one two)) k refl refl

-- so each register is as it was
at_i : (i : ℕ) {l l' : List ℕ} → l ≡ l' → get_or l i 0 ≡ get_or l' i 0
at_i i e = ap (λ (l : List ℕ). get_or l i 0) e

-- ---- the table
pub other_registers_kept : OtherRegistersKept
unfolding with_pc with_sp with_busy with_inhibit with_service word_if
other_registers_kept decode (ADC d r) k p m i u = past_one _ i _ _ u
other_registers_kept decode (ADD d r) k p m i u = past_one _ i _ _ u
other_registers_kept decode (ADIW d K) k p m i u = past_two _ i _ _ _ _ u
other_registers_kept decode (AND d r) k p m i u = past_one _ i _ _ u
other_registers_kept decode (ANDI d K) k p m i u = past_one _ i _ _ u
other_registers_kept decode (ASR d) k p m i u = past_one _ i _ _ u
other_registers_kept decode (BCLR s) k p m i u = refl
other_registers_kept decode (BLD d b) k p m i u = past_one _ i _ _ u
other_registers_kept decode (BRBC s t) k p m i u = at_i i (branch_regs k s t _)
other_registers_kept decode (BRBS s t) k p m i u = at_i i (branch_regs k s t _)
other_registers_kept decode BREAK k p m i u = refl
other_registers_kept decode (BSET s) k p m i u = refl
other_registers_kept decode (BST d b) k p m i u = refl
other_registers_kept decode (CALL t) k p m i u = refl
other_registers_kept decode (CBI A b) k p m i u = refl
other_registers_kept decode (COM d) k p m i u = past_one _ i _ _ u
other_registers_kept decode (CP d r) k p m i u = refl
other_registers_kept decode (CPC d r) k p m i u = refl
other_registers_kept decode (CPI d K) k p m i u = refl
other_registers_kept decode (CPSE d r) k p m i u = at_i i (skip_regs k _ _)
other_registers_kept decode (DEC d) k p m i u = past_one _ i _ _ u
other_registers_kept decode (EOR d r) k p m i u = past_one _ i _ _ u
other_registers_kept decode (FMUL d r) k p m i u = past_two _ i _ _ _ _ u
other_registers_kept decode (FMULS d r) k p m i u = past_two _ i _ _ _ _ u
other_registers_kept decode (FMULSU d r) k p m i u = past_two _ i _ _ _ _ u
other_registers_kept decode ICALL k p m i u = refl
other_registers_kept decode IJMP k p m i u = refl
other_registers_kept decode (IN d A) k p m i u = past_one _ i _ _ u
other_registers_kept decode (INC d) k p m i u = past_one _ i _ _ u
other_registers_kept decode (JMP t) k p m i u = refl
other_registers_kept decode (LDX d) k p m i u = past_one _ i _ _ u
other_registers_kept decode (LDXinc d) k p m i u = past_load_step _ i _ _ _ _ _ _ u
other_registers_kept decode (LDXdec d) k p m i u = past_step_load _ i _ _ _ _ _ _ u
other_registers_kept decode (LDYinc d) k p m i u = past_load_step _ i _ _ _ _ _ _ u
other_registers_kept decode (LDYdec d) k p m i u = past_step_load _ i _ _ _ _ _ _ u
other_registers_kept decode (LDZinc d) k p m i u = past_load_step _ i _ _ _ _ _ _ u
other_registers_kept decode (LDZdec d) k p m i u = past_step_load _ i _ _ _ _ _ _ u
other_registers_kept decode (LDDY d q) k p m i u = past_one _ i _ _ u
other_registers_kept decode (LDDZ d q) k p m i u = past_one _ i _ _ u
other_registers_kept decode (LDI d K) k p m i u = past_one _ i _ _ u
other_registers_kept decode (LDS d at) k p m i u = past_one _ i _ _ u
other_registers_kept decode LPM k p m i u = past_one _ i _ _ u
other_registers_kept decode (LPMZ d) k p m i u = past_one _ i _ _ u
other_registers_kept decode (LPMZinc d) k p m i u = past_load_step _ i _ _ _ _ _ _ u
other_registers_kept decode (LSL d) k p m i u = past_one _ i _ _ u
other_registers_kept decode (LSR d) k p m i u = past_one _ i _ _ u
other_registers_kept decode (MOV d r) k p m i u = past_one _ i _ _ u
other_registers_kept decode (MOVW d r) k p m i u = past_two _ i _ _ _ _ u
other_registers_kept decode (MUL d r) k p m i u = past_two _ i _ _ _ _ u
other_registers_kept decode (MULS d r) k p m i u = past_two _ i _ _ _ _ u
other_registers_kept decode (MULSU d r) k p m i u = past_two _ i _ _ _ _ u
other_registers_kept decode (NEG d) k p m i u = past_one _ i _ _ u
other_registers_kept decode NOP k p m i u = refl
other_registers_kept decode (OR d r) k p m i u = past_one _ i _ _ u
other_registers_kept decode (ORI d K) k p m i u = past_one _ i _ _ u
other_registers_kept decode (OUT A r) k p m i u = at_i i (store_regs _ _ _ m)
other_registers_kept decode (POP d) k p m i u = past_one _ i _ _ u
other_registers_kept decode (PUSH d) k p m i u = at_i i (store_regs _ _ _ m)
other_registers_kept decode (RCALL t) k p m i u = refl
other_registers_kept decode RET k p m i u = refl
other_registers_kept decode RETI k p m i u = refl
other_registers_kept decode (RJMP t) k p m i u = refl
other_registers_kept decode (ROR d) k p m i u = past_one _ i _ _ u
other_registers_kept decode (SBC d r) k p m i u = past_one _ i _ _ u
other_registers_kept decode (SBCI d K) k p m i u = past_one _ i _ _ u
other_registers_kept decode (SBI A b) k p m i u = refl
other_registers_kept decode (SBIC A b) k p m i u = at_i i (skip_regs k _ _)
other_registers_kept decode (SBIS A b) k p m i u = at_i i (skip_regs k _ _)
other_registers_kept decode (SBIW d K) k p m i u = past_two _ i _ _ _ _ u
other_registers_kept decode (SBRC r b) k p m i u = at_i i (skip_regs k _ _)
other_registers_kept decode (SBRS r b) k p m i u = at_i i (skip_regs k _ _)
other_registers_kept decode SLEEP k p m i u = refl
other_registers_kept decode (STX r) k p m i u = at_i i (store_regs _ _ _ m)
other_registers_kept decode (STXdec r) k p m i u = at_i i (store_regs _ _ _ m) ∙ past_two _ i _ _ _ _ u
other_registers_kept decode (STXinc r) k p m i u = past_two _ i _ _ _ _ u ∙ at_i i (store_regs _ _ _ m)
other_registers_kept decode (STYdec r) k p m i u = at_i i (store_regs _ _ _ m) ∙ past_two _ i _ _ _ _ u
other_registers_kept decode (STYinc r) k p m i u = past_two _ i _ _ _ _ u ∙ at_i i (store_regs _ _ _ m)
other_registers_kept decode (STZdec r) k p m i u = at_i i (store_regs _ _ _ m) ∙ past_two _ i _ _ _ _ u
other_registers_kept decode (STZinc r) k p m i u = past_two _ i _ _ _ _ u ∙ at_i i (store_regs _ _ _ m)
other_registers_kept decode (STDY q r) k p m i u = at_i i (store_regs _ _ _ m)
other_registers_kept decode (STDZ q r) k p m i u = at_i i (store_regs _ _ _ m)
other_registers_kept decode (STS at r) k p m i u = at_i i (store_regs _ _ _ m)
other_registers_kept decode (SUB d r) k p m i u = past_one _ i _ _ u
other_registers_kept decode (SUBI d K) k p m i u = past_one _ i _ _ u
other_registers_kept decode (SWAP d) k p m i u = past_one _ i _ _ u
other_registers_kept decode WDR k p m i u = refl
other_registers_kept decode UNDEF k p m i u = refl

-- ---- the rest, of the register-only list
abbrev Rest : Bool → (ℕ → ℕ → Instruction) → Instruction → Core → List ℕ → List ℕ → Type 0
Rest true decode op k p m = rest_of (executed decode k op p m) ≡ rest_of (ran (inhibited_by op k) m)
Rest false decode op k p m = Unit {0}

rest : (decode : ℕ → ℕ → Instruction) (op : Instruction) (k : Core) (p m : List ℕ) → Rest (is_register_only op) decode op k p m
unfolding with_reg with_busy with_inhibit
rest decode (ADC d r) k p m = refl
rest decode (ADD d r) k p m = refl
rest decode (ADIW d K) k p m = refl
rest decode (AND d r) k p m = refl
rest decode (ANDI d K) k p m = refl
rest decode (ASR d) k p m = refl
rest decode (BCLR s) k p m = refl
rest decode (BLD d b) k p m = refl
rest decode (BRBC s t) k p m = tt
rest decode (BRBS s t) k p m = tt
rest decode BREAK k p m = tt
rest decode (BSET s) k p m = refl
rest decode (BST d b) k p m = refl
rest decode (CALL t) k p m = tt
rest decode (CBI A b) k p m = tt
rest decode (COM d) k p m = refl
rest decode (CP d r) k p m = refl
rest decode (CPC d r) k p m = refl
rest decode (CPI d K) k p m = refl
rest decode (CPSE d r) k p m = tt
rest decode (DEC d) k p m = refl
rest decode (EOR d r) k p m = refl
rest decode (FMUL d r) k p m = refl
rest decode (FMULS d r) k p m = refl
rest decode (FMULSU d r) k p m = refl
rest decode ICALL k p m = tt
rest decode IJMP k p m = tt
rest decode (IN d A) k p m = tt
rest decode (INC d) k p m = refl
rest decode (JMP t) k p m = tt
rest decode (LDX d) k p m = tt
rest decode (LDXinc d) k p m = tt
rest decode (LDXdec d) k p m = tt
rest decode (LDYinc d) k p m = tt
rest decode (LDYdec d) k p m = tt
rest decode (LDZinc d) k p m = tt
rest decode (LDZdec d) k p m = tt
rest decode (LDDY d q) k p m = tt
rest decode (LDDZ d q) k p m = tt
rest decode (LDI d K) k p m = refl
rest decode (LDS d at) k p m = tt
rest decode LPM k p m = tt
rest decode (LPMZ d) k p m = tt
rest decode (LPMZinc d) k p m = tt
rest decode (LSL d) k p m = tt
rest decode (LSR d) k p m = refl
rest decode (MOV d r) k p m = refl
rest decode (MOVW d r) k p m = refl
rest decode (MUL d r) k p m = refl
rest decode (MULS d r) k p m = refl
rest decode (MULSU d r) k p m = refl
rest decode (NEG d) k p m = refl
rest decode NOP k p m = refl
rest decode (OR d r) k p m = refl
rest decode (ORI d K) k p m = refl
rest decode (OUT A r) k p m = tt
rest decode (POP d) k p m = tt
rest decode (PUSH d) k p m = tt
rest decode (RCALL t) k p m = tt
rest decode RET k p m = tt
rest decode RETI k p m = tt
rest decode (RJMP t) k p m = tt
rest decode (ROR d) k p m = refl
rest decode (SBC d r) k p m = refl
rest decode (SBCI d K) k p m = refl
rest decode (SBI A b) k p m = tt
rest decode (SBIC A b) k p m = tt
rest decode (SBIS A b) k p m = tt
rest decode (SBIW d K) k p m = refl
rest decode (SBRC r b) k p m = tt
rest decode (SBRS r b) k p m = tt
rest decode SLEEP k p m = tt
rest decode (STX r) k p m = tt
rest decode (STXdec r) k p m = tt
rest decode (STXinc r) k p m = tt
rest decode (STYdec r) k p m = tt
rest decode (STYinc r) k p m = tt
rest decode (STZdec r) k p m = tt
rest decode (STZinc r) k p m = tt
rest decode (STDY q r) k p m = tt
rest decode (STDZ q r) k p m = tt
rest decode (STS at r) k p m = tt
rest decode (SUB d r) k p m = refl
rest decode (SUBI d K) k p m = refl
rest decode (SWAP d) k p m = refl
rest decode WDR k p m = tt
rest decode UNDEF k p m = tt

pub register_only_keeps_the_rest : RegisterOnlyKeepsTheRest
register_only_keeps_the_rest decode op k p m e = subst (λ w. Rest w decode op k p m) e (rest decode op k p m)
