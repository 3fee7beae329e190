-- Every instruction leaves busy or sets it, to 3 at most.
-- Assumes nothing.
use mathlib.Core.Bool.{Bool, true, false, beq}
use mathlib.Core.List.{List}
use Prim.Native.Nat.{ℕ, ◌+◌, ◌≤◌}
use native.Mathlib.Omega.{arith}
use lib.Dec.{eqb}
use Rattle.basis.specs.Bit.{one, up}
use Rattle.basis.proofs.Bits.{one_le}
use Rattle.basis.proofs.Choice.{either}
use Rattle.alu.specs.Alu.{signed_of}
use Rattle.instruction.specs.declared.Instruction.TheVariants.{ADC, ADD, ADIW, AND, ANDI, ASR, BCLR, BLD, BRBC, BRBS, BREAK, BSET, BST, CALL, CBI, COM, CP, CPC, CPI, CPSE, DEC, EOR, FMUL, FMULS, FMULSU, ICALL, IJMP, IN, INC, JMP, LDX, LDXinc, LDXdec, LDYinc, LDYdec, LDZinc, LDZdec, LDDY, LDDZ, LDI, LDS, LPM, LPMZ, LPMZinc, LSL, LSR, MOV, MOVW, MUL, MULS, MULSU, NEG, NOP, OR, ORI, OUT, POP, PUSH, RCALL, RET, RETI, RJMP, ROR, SBC, SBCI, SBI, SBIC, SBIS, SBIW, SBRC, SBRS, SLEEP, STX, STXdec, STXinc, STYdec, STYinc, STZdec, STZinc, STDY, STDZ, STS, SUB, SUBI, SWAP, WDR, UNDEF}
use Rattle.rule.specs.Rule.{load_waits, store_waits}
use Rattle.cores.specs.declared.Core.{Core}
use Rattle.cores.specs.State.{Out, flag, with_reg, with_pc, with_sp, with_busy, with_inhibit, with_service}
use Rattle.cores.specs.Flow.{brbx_of, skipped}
use Rattle.cores.specs.Transfer.{set_data_of, word_if}
use Rattle.invariants.specs.Instructions.{InstructionsWaitAtMost3}

-- ---- a branch, a skip, a store
branch_waits : (k : Core) (s o : ℕ) (on : Bool) (n : ℕ) → 1 ≤ n → k.busy ≤ n → (brbx_of k s o on).busy ≤ n
unfolding brbx_of with_busy
branch_waits k s o on n g h = either (λ j. j.busy ≤ n) (beq (flag k s) on) (with_busy (with_pc k (up k.pc (signed_of o))) 1) k (omega arith) h

skip_waits : (k : Core) (taken two : Bool) (n : ℕ) → 2 ≤ n → k.busy ≤ n → (skipped k taken two).busy ≤ n
unfolding skipped with_busy
skip_waits k taken two n g h =
    either (λ j. j.busy ≤ n) taken (with_busy (with_pc k (up k.pc (1 + one two))) (1 + one two)) k (omega (arith, one_le two)) h

store_waits_lem : (k : Core) (at v : ℕ) (m : List ℕ) (n : ℕ) → k.busy ≤ n → (set_data_of k at v m).core.busy ≤ n
unfolding set_data_of with_sp
store_waits_lem k at v m n h =
    let P : Out → Type 0 = λ o. o.core.busy ≤ n in
    either P (eqb at 0x3F) _ _ h (either P (eqb at 0x3E) _ _ h (either P (eqb at 0x3D) _ _ h h))

-- ---- pointer access, by the rule
load_le : (chip : Bool) → load_waits chip ≤ 2
unfolding load_waits
load_le chip = either (λ n. n ≤ 2) chip 1 2 (omega arith) (omega arith)

store_le : (chip : Bool) → store_waits chip ≤ 1
unfolding store_waits
store_le chip = either (λ n. n ≤ 1) chip 0 1 (omega arith) (omega arith)

-- ---- the table
pub instructions_wait_at_most_3 : InstructionsWaitAtMost3
unfolding with_reg with_pc with_sp with_busy with_inhibit with_service word_if
instructions_wait_at_most_3 decode (ADC d r) k p m n g h = h
instructions_wait_at_most_3 decode (ADD d r) k p m n g h = h
instructions_wait_at_most_3 decode (ADIW d K) k p m n g h = omega arith
instructions_wait_at_most_3 decode (AND d r) k p m n g h = h
instructions_wait_at_most_3 decode (ANDI d K) k p m n g h = h
instructions_wait_at_most_3 decode (ASR d) k p m n g h = h
instructions_wait_at_most_3 decode (BCLR s) k p m n g h = h
instructions_wait_at_most_3 decode (BLD d b) k p m n g h = h
instructions_wait_at_most_3 decode (BRBC s t) k p m n g h = branch_waits k s t false n (omega arith) h
instructions_wait_at_most_3 decode (BRBS s t) k p m n g h = branch_waits k s t true n (omega arith) h
instructions_wait_at_most_3 decode BREAK k p m n g h = h
instructions_wait_at_most_3 decode (BSET s) k p m n g h = h
instructions_wait_at_most_3 decode (BST d b) k p m n g h = h
instructions_wait_at_most_3 decode (CALL t) k p m n g h = omega arith
instructions_wait_at_most_3 decode (CBI A b) k p m n g h = h
instructions_wait_at_most_3 decode (COM d) k p m n g h = h
instructions_wait_at_most_3 decode (CP d r) k p m n g h = h
instructions_wait_at_most_3 decode (CPC d r) k p m n g h = h
instructions_wait_at_most_3 decode (CPI d K) k p m n g h = h
instructions_wait_at_most_3 decode (CPSE d r) k p m n g h = skip_waits k _ _ n (omega arith) h
instructions_wait_at_most_3 decode (DEC d) k p m n g h = h
instructions_wait_at_most_3 decode (EOR d r) k p m n g h = h
instructions_wait_at_most_3 decode (FMUL d r) k p m n g h = omega arith
instructions_wait_at_most_3 decode (FMULS d r) k p m n g h = omega arith
instructions_wait_at_most_3 decode (FMULSU d r) k p m n g h = omega arith
instructions_wait_at_most_3 decode ICALL k p m n g h = omega arith
instructions_wait_at_most_3 decode IJMP k p m n g h = omega arith
instructions_wait_at_most_3 decode (IN d A) k p m n g h = h
instructions_wait_at_most_3 decode (INC d) k p m n g h = h
instructions_wait_at_most_3 decode (JMP t) k p m n g h = omega arith
instructions_wait_at_most_3 decode (LDX d) k p m n g h = omega (arith, load_le k.chip)
instructions_wait_at_most_3 decode (LDXinc d) k p m n g h = omega (arith, load_le k.chip)
instructions_wait_at_most_3 decode (LDXdec d) k p m n g h = omega (arith, load_le k.chip)
instructions_wait_at_most_3 decode (LDYinc d) k p m n g h = omega (arith, load_le k.chip)
instructions_wait_at_most_3 decode (LDYdec d) k p m n g h = omega (arith, load_le k.chip)
instructions_wait_at_most_3 decode (LDZinc d) k p m n g h = omega (arith, load_le k.chip)
instructions_wait_at_most_3 decode (LDZdec d) k p m n g h = omega (arith, load_le k.chip)
instructions_wait_at_most_3 decode (LDDY d q) k p m n g h = omega (arith, load_le k.chip)
instructions_wait_at_most_3 decode (LDDZ d q) k p m n g h = omega (arith, load_le k.chip)
instructions_wait_at_most_3 decode (LDI d K) k p m n g h = h
instructions_wait_at_most_3 decode (LDS d at) k p m n g h = omega arith
instructions_wait_at_most_3 decode LPM k p m n g h = omega arith
instructions_wait_at_most_3 decode (LPMZ d) k p m n g h = omega arith
instructions_wait_at_most_3 decode (LPMZinc d) k p m n g h = omega arith
instructions_wait_at_most_3 decode (LSL d) k p m n g h = h
instructions_wait_at_most_3 decode (LSR d) k p m n g h = h
instructions_wait_at_most_3 decode (MOV d r) k p m n g h = h
instructions_wait_at_most_3 decode (MOVW d r) k p m n g h = h
instructions_wait_at_most_3 decode (MUL d r) k p m n g h = omega arith
instructions_wait_at_most_3 decode (MULS d r) k p m n g h = omega arith
instructions_wait_at_most_3 decode (MULSU d r) k p m n g h = omega arith
instructions_wait_at_most_3 decode (NEG d) k p m n g h = h
instructions_wait_at_most_3 decode NOP k p m n g h = h
instructions_wait_at_most_3 decode (OR d r) k p m n g h = h
instructions_wait_at_most_3 decode (ORI d K) k p m n g h = h
instructions_wait_at_most_3 decode (OUT A r) k p m n g h = store_waits_lem k _ _ m n h
instructions_wait_at_most_3 decode (POP d) k p m n g h = omega arith
instructions_wait_at_most_3 decode (PUSH d) k p m n g h = store_waits_lem k _ _ m n h
instructions_wait_at_most_3 decode (RCALL t) k p m n g h = omega arith
instructions_wait_at_most_3 decode RET k p m n g h = omega arith
instructions_wait_at_most_3 decode RETI k p m n g h = omega arith
instructions_wait_at_most_3 decode (RJMP t) k p m n g h = omega arith
instructions_wait_at_most_3 decode (ROR d) k p m n g h = h
instructions_wait_at_most_3 decode (SBC d r) k p m n g h = h
instructions_wait_at_most_3 decode (SBCI d K) k p m n g h = h
instructions_wait_at_most_3 decode (SBI A b) k p m n g h = h
instructions_wait_at_most_3 decode (SBIC A b) k p m n g h = skip_waits k _ _ n (omega arith) h
instructions_wait_at_most_3 decode (SBIS A b) k p m n g h = skip_waits k _ _ n (omega arith) h
instructions_wait_at_most_3 decode (SBIW d K) k p m n g h = omega arith
instructions_wait_at_most_3 decode (SBRC r b) k p m n g h = skip_waits k _ _ n (omega arith) h
instructions_wait_at_most_3 decode (SBRS r b) k p m n g h = skip_waits k _ _ n (omega arith) h
instructions_wait_at_most_3 decode SLEEP k p m n g h = h
instructions_wait_at_most_3 decode (STX r) k p m n g h = store_waits_lem _ _ _ m n (omega (arith, store_le k.chip))
instructions_wait_at_most_3 decode (STXdec r) k p m n g h = store_waits_lem _ _ _ m n (omega (arith, store_le k.chip))
instructions_wait_at_most_3 decode (STXinc r) k p m n g h = store_waits_lem _ _ _ m n (omega (arith, store_le k.chip))
instructions_wait_at_most_3 decode (STYdec r) k p m n g h = store_waits_lem _ _ _ m n (omega (arith, store_le k.chip))
instructions_wait_at_most_3 decode (STYinc r) k p m n g h = store_waits_lem _ _ _ m n (omega (arith, store_le k.chip))
instructions_wait_at_most_3 decode (STZdec r) k p m n g h = store_waits_lem _ _ _ m n (omega (arith, store_le k.chip))
instructions_wait_at_most_3 decode (STZinc r) k p m n g h = store_waits_lem _ _ _ m n (omega (arith, store_le k.chip))
instructions_wait_at_most_3 decode (STDY q r) k p m n g h = store_waits_lem _ _ _ m n (omega (arith, store_le k.chip))
instructions_wait_at_most_3 decode (STDZ q r) k p m n g h = store_waits_lem _ _ _ m n (omega (arith, store_le k.chip))
instructions_wait_at_most_3 decode (STS at r) k p m n g h = store_waits_lem _ _ _ m n (omega arith)
instructions_wait_at_most_3 decode (SUB d r) k p m n g h = h
instructions_wait_at_most_3 decode (SUBI d K) k p m n g h = h
instructions_wait_at_most_3 decode (SWAP d) k p m n g h = h
instructions_wait_at_most_3 decode WDR k p m n g h = h
instructions_wait_at_most_3 decode UNDEF k p m n g h = h
