-- The two flags and the rule after every instruction: RETI and, under chip, SEI touch inhibit, RETI alone in-service, and none the rule. And the waits of pointer access.
-- Assumes nothing.
use mathlib.Core.Path.{◌≡◌, refl, ap, subst}
use mathlib.Core.Bool.{Bool, true, false, ◌&&◌, ◌||◌, beq}
use mathlib.Core.List.{List, [], ◌∷◌}
use Prim.Native.Nat.{ℕ, ◌+◌}
use Rattle.basis.specs.Pick.{pick}
use Rattle.basis.specs.Bit.{one, up}
use Rattle.basis.proofs.Choice.{either}
use Rattle.alu.specs.Alu.{signed_of}
use Rattle.instruction.specs.Code.{one_of, is_pointer_load, is_pointer_store, is_sei}
use Rattle.instruction.specs.declared.Instruction.{Instruction}
use Rattle.instruction.specs.declared.Instruction.TheVariants.{ADC, ADD, ADIW, AND, ANDI, ASR, BCLR, BLD, BRBC, BRBS, BREAK, BSET, BST, CALL, CBI, COM, CP, CPC, CPI, CPSE, DEC, EOR, FMUL, FMULS, FMULSU, ICALL, IJMP, IN, INC, JMP, LDX, LDXinc, LDXdec, LDYinc, LDYdec, LDZinc, LDZdec, LDDY, LDDZ, LDI, LDS, LPM, LPMZ, LPMZinc, LSL, LSR, MOV, MOVW, MUL, MULS, MULSU, NEG, NOP, OR, ORI, OUT, POP, PUSH, RCALL, RET, RETI, RJMP, ROR, SBC, SBCI, SBI, SBIC, SBIS, SBIW, SBRC, SBRS, SLEEP, STX, STXdec, STXinc, STYdec, STYinc, STZdec, STZinc, STDY, STDZ, STS, SUB, SUBI, SWAP, WDR, UNDEF}
use Rattle.rule.specs.Rule.{load_waits, store_waits}
use Rattle.cores.specs.declared.Core.{Core}
use Rattle.cores.specs.State.{flag, with_reg, with_pc, with_sp, with_busy, with_inhibit, with_service}
use Rattle.cores.specs.Flow.{brbx_of, skipped}
use Rattle.cores.specs.Transfer.{set_data_of, word_if}
use Rattle.cores.proofs.Space.{store_keeps}
use Rattle.execute.specs.Execute.{executed}
use Rattle.invariants.specs.Instructions.{OnlyRetiAndSeiTouchTheFlags}
use Rattle.invariants.specs.Rule.{InstructionsKeepTheRule, PointersWaitByTheRule}

-- inhibit, in-service and the rule
abbrev controls : Core → Bool × Bool × Bool
controls k = (k.inhibit, k.in_service, k.chip)

-- ---- a branch, a skip and a store leave them, and a store the waits
branch_controls : (k : Core) (s o : ℕ) (on : Bool) → controls (brbx_of k s o on) ≡ controls k
unfolding brbx_of with_busy with_pc
branch_controls k s o on = either (λ j. controls j ≡ controls k) (beq (flag k s) on) (with_busy (with_pc k (up k.pc (signed_of o))) 1) k refl refl

skip_controls : (k : Core) (taken two : Bool) → controls (skipped k taken two) ≡ controls k
unfolding skipped with_busy with_pc
skip_controls k taken two = either (λ j. controls j ≡ controls k) taken (with_busy (with_pc k (up k.pc (1 + one two))) (1 + one two)) k refl refl

store_controls : (k : Core) (at v : ℕ) (m : List ℕ) → controls (set_data_of k at v m).core ≡ controls k
unfolding with_sp
store_controls = store_keeps controls (λ k v. refl) (λ k v. refl)

store_busy : (k : Core) (at v : ℕ) (m : List ℕ) → (set_data_of k at v m).core.busy ≡ k.busy
unfolding with_sp
store_busy = store_keeps (λ k. k.busy) (λ k v. refl) (λ k v. refl)

-- ---- the table
-- what they become
abbrev controls_by : Instruction → Core → Bool × Bool × Bool
controls_by op k = (one_of (RETI ∷ []) op || (is_sei op && k.chip) || k.inhibit, pick (one_of (RETI ∷ []) op) false k.in_service, k.chip)

-- core j waits n ticks, where it is asked
abbrev Waits : Bool → Core → ℕ → Type 0
Waits true j n = j.busy ≡ n
Waits false j n = Unit {0}

-- core j after an instruction of core k
abbrev After : Instruction → Core → Core → Type 0
After op k j = (controls j ≡ controls_by op k) × Waits (is_pointer_load op) j (load_waits k.chip) × Waits (is_pointer_store op) j (store_waits k.chip)

after : (decode : ℕ → ℕ → Instruction) (op : Instruction) (k : Core) (p m : List ℕ) → After op k (executed decode k op p m).core
unfolding with_reg with_pc with_sp with_busy with_inhibit with_service word_if
after decode (ADC d r) k p m = (refl, tt, tt)
after decode (ADD d r) k p m = (refl, tt, tt)
after decode (ADIW d K) k p m = (refl, tt, tt)
after decode (AND d r) k p m = (refl, tt, tt)
after decode (ANDI d K) k p m = (refl, tt, tt)
after decode (ASR d) k p m = (refl, tt, tt)
after decode (BCLR s) k p m = (refl, tt, tt)
after decode (BLD d b) k p m = (refl, tt, tt)
after decode (BRBC s t) k p m = (branch_controls k _ _ _, tt, tt)
after decode (BRBS s t) k p m = (branch_controls k _ _ _, tt, tt)
after decode BREAK k p m = (refl, tt, tt)
after decode (BSET s) k p m = (refl, tt, tt)
after decode (BST d b) k p m = (refl, tt, tt)
after decode (CALL t) k p m = (refl, tt, tt)
after decode (CBI A b) k p m = (refl, tt, tt)
after decode (COM d) k p m = (refl, tt, tt)
after decode (CP d r) k p m = (refl, tt, tt)
after decode (CPC d r) k p m = (refl, tt, tt)
after decode (CPI d K) k p m = (refl, tt, tt)
after decode (CPSE d r) k p m = (skip_controls k _ _, tt, tt)
after decode (DEC d) k p m = (refl, tt, tt)
after decode (EOR d r) k p m = (refl, tt, tt)
after decode (FMUL d r) k p m = (refl, tt, tt)
after decode (FMULS d r) k p m = (refl, tt, tt)
after decode (FMULSU d r) k p m = (refl, tt, tt)
after decode ICALL k p m = (refl, tt, tt)
after decode IJMP k p m = (refl, tt, tt)
after decode (IN d A) k p m = (refl, tt, tt)
after decode (INC d) k p m = (refl, tt, tt)
after decode (JMP t) k p m = (refl, tt, tt)
after decode (LDX d) k p m = (refl, refl, tt)
after decode (LDXinc d) k p m = (refl, refl, tt)
after decode (LDXdec d) k p m = (refl, refl, tt)
after decode (LDYinc d) k p m = (refl, refl, tt)
after decode (LDYdec d) k p m = (refl, refl, tt)
after decode (LDZinc d) k p m = (refl, refl, tt)
after decode (LDZdec d) k p m = (refl, refl, tt)
after decode (LDDY d q) k p m = (refl, refl, tt)
after decode (LDDZ d q) k p m = (refl, refl, tt)
after decode (LDI d K) k p m = (refl, tt, tt)
after decode (LDS d at) k p m = (refl, tt, tt)
after decode LPM k p m = (refl, tt, tt)
after decode (LPMZ d) k p m = (refl, tt, tt)
after decode (LPMZinc d) k p m = (refl, tt, tt)
after decode (LSL d) k p m = (refl, tt, tt)
after decode (LSR d) k p m = (refl, tt, tt)
after decode (MOV d r) k p m = (refl, tt, tt)
after decode (MOVW d r) k p m = (refl, tt, tt)
after decode (MUL d r) k p m = (refl, tt, tt)
after decode (MULS d r) k p m = (refl, tt, tt)
after decode (MULSU d r) k p m = (refl, tt, tt)
after decode (NEG d) k p m = (refl, tt, tt)
after decode NOP k p m = (refl, tt, tt)
after decode (OR d r) k p m = (refl, tt, tt)
after decode (ORI d K) k p m = (refl, tt, tt)
after decode (OUT A r) k p m = (store_controls _ _ _ m, tt, tt)
after decode (POP d) k p m = (refl, tt, tt)
after decode (PUSH d) k p m = (store_controls _ _ _ m, tt, tt)
after decode (RCALL t) k p m = (refl, tt, tt)
after decode RET k p m = (refl, tt, tt)
after decode RETI k p m = (refl, tt, tt)
after decode (RJMP t) k p m = (refl, tt, tt)
after decode (ROR d) k p m = (refl, tt, tt)
after decode (SBC d r) k p m = (refl, tt, tt)
after decode (SBCI d K) k p m = (refl, tt, tt)
after decode (SBI A b) k p m = (refl, tt, tt)
after decode (SBIC A b) k p m = (skip_controls k _ _, tt, tt)
after decode (SBIS A b) k p m = (skip_controls k _ _, tt, tt)
after decode (SBIW d K) k p m = (refl, tt, tt)
after decode (SBRC r b) k p m = (skip_controls k _ _, tt, tt)
after decode (SBRS r b) k p m = (skip_controls k _ _, tt, tt)
after decode SLEEP k p m = (refl, tt, tt)
after decode (STX r) k p m = (store_controls _ _ _ m, tt, store_busy _ _ _ m)
after decode (STXdec r) k p m = (store_controls _ _ _ m, tt, store_busy _ _ _ m)
after decode (STXinc r) k p m = (store_controls _ _ _ m, tt, store_busy _ _ _ m)
after decode (STYdec r) k p m = (store_controls _ _ _ m, tt, store_busy _ _ _ m)
after decode (STYinc r) k p m = (store_controls _ _ _ m, tt, store_busy _ _ _ m)
after decode (STZdec r) k p m = (store_controls _ _ _ m, tt, store_busy _ _ _ m)
after decode (STZinc r) k p m = (store_controls _ _ _ m, tt, store_busy _ _ _ m)
after decode (STDY q r) k p m = (store_controls _ _ _ m, tt, store_busy _ _ _ m)
after decode (STDZ q r) k p m = (store_controls _ _ _ m, tt, store_busy _ _ _ m)
after decode (STS at r) k p m = (store_controls _ _ _ m, tt, tt)
after decode (SUB d r) k p m = (refl, tt, tt)
after decode (SUBI d K) k p m = (refl, tt, tt)
after decode (SWAP d) k p m = (refl, tt, tt)
after decode WDR k p m = (refl, tt, tt)
after decode UNDEF k p m = (refl, tt, tt)

pub only_reti_and_sei_touch_the_flags : OnlyRetiAndSeiTouchTheFlags
only_reti_and_sei_touch_the_flags decode op k p m =
    let e = (after decode op k p m).0 in (ap (λ (x : Bool × Bool × Bool). x.0) e, ap (λ (x : Bool × Bool × Bool). x.1) e)

pub instructions_keep_the_rule : InstructionsKeepTheRule
instructions_keep_the_rule decode op k p m = ap (λ (x : Bool × Bool × Bool). x.2) (after decode op k p m).0

pub pointers_wait_by_the_rule : PointersWaitByTheRule
pointers_wait_by_the_rule decode op k p m =
    let j = (executed decode k op p m).core in
    let (_, load, store) = after decode op k p m in
    (λ e. subst (λ asked. Waits asked j (load_waits k.chip)) e load, λ e. subst (λ asked. Waits asked j (store_waits k.chip)) e store)
