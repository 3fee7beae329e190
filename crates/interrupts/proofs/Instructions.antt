-- What demand 3 asks of each instruction: those of the register-only list touch registers, SREG and busy alone, and inhibit where it is SEI under chip, and need nothing;
-- the others are RETI and those that are not.
-- Assumes nothing.
use mathlib.Core.Path.{◌≡◌, refl}
use mathlib.Core.Bool.{Bool, true, false}
use mathlib.Core.List.{List, [], ◌∷◌}
use Prim.Native.Nat.{ℕ}
use lib.Dec.{leb}
use Rattle.instruction.specs.Decode.{decode_of}
use Rattle.instruction.specs.Code.{one_of, two_words}
use Rattle.instruction.specs.declared.Instruction.{Instruction}
use Rattle.instruction.specs.declared.Instruction.TheVariants.{ADC, ADD, ADIW, AND, ANDI, ASR, BCLR, BLD, BRBC, BRBS, BREAK, BSET, BST, CALL, CBI, COM, CP, CPC, CPI, CPSE, DEC, EOR, FMUL, FMULS, FMULSU, ICALL, IJMP, IN, INC, JMP, LDX, LDXinc, LDXdec, LDYinc, LDYdec, LDZinc, LDZdec, LDDY, LDDZ, LDI, LDS, LPM, LPMZ, LPMZinc, LSL, LSR, MOV, MOVW, MUL, MULS, MULSU, NEG, NOP, OR, ORI, OUT, POP, PUSH, RCALL, RET, RETI, RJMP, ROR, SBC, SBCI, SBI, SBIC, SBIS, SBIW, SBRC, SBRS, SLEEP, STX, STXdec, STXinc, STYdec, STYinc, STZdec, STZinc, STDY, STDZ, STS, SUB, SUBI, SWAP, WDR, UNDEF}
use Rattle.cores.specs.declared.Core.{Core}
use Rattle.cores.specs.State.{fresh_of, with_regs, with_reg, with_sreg, with_pc, with_sp, with_busy, with_inhibit, with_service, with_chip}
use Rattle.execute.specs.Needs.{needs, nothing}
use Rattle.execute.specs.Execute.{executed, ran}
use Rattle.invariants.specs.Instructions.{inhibited_by}
use Rattle.interrupts.specs.RegisterOnly.{Kind, register_only, return, other, kind_of}
use Rattle.interrupts.specs.Interrupts.{Kept}

-- ---- what is kept of a core, and a core with other registers and SREG
abbrev pub kept_of : Core → Kept
kept_of k = record { regs = k.regs; sreg = k.sreg }

abbrev pub with_kept : Core → Kept → Core
with_kept k r = with_sreg (with_regs k r.regs) r.sreg

-- what an instruction makes of registers and SREG under a rule, and the waits after it, where nothing else goes into them: on a fresh core of that rule
abbrev pub fresh_under : Bool → Core
fresh_under chip = with_chip (fresh_of 0) chip

abbrev pub does_of : Bool → Instruction → Kept → Kept
does_of chip op r = kept_of (executed decode_of (with_kept (fresh_under chip) r) op [] []).core

abbrev pub waits_of : Bool → Instruction → ℕ
waits_of chip op = (executed decode_of (fresh_under chip) op [] []).core.busy

-- ---- the table
abbrev pub Fact : Kind → Instruction → Core → List ℕ → List ℕ → Type 0
Fact register_only op k p m =
    (executed decode_of (with_busy k 0) op p m ≡ ran (with_busy (with_kept (inhibited_by op k) (does_of k.chip op (kept_of k))) (waits_of k.chip op)) m)
    × (needs decode_of k op p m ≡ nothing)
    × (two_words op ≡ false)
    × (leb (waits_of k.chip op) 1 ≡ true)
Fact return op k p m = op ≡ RETI
Fact other op k p m = one_of (RETI ∷ []) op ≡ false

pub fact : (op : Instruction) (k : Core) (p m : List ℕ) → Fact (kind_of op) op k p m
unfolding fresh_of with_regs with_reg with_pc with_sp with_busy with_inhibit with_service with_chip
fact (ADC d r) k p m = (refl, refl, refl, refl)
fact (ADD d r) k p m = (refl, refl, refl, refl)
fact (ADIW d K) k p m = (refl, refl, refl, refl)
fact (AND d r) k p m = (refl, refl, refl, refl)
fact (ANDI d K) k p m = (refl, refl, refl, refl)
fact (ASR d) k p m = (refl, refl, refl, refl)
fact (BCLR s) k p m = (refl, refl, refl, refl)
fact (BLD d b) k p m = (refl, refl, refl, refl)
fact (BRBC s t) k p m = refl
fact (BRBS s t) k p m = refl
fact BREAK k p m = refl
fact (BSET s) k p m = (refl, refl, refl, refl)
fact (BST d b) k p m = (refl, refl, refl, refl)
fact (CALL t) k p m = refl
fact (CBI A b) k p m = refl
fact (COM d) k p m = (refl, refl, refl, refl)
fact (CP d r) k p m = (refl, refl, refl, refl)
fact (CPC d r) k p m = (refl, refl, refl, refl)
fact (CPI d K) k p m = (refl, refl, refl, refl)
fact (CPSE d r) k p m = refl
fact (DEC d) k p m = (refl, refl, refl, refl)
fact (EOR d r) k p m = (refl, refl, refl, refl)
fact (FMUL d r) k p m = (refl, refl, refl, refl)
fact (FMULS d r) k p m = (refl, refl, refl, refl)
fact (FMULSU d r) k p m = (refl, refl, refl, refl)
fact ICALL k p m = refl
fact IJMP k p m = refl
fact (IN d A) k p m = refl
fact (INC d) k p m = (refl, refl, refl, refl)
fact (JMP t) k p m = refl
fact (LDX d) k p m = refl
fact (LDXinc d) k p m = refl
fact (LDXdec d) k p m = refl
fact (LDYinc d) k p m = refl
fact (LDYdec d) k p m = refl
fact (LDZinc d) k p m = refl
fact (LDZdec d) k p m = refl
fact (LDDY d q) k p m = refl
fact (LDDZ d q) k p m = refl
fact (LDI d K) k p m = (refl, refl, refl, refl)
fact (LDS d at) k p m = refl
fact LPM k p m = refl
fact (LPMZ d) k p m = refl
fact (LPMZinc d) k p m = refl
fact (LSL d) k p m = refl
fact (LSR d) k p m = (refl, refl, refl, refl)
fact (MOV d r) k p m = (refl, refl, refl, refl)
fact (MOVW d r) k p m = (refl, refl, refl, refl)
fact (MUL d r) k p m = (refl, refl, refl, refl)
fact (MULS d r) k p m = (refl, refl, refl, refl)
fact (MULSU d r) k p m = (refl, refl, refl, refl)
fact (NEG d) k p m = (refl, refl, refl, refl)
fact NOP k p m = (refl, refl, refl, refl)
fact (OR d r) k p m = (refl, refl, refl, refl)
fact (ORI d K) k p m = (refl, refl, refl, refl)
fact (OUT A r) k p m = refl
fact (POP d) k p m = refl
fact (PUSH d) k p m = refl
fact (RCALL t) k p m = refl
fact RET k p m = refl
fact RETI k p m = refl
fact (RJMP t) k p m = refl
fact (ROR d) k p m = (refl, refl, refl, refl)
fact (SBC d r) k p m = (refl, refl, refl, refl)
fact (SBCI d K) k p m = (refl, refl, refl, refl)
fact (SBI A b) k p m = refl
fact (SBIC A b) k p m = refl
fact (SBIS A b) k p m = refl
fact (SBIW d K) k p m = (refl, refl, refl, refl)
fact (SBRC r b) k p m = refl
fact (SBRS r b) k p m = refl
fact SLEEP k p m = refl
fact (STX r) k p m = refl
fact (STXdec r) k p m = refl
fact (STXinc r) k p m = refl
fact (STYdec r) k p m = refl
fact (STYinc r) k p m = refl
fact (STZdec r) k p m = refl
fact (STZinc r) k p m = refl
fact (STDY q r) k p m = refl
fact (STDZ q r) k p m = refl
fact (STS at r) k p m = refl
fact (SUB d r) k p m = (refl, refl, refl, refl)
fact (SUBI d K) k p m = (refl, refl, refl, refl)
fact (SWAP d) k p m = (refl, refl, refl, refl)
fact WDR k p m = refl
fact UNDEF k p m = refl
