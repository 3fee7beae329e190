-- What every instruction keeps: ranges, the registers that it does not name, and, of 01's register-only list, all else, but for SEI's inhibit; and which touch the two flags.
use Rattle.std.specs.Prelude.{◌≡◌, Bool, true, false, ◌&&◌, ◌||◌, List, [], ◌∷◌, ℕ, ◌+◌, ◌≤◌, ◌<◌, length}
use Rattle.basis.specs.Pick.{pick}
use Rattle.basis.specs.Bytes.{Bytes}
use Rattle.instruction.specs.declared.Instruction.{Instruction}
use Rattle.instruction.specs.declared.Instruction.TheVariants.{ADC, ADD, ADIW, AND, ANDI, ASR, BCLR, BLD, BRBC, BRBS, BREAK, BSET, BST, CALL, CBI, COM, CP, CPC, CPI, CPSE, DEC, EOR, FMUL, FMULS, FMULSU, ICALL, IJMP, IN, INC, JMP, LDX, LDXinc, LDXdec, LDYinc, LDYdec, LDZinc, LDZdec, LDDY, LDDZ, LDI, LDS, LPM, LPMZ, LPMZinc, LSL, LSR, MOV, MOVW, MUL, MULS, MULSU, NEG, NOP, OR, ORI, OUT, POP, PUSH, RCALL, RET, RETI, RJMP, ROR, SBC, SBCI, SBI, SBIC, SBIS, SBIW, SBRC, SBRS, SLEEP, STX, STXdec, STXinc, STYdec, STYinc, STZdec, STZinc, STDY, STDZ, STS, SUB, SUBI, SWAP, WDR, UNDEF}
use Rattle.instruction.specs.Code.{one_of, is_register_only, is_sei}
use Rattle.cores.specs.declared.Core.{Core}
use Rattle.cores.specs.State.{reg, with_inhibit, Sound}
use Rattle.execute.specs.declared.Done.{Done}
use Rattle.execute.specs.Execute.{Executed, executed, ran}

-- ---- the registers that an instruction writes: a word goes to register d and the next, a product to R1:R0, a stepped pointer to X, Y or Z
abbrev pub writes : Instruction → List ℕ
writes (ADC d r) = d ∷ []
writes (ADD d r) = d ∷ []
writes (ADIW d K) = d ∷ (d + 1) ∷ []
writes (AND d r) = d ∷ []
writes (ANDI d K) = d ∷ []
writes (ASR d) = d ∷ []
writes (BCLR s) = []
writes (BLD d b) = d ∷ []
writes (BRBC s t) = []
writes (BRBS s t) = []
writes BREAK = []
writes (BSET s) = []
writes (BST d b) = []
writes (CALL t) = []
writes (CBI A b) = []
writes (COM d) = d ∷ []
writes (CP d r) = []
writes (CPC d r) = []
writes (CPI d K) = []
writes (CPSE d r) = []
writes (DEC d) = d ∷ []
writes (EOR d r) = d ∷ []
writes (FMUL d r) = 0 ∷ 1 ∷ []
writes (FMULS d r) = 0 ∷ 1 ∷ []
writes (FMULSU d r) = 0 ∷ 1 ∷ []
writes ICALL = []
writes IJMP = []
writes (IN d A) = d ∷ []
writes (INC d) = d ∷ []
writes (JMP t) = []
writes (LDX d) = d ∷ []
writes (LDXinc d) = d ∷ 26 ∷ 27 ∷ []
writes (LDXdec d) = d ∷ 26 ∷ 27 ∷ []
writes (LDYinc d) = d ∷ 28 ∷ 29 ∷ []
writes (LDYdec d) = d ∷ 28 ∷ 29 ∷ []
writes (LDZinc d) = d ∷ 30 ∷ 31 ∷ []
writes (LDZdec d) = d ∷ 30 ∷ 31 ∷ []
writes (LDDY d q) = d ∷ []
writes (LDDZ d q) = d ∷ []
writes (LDI d K) = d ∷ []
writes (LDS d at) = d ∷ []
writes LPM = 0 ∷ []
writes (LPMZ d) = d ∷ []
writes (LPMZinc d) = d ∷ 30 ∷ 31 ∷ []
writes (LSL d) = d ∷ []
writes (LSR d) = d ∷ []
writes (MOV d r) = d ∷ []
writes (MOVW d r) = d ∷ (d + 1) ∷ []
writes (MUL d r) = 0 ∷ 1 ∷ []
writes (MULS d r) = 0 ∷ 1 ∷ []
writes (MULSU d r) = 0 ∷ 1 ∷ []
writes (NEG d) = d ∷ []
writes NOP = []
writes (OR d r) = d ∷ []
writes (ORI d K) = d ∷ []
writes (OUT A r) = []
writes (POP d) = d ∷ []
writes (PUSH d) = []
writes (RCALL t) = []
writes RET = []
writes RETI = []
writes (RJMP t) = []
writes (ROR d) = d ∷ []
writes (SBC d r) = d ∷ []
writes (SBCI d K) = d ∷ []
writes (SBI A b) = []
writes (SBIC A b) = []
writes (SBIS A b) = []
writes (SBIW d K) = d ∷ (d + 1) ∷ []
writes (SBRC r b) = []
writes (SBRS r b) = []
writes SLEEP = []
writes (STX r) = []
writes (STXdec r) = 26 ∷ 27 ∷ []
writes (STXinc r) = 26 ∷ 27 ∷ []
writes (STYdec r) = 28 ∷ 29 ∷ []
writes (STYinc r) = 28 ∷ 29 ∷ []
writes (STZdec r) = 30 ∷ 31 ∷ []
writes (STZinc r) = 30 ∷ 31 ∷ []
writes (STDY q r) = []
writes (STDZ q r) = []
writes (STS at r) = []
writes (SUB d r) = d ∷ []
writes (SUBI d K) = d ∷ []
writes (SWAP d) = d ∷ []
writes WDR = []
writes UNDEF = []

-- i is none of them
abbrev pub Unnamed : ℕ → List ℕ → Type 0
Unnamed i [] = Unit {0}
Unnamed i (d ∷ l) = (i ≡ d → ⊥) × Unnamed i l

-- ---- K of LDI and of ORI goes into a register as it is, so it has to be what its type says, a byte; no other field matters
pub record ByteOperand (op : Instruction) : Type 0 where
  pub ldi_lt : (d K : ℕ) → op ≡ LDI d K → K < 256
  pub ori_lt : (d K : ℕ) → op ≡ ORI d K → K < 256

-- ---- what is left, in range: a core, and data of the length that it had
pub record InRange (k : Core) (m before : List ℕ) : Type 0 where
  pub core : Sound k
  pub bytes : Bytes m
  pub same_length : length m ≡ length before

-- all that an instruction leaves but registers, SREG and busy: the answer, PC, SP, inhibit, in-service, the rule, data
abbrev pub rest_of : Executed → Done × ℕ × ℕ × Bool × Bool × Bool × List ℕ
rest_of e = (e.done, e.core.pc, e.core.sp, e.core.inhibit, e.core.in_service, e.core.chip, e.bytes)

-- core k, with inhibit set where op is SEI and the rule chip. 02, W4: "Under the chip rule BSET 7 sets inhibit as RETI does"
abbrev pub inhibited_by : Instruction → Core → Core
inhibited_by op k = with_inhibit k ((is_sei op && k.chip) || k.inhibit)

-- ---- the laws, of every instruction op on core k with program p and data m, whatever decodes the word to be skipped
-- from a core and bytes by their types to a core and bytes by their types: 32 registers and SREG below 256, PC and SP below 65,536
abbrev pub InstructionsStayInRange : Type 0
InstructionsStayInRange =
    (decode : ℕ → ℕ → Instruction) (op : Instruction) (k : Core) (p m : List ℕ) → ByteOperand op → Sound k → Bytes p → Bytes m
    → InRange (executed decode k op p m).core (executed decode k op p m).bytes m

-- it leaves busy or sets it, to 3 at most
abbrev pub InstructionsWaitAtMost3 : Type 0
InstructionsWaitAtMost3 =
    (decode : ℕ → ℕ → Instruction) (op : Instruction) (k : Core) (p m : List ℕ) (n : ℕ) → 3 ≤ n → k.busy ≤ n → (executed decode k op p m).core.busy ≤ n

-- a register that it does not name is as it was
abbrev pub OtherRegistersKept : Type 0
OtherRegistersKept =
    (decode : ℕ → ℕ → Instruction) (op : Instruction) (k : Core) (p m : List ℕ) (i : ℕ) → Unnamed i (writes op)
    → reg (executed decode k op p m).core i ≡ reg k i

-- one of the register-only list runs and changes nothing but registers, SREG and busy; SEI under chip sets inhibit too
abbrev pub RegisterOnlyKeepsTheRest : Type 0
RegisterOnlyKeepsTheRest =
    (decode : ℕ → ℕ → Instruction) (op : Instruction) (k : Core) (p m : List ℕ) → is_register_only op ≡ true
    → rest_of (executed decode k op p m) ≡ rest_of (ran (inhibited_by op k) m)

-- the two flags, of the core j that is left: "RETI also clears in-service and sets inhibit", and under chip SEI sets inhibit. No other instruction touches either, also where it
-- writes I into SREG
abbrev pub OnlyRetiAndSeiTouchTheFlags : Type 0
OnlyRetiAndSeiTouchTheFlags =
    (decode : ℕ → ℕ → Instruction) (op : Instruction) (k : Core) (p m : List ℕ)
    → let j = (executed decode k op p m).core in
    (j.inhibit ≡ (one_of (RETI ∷ []) op || (is_sei op && k.chip) || k.inhibit)) × (j.in_service ≡ pick (one_of (RETI ∷ []) op) false k.in_service)
