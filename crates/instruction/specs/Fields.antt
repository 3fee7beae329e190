-- What every word decodes to: the ranges of its fields, and how far the second word goes into it.
use Rattle.std.specs.Prelude.{ℕ, ◌+◌, ◌%◌, ◌<◌, ◌≡◌}
use Rattle.instruction.specs.Decode.{decode_of}
use Rattle.instruction.specs.declared.Instruction.{Instruction}
use Rattle.instruction.specs.declared.Instruction.TheVariants.{ADC, ADD, ADIW, AND, ANDI, ASR, BCLR, BLD, BRBC, BRBS, BREAK, BSET, BST, CALL, CBI, COM, CP, CPC, CPI, CPSE, DEC, EOR, FMUL, FMULS, FMULSU, ICALL, IJMP, IN, INC, JMP, LDX, LDXinc, LDXdec, LDYinc, LDYdec, LDZinc, LDZdec, LDDY, LDDZ, LDI, LDS, LPM, LPMZ, LPMZinc, LSL, LSR, MOV, MOVW, MUL, MULS, MULSU, NEG, NOP, OR, ORI, OUT, POP, PUSH, RCALL, RET, RETI, RJMP, ROR, SBC, SBCI, SBI, SBIC, SBIS, SBIW, SBRC, SBRS, SLEEP, STX, STXdec, STXinc, STYdec, STYinc, STZdec, STZinc, STDY, STDZ, STS, SUB, SUBI, SWAP, WDR, UNDEF}

abbrev pub Register : ℕ → Type 0
Register d = d < 32

-- the lower of two registers that make a word
abbrev pub Pair : ℕ → Type 0
Pair d = (d < 32) × (d % 2 ≡ 0)

abbrev pub Bit : ℕ → Type 0
Bit b = b < 8

abbrev pub Port : ℕ → Type 0
Port A = A < 64

-- what CBI, SBI, SBIC and SBIS can name
abbrev pub LowPort : ℕ → Type 0
LowPort A = A < 32

abbrev pub Displacement : ℕ → Type 0
Displacement q = q < 64

abbrev pub Byte : ℕ → Type 0
Byte K = K < 256

abbrev pub Word : ℕ → Type 0
Word k = k < 65536

-- the 22 bits of CALL and JMP
abbrev pub Target : ℕ → Type 0
Target k = k < 4194304

-- each field is in its range; LSL is never produced
abbrev pub InFields : Instruction → Type 0
InFields (ADC d r) = (Register d) × (Register r)
InFields (ADD d r) = (Register d) × (Register r)
InFields (ADIW d K) = (Pair d) × (K < 64)
InFields (AND d r) = (Register d) × (Register r)
InFields (ANDI d K) = (Register d) × (Byte K)
InFields (ASR d) = Register d
InFields (BCLR s) = Bit s
InFields (BLD d b) = (Register d) × (Bit b)
InFields (BRBC s k) = (Bit s) × (Byte k)
InFields (BRBS s k) = (Bit s) × (Byte k)
InFields BREAK = Unit {0}
InFields (BSET s) = Bit s
InFields (BST d b) = (Register d) × (Bit b)
InFields (CALL k) = Target k
InFields (CBI A b) = (LowPort A) × (Bit b)
InFields (COM d) = Register d
InFields (CP d r) = (Register d) × (Register r)
InFields (CPC d r) = (Register d) × (Register r)
InFields (CPI d K) = (Register d) × (Byte K)
InFields (CPSE d r) = (Register d) × (Register r)
InFields (DEC d) = Register d
InFields (EOR d r) = (Register d) × (Register r)
InFields (FMUL d r) = (Register d) × (Register r)
InFields (FMULS d r) = (Register d) × (Register r)
InFields (FMULSU d r) = (Register d) × (Register r)
InFields ICALL = Unit {0}
InFields IJMP = Unit {0}
InFields (IN d A) = (Register d) × (Port A)
InFields (INC d) = Register d
InFields (JMP k) = Target k
InFields (LDX d) = Register d
InFields (LDXinc d) = Register d
InFields (LDXdec d) = Register d
InFields (LDYinc d) = Register d
InFields (LDYdec d) = Register d
InFields (LDZinc d) = Register d
InFields (LDZdec d) = Register d
InFields (LDDY d q) = (Register d) × (Displacement q)
InFields (LDDZ d q) = (Register d) × (Displacement q)
InFields (LDI d K) = (Register d) × (Byte K)
InFields (LDS d k) = (Register d) × (Word k)
InFields LPM = Unit {0}
InFields (LPMZ d) = Register d
InFields (LPMZinc d) = Register d
InFields (LSL d) = ⊥
InFields (LSR d) = Register d
InFields (MOV d r) = (Register d) × (Register r)
InFields (MOVW d r) = (Pair d) × (Pair r)
InFields (MUL d r) = (Register d) × (Register r)
InFields (MULS d r) = (Register d) × (Register r)
InFields (MULSU d r) = (Register d) × (Register r)
InFields (NEG d) = Register d
InFields NOP = Unit {0}
InFields (OR d r) = (Register d) × (Register r)
InFields (ORI d K) = (Register d) × (Byte K)
InFields (OUT A r) = (Port A) × (Register r)
InFields (POP d) = Register d
InFields (PUSH d) = Register d
InFields (RCALL k) = Word k
InFields RET = Unit {0}
InFields RETI = Unit {0}
InFields (RJMP k) = Word k
InFields (ROR d) = Register d
InFields (SBC d r) = (Register d) × (Register r)
InFields (SBCI d K) = (Register d) × (Byte K)
InFields (SBI A b) = (LowPort A) × (Bit b)
InFields (SBIC A b) = (LowPort A) × (Bit b)
InFields (SBIS A b) = (LowPort A) × (Bit b)
InFields (SBIW d K) = (Pair d) × (K < 64)
InFields (SBRC r b) = (Register r) × (Bit b)
InFields (SBRS r b) = (Register r) × (Bit b)
InFields SLEEP = Unit {0}
InFields (STX r) = Register r
InFields (STXdec r) = Register r
InFields (STXinc r) = Register r
InFields (STYdec r) = Register r
InFields (STYinc r) = Register r
InFields (STZdec r) = Register r
InFields (STZinc r) = Register r
InFields (STDY q r) = (Displacement q) × (Register r)
InFields (STDZ q r) = (Displacement q) × (Register r)
InFields (STS k r) = (Word k) × (Register r)
InFields (SUB d r) = (Register d) × (Register r)
InFields (SUBI d K) = (Register d) × (Byte K)
InFields (SWAP d) = Register d
InFields WDR = Unit {0}
InFields UNDEF = Unit {0}

-- an instruction decoded with 0 for its second word, with s put in
abbrev pub with_second : ℕ → Instruction → Instruction
with_second s₂ (ADC d r) = ADC d r
with_second s₂ (ADD d r) = ADD d r
with_second s₂ (ADIW d K) = ADIW d K
with_second s₂ (AND d r) = AND d r
with_second s₂ (ANDI d K) = ANDI d K
with_second s₂ (ASR d) = ASR d
with_second s₂ (BCLR s) = BCLR s
with_second s₂ (BLD d b) = BLD d b
with_second s₂ (BRBC s k) = BRBC s k
with_second s₂ (BRBS s k) = BRBS s k
with_second s₂ BREAK = BREAK
with_second s₂ (BSET s) = BSET s
with_second s₂ (BST d b) = BST d b
with_second s₂ (CALL k) = CALL (k + s₂)
with_second s₂ (CBI A b) = CBI A b
with_second s₂ (COM d) = COM d
with_second s₂ (CP d r) = CP d r
with_second s₂ (CPC d r) = CPC d r
with_second s₂ (CPI d K) = CPI d K
with_second s₂ (CPSE d r) = CPSE d r
with_second s₂ (DEC d) = DEC d
with_second s₂ (EOR d r) = EOR d r
with_second s₂ (FMUL d r) = FMUL d r
with_second s₂ (FMULS d r) = FMULS d r
with_second s₂ (FMULSU d r) = FMULSU d r
with_second s₂ ICALL = ICALL
with_second s₂ IJMP = IJMP
with_second s₂ (IN d A) = IN d A
with_second s₂ (INC d) = INC d
with_second s₂ (JMP k) = JMP (k + s₂)
with_second s₂ (LDX d) = LDX d
with_second s₂ (LDXinc d) = LDXinc d
with_second s₂ (LDXdec d) = LDXdec d
with_second s₂ (LDYinc d) = LDYinc d
with_second s₂ (LDYdec d) = LDYdec d
with_second s₂ (LDZinc d) = LDZinc d
with_second s₂ (LDZdec d) = LDZdec d
with_second s₂ (LDDY d q) = LDDY d q
with_second s₂ (LDDZ d q) = LDDZ d q
with_second s₂ (LDI d K) = LDI d K
with_second s₂ (LDS d k) = LDS d s₂
with_second s₂ LPM = LPM
with_second s₂ (LPMZ d) = LPMZ d
with_second s₂ (LPMZinc d) = LPMZinc d
with_second s₂ (LSL d) = LSL d
with_second s₂ (LSR d) = LSR d
with_second s₂ (MOV d r) = MOV d r
with_second s₂ (MOVW d r) = MOVW d r
with_second s₂ (MUL d r) = MUL d r
with_second s₂ (MULS d r) = MULS d r
with_second s₂ (MULSU d r) = MULSU d r
with_second s₂ (NEG d) = NEG d
with_second s₂ NOP = NOP
with_second s₂ (OR d r) = OR d r
with_second s₂ (ORI d K) = ORI d K
with_second s₂ (OUT A r) = OUT A r
with_second s₂ (POP d) = POP d
with_second s₂ (PUSH d) = PUSH d
with_second s₂ (RCALL k) = RCALL k
with_second s₂ RET = RET
with_second s₂ RETI = RETI
with_second s₂ (RJMP k) = RJMP k
with_second s₂ (ROR d) = ROR d
with_second s₂ (SBC d r) = SBC d r
with_second s₂ (SBCI d K) = SBCI d K
with_second s₂ (SBI A b) = SBI A b
with_second s₂ (SBIC A b) = SBIC A b
with_second s₂ (SBIS A b) = SBIS A b
with_second s₂ (SBIW d K) = SBIW d K
with_second s₂ (SBRC r b) = SBRC r b
with_second s₂ (SBRS r b) = SBRS r b
with_second s₂ SLEEP = SLEEP
with_second s₂ (STX r) = STX r
with_second s₂ (STXdec r) = STXdec r
with_second s₂ (STXinc r) = STXinc r
with_second s₂ (STYdec r) = STYdec r
with_second s₂ (STYinc r) = STYinc r
with_second s₂ (STZdec r) = STZdec r
with_second s₂ (STZinc r) = STZinc r
with_second s₂ (STDY q r) = STDY q r
with_second s₂ (STDZ q r) = STDZ q r
with_second s₂ (STS k r) = STS s₂ r
with_second s₂ (SUB d r) = SUB d r
with_second s₂ (SUBI d K) = SUBI d K
with_second s₂ (SWAP d) = SWAP d
with_second s₂ WDR = WDR
with_second s₂ UNDEF = UNDEF

-- ---- the laws, proved in proofs/Laws.antt
-- whatever the words, each field is in its range
abbrev pub FieldsInRange : Type 0
FieldsInRange = (w s : ℕ) → s < 65536 → InFields (decode_of w s)

-- the second word goes into CALL, JMP, LDS and STS, and into nothing else
abbrev pub SecondWordAlone : Type 0
SecondWordAlone = (w s : ℕ) → decode_of w s ≡ with_second s (decode_of w 0)
