-- Which instruction it is, whatever its fields; 01's lists: those of two words, and those that touch registers alone; and, beside ADIW, those that 02's rule changes.
use Rattle.std.specs.Prelude.{Bool, false, ◌&&◌, ◌||◌, List, [], ◌∷◌, ℕ, eqb}
use Rattle.instruction.specs.declared.Instruction.{Instruction}
use Rattle.instruction.specs.declared.Instruction.TheVariants.{ADC, ADD, ADIW, AND, ANDI, ASR, BCLR, BLD, BRBC, BRBS, BREAK, BSET, BST, CALL, CBI, COM, CP, CPC, CPI, CPSE, DEC, EOR, FMUL, FMULS, FMULSU, ICALL, IJMP, IN, INC, JMP, LDX, LDXinc, LDXdec, LDYinc, LDYdec, LDZinc, LDZdec, LDDY, LDDZ, LDI, LDS, LPM, LPMZ, LPMZinc, LSL, LSR, MOV, MOVW, MUL, MULS, MULSU, NEG, NOP, OR, ORI, OUT, POP, PUSH, RCALL, RET, RETI, RJMP, ROR, SBC, SBCI, SBI, SBIC, SBIS, SBIW, SBRC, SBRS, SLEEP, STX, STXdec, STXinc, STYdec, STYinc, STZdec, STZinc, STDY, STDZ, STS, SUB, SUBI, SWAP, WDR, UNDEF}

-- an instruction as three numbers: its place in the enum, and its fields
abbrev pub code : Instruction → ℕ × ℕ × ℕ
code (ADC a b) = (0, a, b)
code (ADD a b) = (1, a, b)
code (ADIW a b) = (2, a, b)
code (AND a b) = (3, a, b)
code (ANDI a b) = (4, a, b)
code (ASR a) = (5, a, 0)
code (BCLR a) = (6, a, 0)
code (BLD a b) = (7, a, b)
code (BRBC a b) = (8, a, b)
code (BRBS a b) = (9, a, b)
code BREAK = (10, 0, 0)
code (BSET a) = (11, a, 0)
code (BST a b) = (12, a, b)
code (CALL a) = (13, a, 0)
code (CBI a b) = (14, a, b)
code (COM a) = (15, a, 0)
code (CP a b) = (16, a, b)
code (CPC a b) = (17, a, b)
code (CPI a b) = (18, a, b)
code (CPSE a b) = (19, a, b)
code (DEC a) = (20, a, 0)
code (EOR a b) = (21, a, b)
code (FMUL a b) = (22, a, b)
code (FMULS a b) = (23, a, b)
code (FMULSU a b) = (24, a, b)
code ICALL = (25, 0, 0)
code IJMP = (26, 0, 0)
code (IN a b) = (27, a, b)
code (INC a) = (28, a, 0)
code (JMP a) = (29, a, 0)
code (LDX a) = (30, a, 0)
code (LDXinc a) = (31, a, 0)
code (LDXdec a) = (32, a, 0)
code (LDYinc a) = (33, a, 0)
code (LDYdec a) = (34, a, 0)
code (LDZinc a) = (35, a, 0)
code (LDZdec a) = (36, a, 0)
code (LDDY a b) = (37, a, b)
code (LDDZ a b) = (38, a, b)
code (LDI a b) = (39, a, b)
code (LDS a b) = (40, a, b)
code LPM = (41, 0, 0)
code (LPMZ a) = (42, a, 0)
code (LPMZinc a) = (43, a, 0)
code (LSL a) = (44, a, 0)
code (LSR a) = (45, a, 0)
code (MOV a b) = (46, a, b)
code (MOVW a b) = (47, a, b)
code (MUL a b) = (48, a, b)
code (MULS a b) = (49, a, b)
code (MULSU a b) = (50, a, b)
code (NEG a) = (51, a, 0)
code NOP = (52, 0, 0)
code (OR a b) = (53, a, b)
code (ORI a b) = (54, a, b)
code (OUT a b) = (55, a, b)
code (POP a) = (56, a, 0)
code (PUSH a) = (57, a, 0)
code (RCALL a) = (58, a, 0)
code RET = (59, 0, 0)
code RETI = (60, 0, 0)
code (RJMP a) = (61, a, 0)
code (ROR a) = (62, a, 0)
code (SBC a b) = (63, a, b)
code (SBCI a b) = (64, a, b)
code (SBI a b) = (65, a, b)
code (SBIC a b) = (66, a, b)
code (SBIS a b) = (67, a, b)
code (SBIW a b) = (68, a, b)
code (SBRC a b) = (69, a, b)
code (SBRS a b) = (70, a, b)
code SLEEP = (71, 0, 0)
code (STX a) = (72, a, 0)
code (STXdec a) = (73, a, 0)
code (STXinc a) = (74, a, 0)
code (STYdec a) = (75, a, 0)
code (STYinc a) = (76, a, 0)
code (STZdec a) = (77, a, 0)
code (STZinc a) = (78, a, 0)
code (STDY a b) = (79, a, b)
code (STDZ a b) = (80, a, b)
code (STS a b) = (81, a, b)
code (SUB a b) = (82, a, b)
code (SUBI a b) = (83, a, b)
code (SWAP a) = (84, a, 0)
code WDR = (85, 0, 0)
code UNDEF = (86, 0, 0)

-- i is one of these, whatever their fields
abbrev pub one_of : List Instruction → Instruction → Bool
one_of [] i = false
one_of (j ∷ l) i = eqb (code i).0 (code j).0 || one_of l i

-- "a second word the instruction uses (CALL JMP LDS STS)"
abbrev pub two_words : Instruction → Bool
two_words = one_of (CALL 0 ∷ JMP 0 ∷ LDS 0 0 ∷ STS 0 0 ∷ [])

-- "Register-only list: ADC ADD ADIW AND ANDI ASR BCLR BLD BSET BST COM CP CPC CPI DEC EOR FMUL FMULS FMULSU INC LDI LSR MOV MOVW MUL MULS MULSU
-- NEG NOP OR ORI ROR SBC SBCI SBIW SUB SUBI SWAP."
abbrev pub is_register_only : Instruction → Bool
is_register_only =
    one_of
    (ADC 0 0 ∷ ADD 0 0 ∷ ADIW 0 0 ∷ AND 0 0 ∷ ANDI 0 0 ∷ ASR 0 ∷ BCLR 0 ∷ BLD 0 0 ∷ BSET 0 ∷ BST 0 0 ∷ COM 0 ∷ CP 0 0 ∷ CPC 0 0 ∷ CPI 0 0 ∷ DEC 0 ∷ EOR 0 0 ∷
    FMUL 0 0 ∷ FMULS 0 0 ∷ FMULSU 0 0 ∷ INC 0 ∷ LDI 0 0 ∷ LSR 0 ∷ MOV 0 0 ∷ MOVW 0 0 ∷ MUL 0 0 ∷ MULS 0 0 ∷ MULSU 0 0 ∷ NEG 0 ∷ NOP ∷ OR 0 0 ∷ ORI 0 0 ∷ ROR 0 ∷
    SBC 0 0 ∷ SBCI 0 0 ∷ SBIW 0 0 ∷ SUB 0 0 ∷ SUBI 0 0 ∷ SWAP 0 ∷ [])

-- 02, W4: "Pointer loads and stores": LD and LDD, ST and STD, in every form. LDS, STS, LPM, PUSH and POP go by no pointer
abbrev pub is_pointer_load : Instruction → Bool
is_pointer_load = one_of (LDX 0 ∷ LDXinc 0 ∷ LDXdec 0 ∷ LDYinc 0 ∷ LDYdec 0 ∷ LDDY 0 0 ∷ LDZinc 0 ∷ LDZdec 0 ∷ LDDZ 0 0 ∷ [])

abbrev pub is_pointer_store : Instruction → Bool
is_pointer_store = one_of (STX 0 ∷ STXinc 0 ∷ STXdec 0 ∷ STYinc 0 ∷ STYdec 0 ∷ STDY 0 0 ∷ STZinc 0 ∷ STZdec 0 ∷ STDZ 0 0 ∷ [])

-- 02, W4: "BSET 7", which is SEI
abbrev pub is_sei : Instruction → Bool
is_sei i = one_of (BSET 0 ∷ []) i && eqb (code i).1 7
