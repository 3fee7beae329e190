-- The instruction of a form. w is a word, s the second word, i an instruction, l a list of them, f a form. The letters of fields, with their bits, are those of the patterns of `decode`.
use Rattle.std.specs.Prelude.{List, [], ◌∷◌, ℕ, ◌+◌, ◌*◌}
use Rattle.instruction.specs.Decode.{Cases, look, d5, d4, d3, d2, r5, r4, r3, K8, K6, q6, A6, A5, b3, s3, k22, k12, k7}
use Rattle.instruction.specs.declared.Instruction.{Instruction}
use Rattle.instruction.specs.declared.Instruction.TheVariants.{ADC, ADD, ADIW, AND, ANDI, ASR, BCLR, BLD, BRBC, BRBS, BREAK, BSET, BST, CALL, CBI, COM, CP, CPC, CPI, CPSE, DEC, EOR, FMUL, FMULS, FMULSU, ICALL, IJMP, IN, INC, JMP, LDX, LDXinc, LDXdec, LDYinc, LDYdec, LDZinc, LDZdec, LDDY, LDDZ, LDI, LDS, LPM, LPMZ, LPMZinc, LSR, MOV, MOVW, MUL, MULS, MULSU, NEG, NOP, OR, ORI, OUT, POP, PUSH, RCALL, RET, RETI, RJMP, ROR, SBC, SBCI, SBI, SBIC, SBIS, SBIW, SBRC, SBRS, SLEEP, STX, STXdec, STXinc, STYdec, STYinc, STZdec, STZinc, STDY, STDZ, STS, SUB, SUBI, SWAP, WDR}
use Rattle.forms.specs.Forms.{form}

-- of every form its instruction, in the enum's order: with the fields that the two words have for it
abbrev pub instructions : ℕ → ℕ → List Instruction
instructions w s =
    ADC (d5 w) (r5 w) ∷
    ADD (d5 w) (r5 w) ∷
    ADIW (d2 w * 2 + 24) (K6 w) ∷
    AND (d5 w) (r5 w) ∷
    ANDI (d4 w + 16) (K8 w) ∷
    ASR (d5 w) ∷
    BCLR (s3 w) ∷
    BLD (d5 w) (b3 w) ∷
    BRBC (b3 w) (k7 w) ∷
    BRBS (b3 w) (k7 w) ∷
    BREAK ∷
    BSET (s3 w) ∷
    BST (d5 w) (b3 w) ∷
    CALL (k22 w s) ∷
    CBI (A5 w) (b3 w) ∷
    COM (d5 w) ∷
    CP (d5 w) (r5 w) ∷
    CPC (d5 w) (r5 w) ∷
    CPI (d4 w + 16) (K8 w) ∷
    CPSE (d5 w) (r5 w) ∷
    DEC (d5 w) ∷
    EOR (d5 w) (r5 w) ∷
    FMUL (d3 w + 16) (r3 w + 16) ∷
    FMULS (d3 w + 16) (r3 w + 16) ∷
    FMULSU (d3 w + 16) (r3 w + 16) ∷
    ICALL ∷
    IJMP ∷
    IN (d5 w) (A6 w) ∷
    INC (d5 w) ∷
    JMP (k22 w s) ∷
    LDX (d5 w) ∷
    LDXinc (d5 w) ∷
    LDXdec (d5 w) ∷
    LDYinc (d5 w) ∷
    LDYdec (d5 w) ∷
    LDZinc (d5 w) ∷
    LDZdec (d5 w) ∷
    LDDY (d5 w) (q6 w) ∷
    LDDZ (d5 w) (q6 w) ∷
    LDI (d4 w + 16) (K8 w) ∷
    LDS (d5 w) s ∷
    LPM ∷
    LPMZ (d5 w) ∷
    LPMZinc (d5 w) ∷
    LSR (d5 w) ∷
    MOV (d5 w) (r5 w) ∷
    MOVW (d4 w * 2) (r4 w * 2) ∷
    MUL (d5 w) (r5 w) ∷
    MULS (d4 w + 16) (r4 w + 16) ∷
    MULSU (d3 w + 16) (r3 w + 16) ∷
    NEG (d5 w) ∷
    NOP ∷
    OR (d5 w) (r5 w) ∷
    ORI (d4 w + 16) (K8 w) ∷
    OUT (A6 w) (d5 w) ∷
    POP (d5 w) ∷
    PUSH (d5 w) ∷
    RCALL (k12 w) ∷
    RET ∷
    RETI ∷
    RJMP (k12 w) ∷
    ROR (d5 w) ∷
    SBC (d5 w) (r5 w) ∷
    SBCI (d4 w + 16) (K8 w) ∷
    SBI (A5 w) (b3 w) ∷
    SBIC (A5 w) (b3 w) ∷
    SBIS (A5 w) (b3 w) ∷
    SBIW (d2 w * 2 + 24) (K6 w) ∷
    SBRC (d5 w) (b3 w) ∷
    SBRS (d5 w) (b3 w) ∷
    SLEEP ∷
    STX (d5 w) ∷
    STXdec (d5 w) ∷
    STXinc (d5 w) ∷
    STYdec (d5 w) ∷
    STYinc (d5 w) ∷
    STZdec (d5 w) ∷
    STZinc (d5 w) ∷
    STDY (q6 w) (d5 w) ∷
    STDZ (q6 w) (d5 w) ∷
    STS s (d5 w) ∷
    SUB (d5 w) (r5 w) ∷
    SUBI (d4 w + 16) (K8 w) ∷
    SWAP (d5 w) ∷
    WDR ∷
    []

-- each under the number of its form
abbrev pub by_form : List Instruction → Cases
by_form [] = []
by_form (i ∷ l) = (form i, i) ∷ by_form l

-- a number that is no form is undefined
unfoldable pub instruction_of : ℕ → ℕ → ℕ → Instruction
instruction_of f w s = look f (by_form (instructions w s))
