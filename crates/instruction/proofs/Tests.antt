-- Tests over all instructions: that two are the same, and that a test computed once for each case passes at every instruction.
-- Assumes nothing.
use Prim.Native.Nat.{ℕ, zero, suc}
use mathlib.Core.Bool.{Bool, true, false, ◌&&◌}
use mathlib.Core.List.{List, [], ◌∷◌}
use mathlib.Core.Path.{◌≡◌, refl, sym, ◌∙◌}
use mathlib.Core.Logic.{⊎_elim}
use lib.Dec.{T, eqb, eqb→eq}
use lib.ListN.{get_or}
use types.Run.{OneOf}
use Rattle.basis.proofs.Both.{both_left, both_right}
use Rattle.instruction.specs.declared.Instruction.{Instruction}
use Rattle.instruction.specs.declared.Instruction.TheVariants.{ADC, ADD, ADIW, AND, ANDI, ASR, BCLR, BLD, BRBC, BRBS, BREAK, BSET, BST, CALL, CBI, COM, CP, CPC, CPI, CPSE, DEC, EOR, FMUL, FMULS, FMULSU, ICALL, IJMP, IN, INC, JMP, LDX, LDXinc, LDXdec, LDYinc, LDYdec, LDZinc, LDZdec, LDDY, LDDZ, LDI, LDS, LPM, LPMZ, LPMZinc, LSL, LSR, MOV, MOVW, MUL, MULS, MULSU, NEG, NOP, OR, ORI, OUT, POP, PUSH, RCALL, RET, RETI, RJMP, ROR, SBC, SBCI, SBI, SBIC, SBIS, SBIW, SBRC, SBRS, SLEEP, STX, STXdec, STXinc, STYdec, STYinc, STZdec, STZinc, STDY, STDZ, STS, SUB, SUBI, SWAP, WDR, UNDEF}
use Rattle.instruction.specs.Code.{code}

-- every instruction with the fields a and b
abbrev pub instructions : ℕ → ℕ → List Instruction
instructions a b =
    ADC a b ∷ ADD a b ∷ ADIW a b ∷ AND a b ∷ ANDI a b ∷ ASR a ∷ BCLR a ∷ BLD a b ∷ BRBC a b ∷ BRBS a b ∷ BREAK ∷ BSET a ∷
    BST a b ∷ CALL a ∷ CBI a b ∷ COM a ∷ CP a b ∷ CPC a b ∷ CPI a b ∷ CPSE a b ∷ DEC a ∷ EOR a b ∷ FMUL a b ∷ FMULS a b ∷
    FMULSU a b ∷ ICALL ∷ IJMP ∷ IN a b ∷ INC a ∷ JMP a ∷ LDX a ∷ LDXinc a ∷ LDXdec a ∷ LDYinc a ∷ LDYdec a ∷ LDZinc a ∷
    LDZdec a ∷ LDDY a b ∷ LDDZ a b ∷ LDI a b ∷ LDS a b ∷ LPM ∷ LPMZ a ∷ LPMZinc a ∷ LSL a ∷ LSR a ∷ MOV a b ∷ MOVW a b ∷
    MUL a b ∷ MULS a b ∷ MULSU a b ∷ NEG a ∷ NOP ∷ OR a b ∷ ORI a b ∷ OUT a b ∷ POP a ∷ PUSH a ∷ RCALL a ∷ RET ∷ RETI ∷ RJMP a ∷
    ROR a ∷ SBC a b ∷ SBCI a b ∷ SBI a b ∷ SBIC a b ∷ SBIS a b ∷ SBIW a b ∷ SBRC a b ∷ SBRS a b ∷ SLEEP ∷ STX a ∷ STXdec a ∷
    STXinc a ∷ STYdec a ∷ STYinc a ∷ STZdec a ∷ STZinc a ∷ STDY a b ∷ STDZ a b ∷ STS a b ∷ SUB a b ∷ SUBI a b ∷ SWAP a ∷ WDR ∷
    UNDEF ∷ []

back : ℕ → ℕ → ℕ → Instruction
back t a b = get_or (instructions a b) t UNDEF

back_code : (i : Instruction) → back (code i).0 (code i).1 (code i).2 ≡ i
unfolding back
back_code (ADC a b) = refl
back_code (ADD a b) = refl
back_code (ADIW a b) = refl
back_code (AND a b) = refl
back_code (ANDI a b) = refl
back_code (ASR a) = refl
back_code (BCLR a) = refl
back_code (BLD a b) = refl
back_code (BRBC a b) = refl
back_code (BRBS a b) = refl
back_code BREAK = refl
back_code (BSET a) = refl
back_code (BST a b) = refl
back_code (CALL a) = refl
back_code (CBI a b) = refl
back_code (COM a) = refl
back_code (CP a b) = refl
back_code (CPC a b) = refl
back_code (CPI a b) = refl
back_code (CPSE a b) = refl
back_code (DEC a) = refl
back_code (EOR a b) = refl
back_code (FMUL a b) = refl
back_code (FMULS a b) = refl
back_code (FMULSU a b) = refl
back_code ICALL = refl
back_code IJMP = refl
back_code (IN a b) = refl
back_code (INC a) = refl
back_code (JMP a) = refl
back_code (LDX a) = refl
back_code (LDXinc a) = refl
back_code (LDXdec a) = refl
back_code (LDYinc a) = refl
back_code (LDYdec a) = refl
back_code (LDZinc a) = refl
back_code (LDZdec a) = refl
back_code (LDDY a b) = refl
back_code (LDDZ a b) = refl
back_code (LDI a b) = refl
back_code (LDS a b) = refl
back_code LPM = refl
back_code (LPMZ a) = refl
back_code (LPMZinc a) = refl
back_code (LSL a) = refl
back_code (LSR a) = refl
back_code (MOV a b) = refl
back_code (MOVW a b) = refl
back_code (MUL a b) = refl
back_code (MULS a b) = refl
back_code (MULSU a b) = refl
back_code (NEG a) = refl
back_code NOP = refl
back_code (OR a b) = refl
back_code (ORI a b) = refl
back_code (OUT a b) = refl
back_code (POP a) = refl
back_code (PUSH a) = refl
back_code (RCALL a) = refl
back_code RET = refl
back_code RETI = refl
back_code (RJMP a) = refl
back_code (ROR a) = refl
back_code (SBC a b) = refl
back_code (SBCI a b) = refl
back_code (SBI a b) = refl
back_code (SBIC a b) = refl
back_code (SBIS a b) = refl
back_code (SBIW a b) = refl
back_code (SBRC a b) = refl
back_code (SBRS a b) = refl
back_code SLEEP = refl
back_code (STX a) = refl
back_code (STXdec a) = refl
back_code (STXinc a) = refl
back_code (STYdec a) = refl
back_code (STYinc a) = refl
back_code (STZdec a) = refl
back_code (STZinc a) = refl
back_code (STDY a b) = refl
back_code (STDZ a b) = refl
back_code (STS a b) = refl
back_code (SUB a b) = refl
back_code (SUBI a b) = refl
back_code (SWAP a) = refl
back_code WDR = refl
back_code UNDEF = refl

abbrev pub equal3 : ℕ × ℕ × ℕ → ℕ × ℕ × ℕ → Bool
equal3 x y = eqb x.0 y.0 && (eqb x.1 y.1 && eqb x.2 y.2)

abbrev pub same : Instruction → Instruction → Bool
same i j = equal3 (code i) (code j)

backs : (x y : ℕ × ℕ × ℕ) → T (equal3 x y) → back x.0 x.1 x.2 ≡ back y.0 y.1 y.2
backs x y t =
    let a = eqb x.0 y.0 in
    let b = eqb x.1 y.1 in
    let c = eqb x.2 y.2 in
    let u = both_right a (b && c) t in
    cc (eqb→eq x.0 y.0 (both_left a (b && c) t), eqb→eq x.1 y.1 (both_left b c u), eqb→eq x.2 y.2 (both_right b c u))

pub same→eq : (i j : Instruction) → T (same i j) → i ≡ j
same→eq i j t = sym (back_code i) ∙ backs (code i) (code j) t ∙ back_code j

-- ---- a test that passes at each case, whatever its fields, passes at every instruction
abbrev pub all : (Instruction → Bool) → List Instruction → Bool
all p [] = true
all p (i ∷ l) = p i && all p l

found : (p : Instruction → Bool) (l : List Instruction) (t : ℕ) → T (all p l) → T (p UNDEF) → T (p (get_or l t UNDEF))
found p [] t h u = u
found p (i ∷ l) zero h u = both_left (p i) (all p l) h
found p (i ∷ l) (suc t) h u = found p l t (both_right (p i) (all p l) h) u

pub each : (p : Instruction → Bool) → ((a b : ℕ) → T (all p (instructions a b))) → T (p UNDEF) → (i : Instruction) → T (p i)
unfolding back
each p h u i =
    let (t, a, b) = code i in
    rw (back_code i) at (found p (instructions a b) t (h a b) u)

-- ---- a test that passes at each key of a `match` arm passes at what is one of them
abbrev pub all_keys : (ℕ → Bool) → List ℕ → Bool
all_keys p [] = true
all_keys p (k ∷ ks) = p k && all_keys p ks

pub one_of : (p : ℕ → Bool) (ks : List ℕ) (x : ℕ) → OneOf ks x → T (all_keys p ks) → T (p x)
one_of p [] x h t = absurd h
one_of p (k ∷ []) x h t = rw h (both_left (p k) true t)
one_of p (k ∷ k' ∷ ks) x h t =
    ⊎_elim (λ e. rw e (both_left (p k) (all_keys p (k' ∷ ks)) t)) (λ l. one_of p (k' ∷ ks) x l (both_right (p k) (all_keys p (k' ∷ ks)) t)) h

-- the places in the enum at which p fails: the keys of a last arm `_`
abbrev pub failing : (ℕ → Bool) → ℕ → ℕ → List ℕ
failing p zero k = []
failing p (suc n) k = elim (p k) [ true ↦ failing p n (suc k) | false ↦ k ∷ failing p n (suc k) ]

abbrev pub others : (ℕ → Bool) → List ℕ
others p = failing p 87 0
