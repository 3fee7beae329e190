-- What goes back with 0 for its second word goes back with any.
-- Assumes nothing.
use Prim.Native.Nat.{ℕ, ◌+◌, ◌*◌, ◌/◌, ◌%◌, ◌<◌}
use native.Mathlib.Omega.{arith}
use mathlib.Core.Bool.{Bool, true, false, ◌&&◌}
use mathlib.Core.Path.{◌≡◌, refl, ap}
use lib.Dec.{ltb}
use borrow.Author.Tests.{ltb-true, lt-ltb}
use Rattle.basis.proofs.Both.{both_true}
use Rattle.instruction.specs.Fields.{with_second}
use Rattle.instruction.specs.declared.Instruction.{Instruction}
use Rattle.instruction.specs.declared.Instruction.TheVariants.{ADC, ADD, ADIW, AND, ANDI, ASR, BCLR, BLD, BRBC, BRBS, BREAK, BSET, BST, CALL, CBI, COM, CP, CPC, CPI, CPSE, DEC, EOR, FMUL, FMULS, FMULSU, ICALL, IJMP, IN, INC, JMP, LDX, LDXinc, LDXdec, LDYinc, LDYdec, LDZinc, LDZdec, LDDY, LDDZ, LDI, LDS, LPM, LPMZ, LPMZinc, LSL, LSR, MOV, MOVW, MUL, MULS, MULSU, NEG, NOP, OR, ORI, OUT, POP, PUSH, RCALL, RET, RETI, RJMP, ROR, SBC, SBCI, SBI, SBIC, SBIS, SBIW, SBRC, SBRS, SLEEP, STX, STXdec, STXinc, STYdec, STYinc, STZdec, STZinc, STDY, STDZ, STS, SUB, SUBI, SWAP, WDR, UNDEF}
use Rattle.encode.specs.Encode.{Encoded, encode_of, is_register, in_two, target_of, data_address_of}
use Rattle.round_trip.specs.RoundTrip.{words_of}
use Rattle.round_trip.proofs.Words.{low_of}

-- two words that are there: the operands passed, and the first is w
passed : (t : Bool) (f z w x : ℕ) → in_two t f z ≡ in_two true w x → (t ≡ true) × (f ≡ w)
passed true f z w x e = (refl, ap (λ (y : Encoded). y.first) e)
passed false f z w x e = let n : ◌≡◌ {A = ℕ} 33 0 = ap (λ (y : Encoded). y.refusal) e in absurd (omega arith)

data_address : (o d k w s : ℕ) → s < 65536 → data_address_of o d k ≡ in_two true w 0 → data_address_of o d s ≡ in_two true w s
data_address o d k w s h e =
    let (t, f) = passed (is_register d && ltb k 65536) (o + d * 16) k w 0 e in
    rw ((both_true (is_register d) (ltb k 65536) t).0, lt-ltb s 65536 h, f)

target : (o k w s : ℕ) → s < 65536 → k % 65536 ≡ 0 → target_of o k ≡ in_two true w 0 → target_of o (k + s) ≡ in_two true w s
target o k w s h l e =
    let (t, f) = passed (ltb k 4194304) (o + k / 131072 * 16 + k / 65536 % 2) (k % 65536) w 0 e in
    let below : k + s < 4194304 = omega (arith, ltb-true k 4194304 t) in
    let first : o + (k + s) / 131072 * 16 + (k + s) / 65536 % 2 ≡ w = omega arith in
    let low : (k + s) % 65536 ≡ s = omega arith in
    rw (lt-ltb (k + s) 4194304 below, first, low)

pub seconds : (w z : ℕ) (i : Instruction) → z < 65536 → low_of i ≡ 0 → encode_of i ≡ words_of i w 0 → encode_of (with_second z i) ≡ words_of (with_second z i) w z
unfolding encode_of
seconds w z (ADC d r) h l e = e
seconds w z (ADD d r) h l e = e
seconds w z (ADIW d K) h l e = e
seconds w z (AND d r) h l e = e
seconds w z (ANDI d K) h l e = e
seconds w z (ASR d) h l e = e
seconds w z (BCLR s) h l e = e
seconds w z (BLD d b) h l e = e
seconds w z (BRBC s k) h l e = e
seconds w z (BRBS s k) h l e = e
seconds w z BREAK h l e = e
seconds w z (BSET s) h l e = e
seconds w z (BST d b) h l e = e
seconds w z (CALL k) h l e = target 0x940E k w z h l e
seconds w z (CBI A b) h l e = e
seconds w z (COM d) h l e = e
seconds w z (CP d r) h l e = e
seconds w z (CPC d r) h l e = e
seconds w z (CPI d K) h l e = e
seconds w z (CPSE d r) h l e = e
seconds w z (DEC d) h l e = e
seconds w z (EOR d r) h l e = e
seconds w z (FMUL d r) h l e = e
seconds w z (FMULS d r) h l e = e
seconds w z (FMULSU d r) h l e = e
seconds w z ICALL h l e = e
seconds w z IJMP h l e = e
seconds w z (IN d A) h l e = e
seconds w z (INC d) h l e = e
seconds w z (JMP k) h l e = target 0x940C k w z h l e
seconds w z (LDX d) h l e = e
seconds w z (LDXinc d) h l e = e
seconds w z (LDXdec d) h l e = e
seconds w z (LDYinc d) h l e = e
seconds w z (LDYdec d) h l e = e
seconds w z (LDZinc d) h l e = e
seconds w z (LDZdec d) h l e = e
seconds w z (LDDY d q) h l e = e
seconds w z (LDDZ d q) h l e = e
seconds w z (LDI d K) h l e = e
seconds w z (LDS d k) h l e = data_address 0x9000 d k w z h e
seconds w z LPM h l e = e
seconds w z (LPMZ d) h l e = e
seconds w z (LPMZinc d) h l e = e
seconds w z (LSL d) h l e = e
seconds w z (LSR d) h l e = e
seconds w z (MOV d r) h l e = e
seconds w z (MOVW d r) h l e = e
seconds w z (MUL d r) h l e = e
seconds w z (MULS d r) h l e = e
seconds w z (MULSU d r) h l e = e
seconds w z (NEG d) h l e = e
seconds w z NOP h l e = e
seconds w z (OR d r) h l e = e
seconds w z (ORI d K) h l e = e
seconds w z (OUT A r) h l e = e
seconds w z (POP d) h l e = e
seconds w z (PUSH d) h l e = e
seconds w z (RCALL k) h l e = e
seconds w z RET h l e = e
seconds w z RETI h l e = e
seconds w z (RJMP k) h l e = e
seconds w z (ROR d) h l e = e
seconds w z (SBC d r) h l e = e
seconds w z (SBCI d K) h l e = e
seconds w z (SBI A b) h l e = e
seconds w z (SBIC A b) h l e = e
seconds w z (SBIS A b) h l e = e
seconds w z (SBIW d K) h l e = e
seconds w z (SBRC r b) h l e = e
seconds w z (SBRS r b) h l e = e
seconds w z SLEEP h l e = e
seconds w z (STX r) h l e = e
seconds w z (STXdec r) h l e = e
seconds w z (STXinc r) h l e = e
seconds w z (STYdec r) h l e = e
seconds w z (STYinc r) h l e = e
seconds w z (STZdec r) h l e = e
seconds w z (STZinc r) h l e = e
seconds w z (STDY q r) h l e = e
seconds w z (STDZ q r) h l e = e
seconds w z (STS k r) h l e = data_address 0x9200 r k w z h e
seconds w z (SUB d r) h l e = e
seconds w z (SUBI d K) h l e = e
seconds w z (SWAP d) h l e = e
seconds w z WDR h l e = e
seconds w z UNDEF h l e = e
