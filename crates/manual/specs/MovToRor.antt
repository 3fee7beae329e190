-- The manual's pages from MOV to ROR, written as those from ADC to CPSE.
use Rattle.std.specs.Prelude.{true, false, List, ℕ, ◌+◌, ◌*◌, ◌/◌, ◌%◌, ◌-◌, ◌*ℤ◌}
use Rattle.std.specs.Int.Bits.{bit_or}
use Rattle.basis.specs.Bit.{up, down}
use Rattle.cores.specs.declared.Core.{Core}
use Rattle.cores.specs.State.{Out, out, reg, word, with_reg, with_word, with_sreg, with_sp, with_inhibit, with_service}
use Rattle.cores.specs.Transfer.{data_of, set_data_of}
use Rattle.manual.specs.Notation.{◌!◌, ◌•◌, ◌⊹◌, ◌⊕◌, bar, zero8, zero16, kept, is, row, carry, signed, unsigned, bits16, STACK←, STACK, next, goes}

-- MOV, copy register: Rd ← Rr. 1 word, 1 cycle
unfoldable pub mov : Core → ℕ → ℕ → Core
mov k d r = with_reg (next k 1 1) d (reg k r)

-- MOVW, copy register word: Rd+1:Rd ← Rr+1:Rr. 1 word, 1 cycle
unfoldable pub movw : Core → ℕ → ℕ → Core
movw k d r = with_word (next k 1 1) d (word k r)

-- MUL, multiply unsigned: R1:R0 ← Rd × Rr. 1 word, 2 cycles. C: R15
unfoldable pub mul : Core → ℕ → ℕ → Core
mul k d r =
    let R = bits16 (unsigned (reg k d) *ℤ unsigned (reg k r)) in
    let C = R ! 15 in
    let Z = zero16 R in
    with_sreg (with_word (next k 1 2) 0 R) (row k.sreg kept kept kept kept kept kept (is Z) (is C))

-- MULS, multiply signed: R1:R0 ← Rd × Rr, both signed. 1 word, 2 cycles
unfoldable pub muls : Core → ℕ → ℕ → Core
muls k d r =
    let R = bits16 (signed (reg k d) *ℤ signed (reg k r)) in
    let C = R ! 15 in
    let Z = zero16 R in
    with_sreg (with_word (next k 1 2) 0 R) (row k.sreg kept kept kept kept kept kept (is Z) (is C))

-- MULSU, multiply signed with unsigned: R1:R0 ← Rd × Rr, Rd signed and Rr unsigned. 1 word, 2 cycles
unfoldable pub mulsu : Core → ℕ → ℕ → Core
mulsu k d r =
    let R = bits16 (signed (reg k d) *ℤ unsigned (reg k r)) in
    let C = R ! 15 in
    let Z = zero16 R in
    with_sreg (with_word (next k 1 2) 0 R) (row k.sreg kept kept kept kept kept kept (is Z) (is C))

-- NEG, two's complement: Rd ← $00 - Rd. 1 word, 1 cycle
unfoldable pub neg : Core → ℕ → Core
neg k d =
    let Rd = reg k d in
    let R = (256 - Rd) % 256 in
    let H = R ! 3 ⊹ Rd ! 3 in
    let «V» = R ! 7 • bar (R ! 6) • bar (R ! 5) • bar (R ! 4) • bar (R ! 3) • bar (R ! 2) • bar (R ! 1) • bar (R ! 0) in
    let N = R ! 7 in
    let S = N ⊕ «V» in
    let Z = zero8 R in
    let C = R ! 7 ⊹ R ! 6 ⊹ R ! 5 ⊹ R ! 4 ⊹ R ! 3 ⊹ R ! 2 ⊹ R ! 1 ⊹ R ! 0 in
    with_sreg (with_reg (next k 1 1) d R) (row k.sreg kept kept (is H) (is S) (is «V») (is N) (is Z) (is C))

-- NOP, no operation. 1 word, 1 cycle
unfoldable pub nop : Core → Core
nop k = next k 1 1

-- OR, logical OR: Rd ← Rd v Rr. 1 word, 1 cycle
unfoldable pub or : Core → ℕ → ℕ → Core
or k d r =
    let R = bit_or (reg k d) (reg k r) in
    let «V» = false in
    let N = R ! 7 in
    let S = N ⊕ «V» in
    let Z = zero8 R in
    with_sreg (with_reg (next k 1 1) d R) (row k.sreg kept kept kept (is S) (is «V») (is N) (is Z) kept)

-- ORI, logical OR with immediate: Rd ← Rd v K. 1 word, 1 cycle
unfoldable pub ori : Core → ℕ → ℕ → Core
ori k d K =
    let R = bit_or (reg k d) K in
    let «V» = false in
    let N = R ! 7 in
    let S = N ⊕ «V» in
    let Z = zero8 R in
    with_sreg (with_reg (next k 1 1) d R) (row k.sreg kept kept kept (is S) (is «V») (is N) (is Z) kept)

-- OUT, store register to an I/O location: I/O(A) ← Rr. 1 word, 1 cycle
unfoldable pub out_ : Core → ℕ → ℕ → List ℕ → Out
out_ k A r m = set_data_of (next k 1 1) A (reg k r) m

-- POP, pop register from stack: SP ← SP + 1, Rd ← STACK. 1 word, 2 cycles. STACK is here a byte of data space, at SP
unfoldable pub pop : Core → ℕ → List ℕ → Core
pop k d m =
    let k₁ = with_sp (next k 1 2) (up k.sp 1) in
    with_reg k₁ d (data_of k₁ k₁.sp m)

-- PUSH, push register on stack: STACK ← Rr, SP ← SP - 1. 1 word, 1 cycle. STACK as for POP
unfoldable pub push : Core → ℕ → List ℕ → Out
push k r m =
    let o = set_data_of (next k 1 1) k.sp (reg k r) m in
    out (with_sp o.core (down o.core.sp 1)) o.bytes

-- PC + k + 1, for an offset k that is a word in two's complement
abbrev pub relative_target : Core → ℕ → ℕ
relative_target k o = (k.pc + o + 1) % 65536

-- RCALL, relative call to a subroutine: STACK ← PC + 1, SP ← SP - 2, PC ← PC + k + 1. 1 word, 2 cycles
unfoldable pub rcall : Core → ℕ → List ℕ → Out
rcall k o m = STACK← (goes k (relative_target k o) 2) (up k.pc 1) m

-- RET, return from subroutine: PC ← STACK, SP ← SP + 2. 1 word, 4 cycles
unfoldable pub ret : Core → List ℕ → Core
ret k m = with_sp (goes k (STACK k m) 4) (up k.sp 2)

-- RETI, return from interrupt: PC ← STACK, SP ← SP + 2. 1 word, 4 cycles. On AVRxt RETI does not set I, as entry did not clear it.
-- What it tells the interrupt controller is 01's: in-service falls, and one instruction runs before the next entry
unfoldable pub reti : Core → List ℕ → Core
reti k m =
    let k₁ = with_sp (goes k (STACK k m) 4) (up k.sp 2) in
    with_inhibit (with_service k₁ false) true

-- RJMP, relative jump: PC ← PC + k + 1. 1 word, 2 cycles
unfoldable pub rjmp : Core → ℕ → Core
rjmp k o = goes k (relative_target k o) 2

-- ROR, rotate right through carry: C → b7 .. b0 → C. 1 word, 1 cycle
unfoldable pub ror : Core → ℕ → Core
ror k d =
    let Rd = reg k d in
    let R = carry k * 128 + Rd / 2 in
    let C = Rd ! 0 in
    let N = R ! 7 in
    let «V» = N ⊕ C in
    let S = N ⊕ «V» in
    let Z = zero8 R in
    with_sreg (with_reg (next k 1 1) d R) (row k.sreg kept kept kept (is S) (is «V») (is N) (is Z) (is C))
