-- The manual's pages from DEC to LSR, written as those from ADC to CPSE.
use Rattle.std.specs.Prelude.{false, not, ◌||◌, List, ℕ, ◌+◌, ◌*◌, ◌/◌, ◌%◌, ◌-◌, ◌*ℤ◌, get_or}
use Rattle.std.specs.Int.Bits.{bit_xor}
use Rattle.basis.specs.Pick.{pick}
use Rattle.basis.specs.Bit.{up}
use Rattle.cores.specs.declared.Core.{Core}
use Rattle.cores.specs.State.{Out, reg, word, with_reg, with_word, with_sreg}
use Rattle.cores.specs.Transfer.{data_of}
use Rattle.manual.specs.Notation.{◌!◌, ◌•◌, ◌⊕◌, bar, zero8, zero16, kept, is, row, signed, unsigned, bits16, STACK←, next, goes}
use Rattle.manual.specs.Switches.{Switches, target, pointers, Says, ran, defined_if}
use Rattle.manual.specs.Pointers as at
use Rattle.manual.specs.Pointers.{load_cycles, is_in, load, load_inc, load_dec}

-- DEC, decrement: Rd ← Rd - 1. 1 word, 1 cycle
unfoldable pub dec : Core → ℕ → Core
dec k d =
    let R = (reg k d + 256 - 1) % 256 in
    let «V» = bar (R ! 7) • R ! 6 • R ! 5 • R ! 4 • R ! 3 • R ! 2 • R ! 1 • R ! 0 in
    let N = R ! 7 in
    let S = N ⊕ «V» in
    let Z = zero8 R in
    with_sreg (with_reg (next k 1 1) d R) (row k.sreg kept kept kept (is S) (is «V») (is N) (is Z) kept)

-- EOR, exclusive OR: Rd ← Rd ⊕ Rr. 1 word, 1 cycle
unfoldable pub eor : Core → ℕ → ℕ → Core
eor k d r =
    let R = bit_xor (reg k d) (reg k r) in
    let «V» = false in
    let N = R ! 7 in
    let S = N ⊕ «V» in
    let Z = zero8 R in
    with_sreg (with_reg (next k 1 1) d R) (row k.sreg kept kept kept (is S) (is «V») (is N) (is Z) kept)

-- FMUL, fractional multiply unsigned: R1:R0 ← Rd × Rr, shifted left by one. 1 word, 2 cycles. C: R16, bit 15 of the product before the shift
unfoldable pub fmul : Core → ℕ → ℕ → Core
fmul k d r =
    let R = bits16 (unsigned (reg k d) *ℤ unsigned (reg k r)) * 2 in
    let C = R ! 16 in
    let Z = zero16 (R % 65536) in
    with_sreg (with_word (next k 1 2) 0 (R % 65536)) (row k.sreg kept kept kept kept kept kept (is Z) (is C))

-- FMULS, fractional multiply signed: R1:R0 ← Rd × Rr, both signed, shifted left by one. 1 word, 2 cycles
unfoldable pub fmuls : Core → ℕ → ℕ → Core
fmuls k d r =
    let R = bits16 (signed (reg k d) *ℤ signed (reg k r)) * 2 in
    let C = R ! 16 in
    let Z = zero16 (R % 65536) in
    with_sreg (with_word (next k 1 2) 0 (R % 65536)) (row k.sreg kept kept kept kept kept kept (is Z) (is C))

-- FMULSU, fractional multiply signed with unsigned: R1:R0 ← Rd × Rr, Rd signed and Rr unsigned, shifted left by one. 1 word, 2 cycles
unfoldable pub fmulsu : Core → ℕ → ℕ → Core
fmulsu k d r =
    let R = bits16 (signed (reg k d) *ℤ unsigned (reg k r)) * 2 in
    let C = R ! 16 in
    let Z = zero16 (R % 65536) in
    with_sreg (with_word (next k 1 2) 0 (R % 65536)) (row k.sreg kept kept kept kept kept kept (is Z) (is C))

-- ICALL, indirect call to a subroutine: STACK ← PC + 1, SP ← SP - 2, PC ← Z. 1 word, 2 cycles
unfoldable pub icall : Core → List ℕ → Out
icall k m = STACK← (goes k (word k at.Z) 2) (up k.pc 1) m

-- IJMP, indirect jump: PC ← Z. 1 word, 2 cycles
unfoldable pub ijmp : Core → Core
ijmp k = goes k (word k at.Z) 2

-- IN, load an I/O location to a register: Rd ← I/O(A). 1 word, 1 cycle
unfoldable pub in_ : Core → ℕ → ℕ → List ℕ → Core
in_ k d A m = with_reg (next k 1 1) d (data_of k A m)

-- INC, increment: Rd ← Rd + 1. 1 word, 1 cycle
unfoldable pub inc : Core → ℕ → Core
inc k d =
    let R = (reg k d + 1) % 256 in
    let «V» = R ! 7 • bar (R ! 6) • bar (R ! 5) • bar (R ! 4) • bar (R ! 3) • bar (R ! 2) • bar (R ! 1) • bar (R ! 0) in
    let N = R ! 7 in
    let S = N ⊕ «V» in
    let Z = zero8 R in
    with_sreg (with_reg (next k 1 1) d R) (row k.sreg kept kept kept (is S) (is «V») (is N) (is Z) kept)

-- JMP, jump: PC ← k. 2 words, 3 cycles. The Rust drops the target's bits above the 16th
unfoldable pub jmp : Switches → Core → ℕ → Core
jmp s k t = goes k (pick (s target) (t % 65536) t) 3

-- LD using X: Rd ← (X); Rd ← (X), X ← X + 1; X ← X - 1, Rd ← (X). 1 word, 2 cycles; in the Rust 3. LD r26 and r27 by X+ and -X are undefined
abbrev pub ld_x : Switches → Core → ℕ → List ℕ → Says
ld_x s k d m = ran (load (load_cycles s) k d at.X 0 m) m

abbrev pub ld_x_inc : Switches → Core → ℕ → List ℕ → Says
ld_x_inc s k d m = defined_if (s pointers || not (is_in d at.X)) (ran (load_inc (load_cycles s) k d at.X m) m)

abbrev pub ld_x_dec : Switches → Core → ℕ → List ℕ → Says
ld_x_dec s k d m = defined_if (s pointers || not (is_in d at.X)) (ran (load_dec (load_cycles s) k d at.X m) m)

-- LD, LDD using Y: Rd ← (Y), Y ← Y + 1; Y ← Y - 1, Rd ← (Y); Rd ← (Y + q), q 0 for LD. 1 word, 2 cycles; in the Rust 3. LD r28 and r29 by Y+ and -Y are undefined
abbrev pub ld_y_inc : Switches → Core → ℕ → List ℕ → Says
ld_y_inc s k d m = defined_if (s pointers || not (is_in d at.Y)) (ran (load_inc (load_cycles s) k d at.Y m) m)

abbrev pub ld_y_dec : Switches → Core → ℕ → List ℕ → Says
ld_y_dec s k d m = defined_if (s pointers || not (is_in d at.Y)) (ran (load_dec (load_cycles s) k d at.Y m) m)

abbrev pub ldd_y : Switches → Core → ℕ → ℕ → List ℕ → Says
ldd_y s k d q m = ran (load (load_cycles s) k d at.Y q m) m

-- LD, LDD using Z: Rd ← (Z), Z ← Z + 1; Z ← Z - 1, Rd ← (Z); Rd ← (Z + q), q 0 for LD. 1 word, 2 cycles; in the Rust 3. LD r30 and r31 by Z+ and -Z are undefined
abbrev pub ld_z_inc : Switches → Core → ℕ → List ℕ → Says
ld_z_inc s k d m = defined_if (s pointers || not (is_in d at.Z)) (ran (load_inc (load_cycles s) k d at.Z m) m)

abbrev pub ld_z_dec : Switches → Core → ℕ → List ℕ → Says
ld_z_dec s k d m = defined_if (s pointers || not (is_in d at.Z)) (ran (load_dec (load_cycles s) k d at.Z m) m)

abbrev pub ldd_z : Switches → Core → ℕ → ℕ → List ℕ → Says
ldd_z s k d q m = ran (load (load_cycles s) k d at.Z q m) m

-- LDI, load immediate: Rd ← K. 1 word, 1 cycle
unfoldable pub ldi : Core → ℕ → ℕ → Core
ldi k d K = with_reg (next k 1 1) d K

-- LDS, load direct from data space: Rd ← (k). 2 words, 3 cycles
unfoldable pub lds : Core → ℕ → ℕ → List ℕ → Core
lds k d a m = with_reg (next k 2 3) d (data_of k a m)

-- LPM, load program memory: R0 ← (Z); Rd ← (Z); Rd ← (Z), Z ← Z + 1. 1 word, 3 cycles. LPM r30 and r31 by Z+ are undefined. (Z) is a byte of the program
unfoldable pub lpm : Core → ℕ → List ℕ → Core
lpm k d p = with_reg (next k 1 3) d (get_or p (word k at.Z) 0)

abbrev pub lpm_inc : Switches → Core → ℕ → List ℕ → List ℕ → Says
lpm_inc s k d p m = defined_if (s pointers || not (is_in d at.Z)) (ran (with_word (lpm k d p) at.Z (up (word k at.Z) 1)) m)

-- LSR, logical shift right: 0 → b7 .. b0 → C. 1 word, 1 cycle
unfoldable pub lsr : Core → ℕ → Core
lsr k d =
    let Rd = reg k d in
    let R = Rd / 2 in
    let C = Rd ! 0 in
    let N = false in
    let «V» = N ⊕ C in
    let S = N ⊕ «V» in
    let Z = zero8 R in
    with_sreg (with_reg (next k 1 1) d R) (row k.sreg kept kept kept (is S) (is «V») (is N) (is Z) (is C))
