-- The manual's pages from ADC to CPSE. Each says its operation, its words and its AVRxt cycles in the manual's letters, and then the same as a definition: k is
-- the core, d and r are the numbers of Rd and Rr, b is a bit's number (the manual's b and s), o an offset, t a target and a an address (its k), m the data, p the
-- program and s the settings of the switches.
use Rattle.std.specs.Prelude.{Bool, true, false, not, ◌||◌, List, ℕ, ◌+◌, ◌*◌, ◌/◌, ◌%◌, ◌-◌, eqb, get_or, set}
use Rattle.std.specs.Int.Bits.{bit_and}
use Rattle.basis.specs.Pick.{pick}
use Rattle.basis.specs.Bit.{one, up}
use Rattle.cores.specs.declared.Core.{Core}
use Rattle.cores.specs.State.{Out, out, reg, word, with_reg, with_word, with_sreg, with_inhibit}
use Rattle.tick.specs.declared.Answer.TheVariants.{Ran, Break}
use Rattle.manual.specs.Notation.{◌!◌, ◌•◌, ◌⊹◌, ◌⊕◌, bar, zero8, zero16, kept, is, row, bit_to, carry, STACK←, next, goes}
use Rattle.manual.specs.Switches.{Switches, adiw_v, outside, after_sei, target, Says, says}

-- ADC, add with carry: Rd ← Rd + Rr + C. 1 word, 1 cycle
unfoldable pub adc : Core → ℕ → ℕ → Core
adc k d r =
    let Rd = reg k d in
    let Rr = reg k r in
    let R = (Rd + Rr + carry k) % 256 in
    let H = Rd ! 3 • Rr ! 3 ⊹ Rr ! 3 • bar (R ! 3) ⊹ bar (R ! 3) • Rd ! 3 in
    let «V» = Rd ! 7 • Rr ! 7 • bar (R ! 7) ⊹ bar (Rd ! 7) • bar (Rr ! 7) • R ! 7 in
    let N = R ! 7 in
    let S = N ⊕ «V» in
    let Z = zero8 R in
    let C = Rd ! 7 • Rr ! 7 ⊹ Rr ! 7 • bar (R ! 7) ⊹ bar (R ! 7) • Rd ! 7 in
    with_sreg (with_reg (next k 1 1) d R) (row k.sreg kept kept (is H) (is S) (is «V») (is N) (is Z) (is C))

-- ADD, add without carry: Rd ← Rd + Rr. 1 word, 1 cycle
unfoldable pub add : Core → ℕ → ℕ → Core
add k d r =
    let Rd = reg k d in
    let Rr = reg k r in
    let R = (Rd + Rr) % 256 in
    let H = Rd ! 3 • Rr ! 3 ⊹ Rr ! 3 • bar (R ! 3) ⊹ bar (R ! 3) • Rd ! 3 in
    let «V» = Rd ! 7 • Rr ! 7 • bar (R ! 7) ⊹ bar (Rd ! 7) • bar (Rr ! 7) • R ! 7 in
    let N = R ! 7 in
    let S = N ⊕ «V» in
    let Z = zero8 R in
    let C = Rd ! 7 • Rr ! 7 ⊹ Rr ! 7 • bar (R ! 7) ⊹ bar (R ! 7) • Rd ! 7 in
    with_sreg (with_reg (next k 1 1) d R) (row k.sreg kept kept (is H) (is S) (is «V») (is N) (is Z) (is C))

-- ADIW, add immediate to word: Rd+1:Rd ← Rd+1:Rd + K. 1 word, 2 cycles. V: Rdh7 with a bar and R15; the Rust has bit 7 of the word for Rdh7
unfoldable pub adiw : Switches → Core → ℕ → ℕ → Core
adiw s k d K =
    let Rdh7 = reg k (d + 1) ! 7 in
    let R = (word k d + K) % 65536 in
    let «V» = bar (pick (s adiw_v) (reg k d ! 7) Rdh7) • R ! 15 in
    let N = R ! 15 in
    let S = N ⊕ «V» in
    let Z = zero16 R in
    let C = bar (R ! 15) • Rdh7 in
    with_sreg (with_word (next k 1 2) d R) (row k.sreg kept kept kept (is S) (is «V») (is N) (is Z) (is C))

-- AND, logical AND: Rd ← Rd • Rr. 1 word, 1 cycle
unfoldable pub and : Core → ℕ → ℕ → Core
and k d r =
    let R = bit_and (reg k d) (reg k r) in
    let «V» = false in
    let N = R ! 7 in
    let S = N ⊕ «V» in
    let Z = zero8 R in
    with_sreg (with_reg (next k 1 1) d R) (row k.sreg kept kept kept (is S) (is «V») (is N) (is Z) kept)

-- ANDI, logical AND with immediate: Rd ← Rd • K. 1 word, 1 cycle
unfoldable pub andi : Core → ℕ → ℕ → Core
andi k d K =
    let R = bit_and (reg k d) K in
    let «V» = false in
    let N = R ! 7 in
    let S = N ⊕ «V» in
    let Z = zero8 R in
    with_sreg (with_reg (next k 1 1) d R) (row k.sreg kept kept kept (is S) (is «V») (is N) (is Z) kept)

-- ASR, arithmetic shift right: b7 → b7 → b6 .. b0 → C. 1 word, 1 cycle
unfoldable pub asr : Core → ℕ → Core
asr k d =
    let Rd = reg k d in
    let R = one (Rd ! 7) * 128 + Rd / 2 in
    let C = Rd ! 0 in
    let N = R ! 7 in
    let «V» = N ⊕ C in
    let S = N ⊕ «V» in
    let Z = zero8 R in
    with_sreg (with_reg (next k 1 1) d R) (row k.sreg kept kept kept (is S) (is «V») (is N) (is Z) (is C))

-- BCLR, bit clear in SREG: SREG(s) ← 0. 1 word, 1 cycle. CLC CLZ CLN CLV CLS CLH CLT CLI are its aliases
unfoldable pub bclr : Core → ℕ → Core
bclr k b = with_sreg (next k 1 1) (bit_to k.sreg b false)

-- BLD, bit load from T into a register's bit: Rd(b) ← T. 1 word, 1 cycle
unfoldable pub bld : Core → ℕ → ℕ → Core
bld k d b = with_reg (next k 1 1) d (bit_to (reg k d) b (k.sreg ! 6))

-- PC + k + 1, for an offset k that is a byte in two's complement
abbrev pub branch_target : Core → ℕ → ℕ
branch_target k o = (k.pc + o + 1 + 65536 - one (o ! 7) * 256) % 65536

-- BRBC, branch if bit in SREG is cleared: if SREG(s) = 0 then PC ← PC + k + 1, else PC ← PC + 1. 1 word, 2 cycles if taken, else 1
unfoldable pub brbc : Core → ℕ → ℕ → Core
brbc k b o = pick (bar (k.sreg ! b)) (goes k (branch_target k o) 2) (next k 1 1)

-- BRBS, branch if bit in SREG is set: if SREG(s) = 1 then PC ← PC + k + 1, else PC ← PC + 1. 1 word, 2 cycles if taken, else 1
unfoldable pub brbs : Core → ℕ → ℕ → Core
brbs k b o = pick (k.sreg ! b) (goes k (branch_target k o) 2) (next k 1 1)

-- BREAK: a break for the on-chip debug system. 1 word, 1 cycle. With the debug system off the CPU treats it as a NOP, and so does this page; the Rust stops
unfoldable pub break : Switches → Core → List ℕ → Says
break s k m = says (pick (s outside) Break Ran) (next k 1 1) m

-- BSET, bit set in SREG: SREG(s) ← 1. 1 word, 1 cycle. SEC SEZ SEN SEV SES SEH SET SEI are its aliases.
-- SEI: the instruction behind it is executed before any pending interrupt, which is what inhibit is for
unfoldable pub bset : Switches → Core → ℕ → Core
bset s k b =
    let k₁ = with_sreg (next k 1 1) (bit_to k.sreg b true) in
    pick (s after_sei || not (eqb b 7)) k₁ (with_inhibit k₁ true)

-- BST, bit store from a register's bit to T: T ← Rd(b). 1 word, 1 cycle
unfoldable pub bst : Core → ℕ → ℕ → Core
bst k d b = with_sreg (next k 1 1) (row k.sreg kept (is (reg k d ! b)) kept kept kept kept kept kept)

-- CALL, long call to a subroutine: STACK ← PC + 2, SP ← SP - 2, PC ← k. 2 words, 3 cycles. Stack and cycles are those of variant (i), a PC of 16 bits; the
-- target is the long one, of 22 bits. The Rust drops the target's bits above the 16th
unfoldable pub call : Switches → Core → ℕ → List ℕ → Out
call s k t m = STACK← (goes k (pick (s target) (t % 65536) t) 3) (up k.pc 2) m

-- CBI, clear bit in I/O register: I/O(A,b) ← 0. 1 word, 1 cycle
unfoldable pub cbi : Core → ℕ → ℕ → List ℕ → Out
cbi k A b m = out (next k 1 1) (set m A (bit_to (get_or m A 0) b false))

-- COM, one's complement: Rd ← $FF - Rd. 1 word, 1 cycle
unfoldable pub «com» : Core → ℕ → Core
«com» k d =
    let R = 255 - reg k d in
    let «V» = false in
    let N = R ! 7 in
    let S = N ⊕ «V» in
    let Z = zero8 R in
    let C = true in
    with_sreg (with_reg (next k 1 1) d R) (row k.sreg kept kept kept (is S) (is «V») (is N) (is Z) (is C))

-- CP, compare: Rd - Rr. 1 word, 1 cycle
unfoldable pub cp : Core → ℕ → ℕ → Core
cp k d r =
    let Rd = reg k d in
    let Rr = reg k r in
    let R = (Rd + 256 - Rr) % 256 in
    let H = bar (Rd ! 3) • Rr ! 3 ⊹ Rr ! 3 • R ! 3 ⊹ R ! 3 • bar (Rd ! 3) in
    let «V» = Rd ! 7 • bar (Rr ! 7) • bar (R ! 7) ⊹ bar (Rd ! 7) • Rr ! 7 • R ! 7 in
    let N = R ! 7 in
    let S = N ⊕ «V» in
    let Z = zero8 R in
    let C = bar (Rd ! 7) • Rr ! 7 ⊹ Rr ! 7 • R ! 7 ⊹ R ! 7 • bar (Rd ! 7) in
    with_sreg (next k 1 1) (row k.sreg kept kept (is H) (is S) (is «V») (is N) (is Z) (is C))

-- CPC, compare with carry: Rd - Rr - C. 1 word, 1 cycle. Z: as it was where the result is zero, else cleared
unfoldable pub cpc : Core → ℕ → ℕ → Core
cpc k d r =
    let Rd = reg k d in
    let Rr = reg k r in
    let R = (Rd + 256 - Rr - carry k) % 256 in
    let H = bar (Rd ! 3) • Rr ! 3 ⊹ Rr ! 3 • R ! 3 ⊹ R ! 3 • bar (Rd ! 3) in
    let «V» = Rd ! 7 • bar (Rr ! 7) • bar (R ! 7) ⊹ bar (Rd ! 7) • Rr ! 7 • R ! 7 in
    let N = R ! 7 in
    let S = N ⊕ «V» in
    let Z = zero8 R • k.sreg ! 1 in
    let C = bar (Rd ! 7) • Rr ! 7 ⊹ Rr ! 7 • R ! 7 ⊹ R ! 7 • bar (Rd ! 7) in
    with_sreg (next k 1 1) (row k.sreg kept kept (is H) (is S) (is «V») (is N) (is Z) (is C))

-- CPI, compare with immediate: Rd - K. 1 word, 1 cycle
unfoldable pub cpi : Core → ℕ → ℕ → Core
cpi k d K =
    let Rd = reg k d in
    let R = (Rd + 256 - K) % 256 in
    let H = bar (Rd ! 3) • K ! 3 ⊹ K ! 3 • R ! 3 ⊹ R ! 3 • bar (Rd ! 3) in
    let «V» = Rd ! 7 • bar (K ! 7) • bar (R ! 7) ⊹ bar (Rd ! 7) • K ! 7 • R ! 7 in
    let N = R ! 7 in
    let S = N ⊕ «V» in
    let Z = zero8 R in
    let C = bar (Rd ! 7) • K ! 7 ⊹ K ! 7 • R ! 7 ⊹ R ! 7 • bar (Rd ! 7) in
    with_sreg (next k 1 1) (row k.sreg kept kept (is H) (is S) (is «V») (is N) (is Z) (is C))

-- a skip: if taken then PC ← PC + 2, or + 3 over an instruction of two words; else PC ← PC + 1. In 2, 3 or 1 cycles
unfoldable pub skips : Core → Bool → Bool → Core
skips k taken two = pick taken (pick two (next k 3 3) (next k 2 2)) (next k 1 1)

-- CPSE, compare, skip if equal: if Rd = Rr then PC ← PC + 2 (or 3), else PC ← PC + 1. 1 word, 1, 2 or 3 cycles
abbrev pub cpse : Core → ℕ → ℕ → Bool → Core
cpse k d r two = skips k (eqb (reg k d) (reg k r)) two
