-- The manual's pages from SBC to WDR, written as those from ADC to CPSE.
use Rattle.std.specs.Prelude.{Bool, true, not, ◌||◌, List, ℕ, ◌+◌, ◌*◌, ◌/◌, ◌%◌, ◌-◌, get_or, set}
use Rattle.basis.specs.Pick.{pick}
use Rattle.cores.specs.declared.Core.{Core}
use Rattle.cores.specs.State.{Out, out, reg, word, with_reg, with_word, with_sreg}
use Rattle.cores.specs.Transfer.{set_data_of}
use Rattle.tick.specs.declared.Answer.TheVariants.{Ran, Sleep, Watchdog}
use Rattle.manual.specs.Notation.{◌!◌, ◌•◌, ◌⊹◌, ◌⊕◌, bar, zero8, zero16, kept, is, row, bit_to, carry, next}
use Rattle.manual.specs.Switches.{Switches, outside, pointers, Says, sleeps, says, ran_out, defined_if}
use Rattle.manual.specs.Pointers as at
use Rattle.manual.specs.Pointers.{store_cycles, is_in, store, store_inc, store_dec}
use Rattle.manual.specs.AdcToCpse.{skips}

-- SBC, subtract with carry: Rd ← Rd - Rr - C. 1 word, 1 cycle. Z: as it was where the result is zero, else cleared
unfoldable pub sbc : Core → ℕ → ℕ → Core
sbc k d r =
    let Rd = reg k d in
    let Rr = reg k r in
    let R = (Rd + 256 - Rr - carry k) % 256 in
    let H = bar (Rd ! 3) • Rr ! 3 ⊹ Rr ! 3 • R ! 3 ⊹ R ! 3 • bar (Rd ! 3) in
    let «V» = Rd ! 7 • bar (Rr ! 7) • bar (R ! 7) ⊹ bar (Rd ! 7) • Rr ! 7 • R ! 7 in
    let N = R ! 7 in
    let S = N ⊕ «V» in
    let Z = zero8 R • k.sreg ! 1 in
    let C = bar (Rd ! 7) • Rr ! 7 ⊹ Rr ! 7 • R ! 7 ⊹ R ! 7 • bar (Rd ! 7) in
    with_sreg (with_reg (next k 1 1) d R) (row k.sreg kept kept (is H) (is S) (is «V») (is N) (is Z) (is C))

-- SBCI, subtract immediate with carry: Rd ← Rd - K - C. 1 word, 1 cycle. Z as in SBC
unfoldable pub sbci : Core → ℕ → ℕ → Core
sbci k d K =
    let Rd = reg k d in
    let R = (Rd + 256 - K - carry k) % 256 in
    let H = bar (Rd ! 3) • K ! 3 ⊹ K ! 3 • R ! 3 ⊹ R ! 3 • bar (Rd ! 3) in
    let «V» = Rd ! 7 • bar (K ! 7) • bar (R ! 7) ⊹ bar (Rd ! 7) • K ! 7 • R ! 7 in
    let N = R ! 7 in
    let S = N ⊕ «V» in
    let Z = zero8 R • k.sreg ! 1 in
    let C = bar (Rd ! 7) • K ! 7 ⊹ K ! 7 • R ! 7 ⊹ R ! 7 • bar (Rd ! 7) in
    with_sreg (with_reg (next k 1 1) d R) (row k.sreg kept kept (is H) (is S) (is «V») (is N) (is Z) (is C))

-- SBI, set bit in I/O register: I/O(A,b) ← 1. 1 word, 1 cycle
unfoldable pub sbi : Core → ℕ → ℕ → List ℕ → Out
sbi k A b m = out (next k 1 1) (set m A (bit_to (get_or m A 0) b true))

-- SBIC, skip if bit in I/O register is cleared: if I/O(A,b) = 0 then PC ← PC + 2 (or 3), else PC ← PC + 1. 1 word, 1, 2 or 3 cycles
abbrev pub sbic : Core → ℕ → ℕ → Bool → List ℕ → Core
sbic k A b two m = skips k (bar (get_or m A 0 ! b)) two

-- SBIS, skip if bit in I/O register is set: if I/O(A,b) = 1 then PC ← PC + 2 (or 3), else PC ← PC + 1. 1 word, 1, 2 or 3 cycles
abbrev pub sbis : Core → ℕ → ℕ → Bool → List ℕ → Core
sbis k A b two m = skips k (get_or m A 0 ! b) two

-- SBIW, subtract immediate from word: Rd+1:Rd ← Rd+1:Rd - K. 1 word, 2 cycles. V is the two's complement overflow that the page asks for in words; not every
-- edition prints its formula so
unfoldable pub sbiw : Core → ℕ → ℕ → Core
sbiw k d K =
    let Rdh7 = reg k (d + 1) ! 7 in
    let R = (word k d + 65536 - K) % 65536 in
    let «V» = Rdh7 • bar (R ! 15) in
    let N = R ! 15 in
    let S = N ⊕ «V» in
    let Z = zero16 R in
    let C = R ! 15 • bar Rdh7 in
    with_sreg (with_word (next k 1 2) d R) (row k.sreg kept kept kept (is S) (is «V») (is N) (is Z) (is C))

-- SBRC, skip if bit in register is cleared: if Rr(b) = 0 then PC ← PC + 2 (or 3), else PC ← PC + 1. 1 word, 1, 2 or 3 cycles
abbrev pub sbrc : Core → ℕ → ℕ → Bool → Core
sbrc k r b two = skips k (bar (reg k r ! b)) two

-- SBRS, skip if bit in register is set: if Rr(b) = 1 then PC ← PC + 2 (or 3), else PC ← PC + 1. 1 word, 1, 2 or 3 cycles
abbrev pub sbrs : Core → ℕ → ℕ → Bool → Core
sbrs k r b two = skips k (reg k r ! b) two

-- SLEEP: the core goes to sleep. 1 word, 1 cycle. The Rust goes on, with an answer
unfoldable pub sleep : Switches → Core → List ℕ → Says
sleep s k m = pick (s outside) (says Sleep (next k 1 1) m) (sleeps (next k 1 1) m)

-- ST using X: (X) ← Rr; (X) ← Rr, X ← X + 1; X ← X - 1, (X) ← Rr. 1 word, 1 cycle; in the Rust 2. ST of r26 and r27 by X+ and -X are undefined
abbrev pub st_x : Switches → Core → ℕ → List ℕ → Says
st_x s k r m = ran_out (store (store_cycles s) k r at.X 0 m)

abbrev pub st_x_inc : Switches → Core → ℕ → List ℕ → Says
st_x_inc s k r m = defined_if (s pointers || not (is_in r at.X)) (ran_out (store_inc (store_cycles s) k r at.X m))

abbrev pub st_x_dec : Switches → Core → ℕ → List ℕ → Says
st_x_dec s k r m = defined_if (s pointers || not (is_in r at.X)) (ran_out (store_dec (store_cycles s) k r at.X m))

-- ST, STD using Y: (Y) ← Rr, Y ← Y + 1; Y ← Y - 1, (Y) ← Rr; (Y + q) ← Rr, q 0 for ST. 1 word, 1 cycle; in the Rust 2. ST of r28 and r29 by Y+ and -Y are undefined
abbrev pub st_y_inc : Switches → Core → ℕ → List ℕ → Says
st_y_inc s k r m = defined_if (s pointers || not (is_in r at.Y)) (ran_out (store_inc (store_cycles s) k r at.Y m))

abbrev pub st_y_dec : Switches → Core → ℕ → List ℕ → Says
st_y_dec s k r m = defined_if (s pointers || not (is_in r at.Y)) (ran_out (store_dec (store_cycles s) k r at.Y m))

abbrev pub std_y : Switches → Core → ℕ → ℕ → List ℕ → Says
std_y s k q r m = ran_out (store (store_cycles s) k r at.Y q m)

-- ST, STD using Z: (Z) ← Rr, Z ← Z + 1; Z ← Z - 1, (Z) ← Rr; (Z + q) ← Rr, q 0 for ST. 1 word, 1 cycle; in the Rust 2. ST of r30 and r31 by Z+ and -Z are undefined
abbrev pub st_z_inc : Switches → Core → ℕ → List ℕ → Says
st_z_inc s k r m = defined_if (s pointers || not (is_in r at.Z)) (ran_out (store_inc (store_cycles s) k r at.Z m))

abbrev pub st_z_dec : Switches → Core → ℕ → List ℕ → Says
st_z_dec s k r m = defined_if (s pointers || not (is_in r at.Z)) (ran_out (store_dec (store_cycles s) k r at.Z m))

abbrev pub std_z : Switches → Core → ℕ → ℕ → List ℕ → Says
std_z s k q r m = ran_out (store (store_cycles s) k r at.Z q m)

-- STS, store direct to data space: (k) ← Rr. 2 words, 2 cycles
unfoldable pub sts : Core → ℕ → ℕ → List ℕ → Out
sts k a r m = set_data_of (next k 2 2) a (reg k r) m

-- SUB, subtract without carry: Rd ← Rd - Rr. 1 word, 1 cycle
unfoldable pub sub : Core → ℕ → ℕ → Core
sub k d r =
    let Rd = reg k d in
    let Rr = reg k r in
    let R = (Rd + 256 - Rr) % 256 in
    let H = bar (Rd ! 3) • Rr ! 3 ⊹ Rr ! 3 • R ! 3 ⊹ R ! 3 • bar (Rd ! 3) in
    let «V» = Rd ! 7 • bar (Rr ! 7) • bar (R ! 7) ⊹ bar (Rd ! 7) • Rr ! 7 • R ! 7 in
    let N = R ! 7 in
    let S = N ⊕ «V» in
    let Z = zero8 R in
    let C = bar (Rd ! 7) • Rr ! 7 ⊹ Rr ! 7 • R ! 7 ⊹ R ! 7 • bar (Rd ! 7) in
    with_sreg (with_reg (next k 1 1) d R) (row k.sreg kept kept (is H) (is S) (is «V») (is N) (is Z) (is C))

-- SUBI, subtract immediate: Rd ← Rd - K. 1 word, 1 cycle
unfoldable pub subi : Core → ℕ → ℕ → Core
subi k d K =
    let Rd = reg k d in
    let R = (Rd + 256 - K) % 256 in
    let H = bar (Rd ! 3) • K ! 3 ⊹ K ! 3 • R ! 3 ⊹ R ! 3 • bar (Rd ! 3) in
    let «V» = Rd ! 7 • bar (K ! 7) • bar (R ! 7) ⊹ bar (Rd ! 7) • K ! 7 • R ! 7 in
    let N = R ! 7 in
    let S = N ⊕ «V» in
    let Z = zero8 R in
    let C = bar (Rd ! 7) • K ! 7 ⊹ K ! 7 • R ! 7 ⊹ R ! 7 • bar (Rd ! 7) in
    with_sreg (with_reg (next k 1 1) d R) (row k.sreg kept kept (is H) (is S) (is «V») (is N) (is Z) (is C))

-- SWAP, swap nibbles: R(7:4) ← Rd(3:0), R(3:0) ← Rd(7:4). 1 word, 1 cycle
unfoldable pub swap : Core → ℕ → Core
swap k d = with_reg (next k 1 1) d (reg k d % 16 * 16 + reg k d / 16)

-- WDR, watchdog reset: the watchdog timer, which is no part of this core, is reset. 1 word, 1 cycle. The Rust answers watchdog
unfoldable pub wdr : Switches → Core → List ℕ → Says
wdr s k m = says (pick (s outside) Watchdog Ran) (next k 1 1) m
