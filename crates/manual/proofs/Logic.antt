-- The pages of one result and its flags are the port's: AND ANDI EOR OR ORI, COM, INC DEC, the shifts, and the pages of single bits.
-- Assumes nothing.
use mathlib.Core.Path.{◌≡◌, refl}
use mathlib.Core.Bool.{Bool, true, false, not, ◌&&◌, ◌||◌}
use Prim.Native.Nat.{ℕ, ◌+◌, ◌*◌, ◌/◌, ◌%◌, ◌-◌, ◌<◌}
use native.Mathlib.Omega.{arith}
use native.Mathlib.Nat.{add-zero}
use lib.Bits.{bit_and, bit_or, bit_xor, and_lt, or_lt, xor_lt}
use lib.Dec.{eqb, leb}
use borrow.Author.Tests.{lt-leb}
use Rattle.basis.specs.Pick.{pick}
use Rattle.basis.specs.Bit.{one, bit, put}
use Rattle.basis.proofs.Bits.{one_le}
use Rattle.bits.proofs.Booleans.{tests_agree}
use Rattle.bits.proofs.Tops.{bit7}
use Rattle.cores.specs.declared.Core.{Core}
use Rattle.cores.specs.State.{reg, with_reg, with_sreg, with_pc, with_inhibit, znvs}
use Rattle.cores.specs.Arithmetic.{resulted, and_of, com_of, dec_of, eor_of, inc_of, or_of}
use Rattle.cores.specs.Bits.{shifted, asr_of, lsr_of, ror_of, bclr_of, bld_of, bset_of, bst_of}
use Rattle.manual.specs.Notation.{◌!◌, ◌•◌, ◌⊕◌, bar, zero8, kept, is, row, carry, next}
use Rattle.manual.specs.Switches.{base}
use Rattle.manual.specs.AdcToCpse.{and, andi, asr, bclr, bld, bset, bst, «com»}
use Rattle.manual.specs.DecToLsr.{dec, eor, inc, lsr}
use Rattle.manual.specs.MovToRor.{or, ori, ror}
use Rattle.manual.proofs.Rows.{row_cznvs, row_znvs, row_t, bit_to_lem, xor_is, zero8_is}
use Rattle.manual.proofs.Ready.{Ready, on, next_one}

-- the row of a byte with V given: C and H kept
result_row : (s x : ℕ) (v : Bool) → s < 256 → x < 256
    → row s kept kept kept (is (x ! 7 ⊕ v)) (is v) (is (x ! 7)) (is (zero8 x)) kept ≡ znvs s (eqb x 0) (leb 128 x) v
result_row s x v h hx = rw (row_znvs, zero8_is x hx, bit7 x hx)

-- bit b, counted modulo 8 or not
pub bit_is : (x b : ℕ) → b < 8 → bit x b ≡ x ! b
unfolding bit
bit_is x b h = let e : b % 8 ≡ b = omega arith in rw e

-- what the page of BSET does to inhibit, under a rule
sei_is : (chip sei : Bool) (j : Core) → pick (not chip || not sei) j (with_inhibit j true) ≡ with_inhibit j ((sei && chip) || j.inhibit)
unfolding with_inhibit
sei_is true true j = refl
sei_is true false j = refl
sei_is false true j = refl
sei_is false false j = refl

module _ (k : Core) (w : Ready k) where
  -- a byte x into register d, as each page of a logical operation has it
  resulted_is : (d x : ℕ) (v : Bool) → x < 256
      → with_sreg (with_reg (next k 1 1) d x) (row k.sreg kept kept kept (is (x ! 7 ⊕ v)) (is v) (is (x ! 7)) (is (zero8 x)) kept) ≡ resulted (on k) d x v
  unfolding with_pc with_reg
  resulted_is d x v h = rw (next_one k w, result_row k.sreg x v w.sound.sreg_lt h)

  pub and_is : (d r : ℕ) → and k d r ≡ and_of (on k) d (reg k r)
  unfolding and with_pc
  and_is d r = resulted_is d (bit_and (reg k d) (reg k r)) false (and_lt 8 (reg k d) (reg k r) (w.sound.reg_lt d) (w.sound.reg_lt r))

  pub andi_is : (d K : ℕ) → K < 256 → andi k d K ≡ and_of (on k) d K
  unfolding andi with_pc
  andi_is d K h = resulted_is d (bit_and (reg k d) K) false (and_lt 8 (reg k d) K (w.sound.reg_lt d) h)

  pub or_is : (d r : ℕ) → or k d r ≡ or_of (on k) d (reg k r)
  unfolding or with_pc
  or_is d r = resulted_is d (bit_or (reg k d) (reg k r)) false (or_lt 8 (reg k d) (reg k r) (w.sound.reg_lt d) (w.sound.reg_lt r))

  pub ori_is : (d K : ℕ) → K < 256 → ori k d K ≡ or_of (on k) d K
  unfolding ori with_pc
  ori_is d K h = resulted_is d (bit_or (reg k d) K) false (or_lt 8 (reg k d) K (w.sound.reg_lt d) h)

  pub eor_is : (d r : ℕ) → eor k d r ≡ eor_of (on k) d (reg k r)
  unfolding eor with_pc
  eor_is d r = resulted_is d (bit_xor (reg k d) (reg k r)) false (xor_lt 8 (reg k d) (reg k r) (w.sound.reg_lt d) (w.sound.reg_lt r))

  -- ---- INC at 0x7F and DEC at 0x80 overflow
  pub inc_is : (d : ℕ) → inc k d ≡ inc_of (on k) d
  unfolding inc with_pc
  inc_is d =
      let a = reg k d in
      let v =
      tests_agree 256 (λ a. let R = (a + 1) % 256 in R ! 7 • bar (R ! 6) • bar (R ! 5) • bar (R ! 4) • bar (R ! 3) • bar (R ! 2) • bar (R ! 1) • bar (R ! 0)) (λ a. eqb a 127) tt a (w.sound.reg_lt d) in
      rw v (resulted_is d ((a + 1) % 256) (eqb a 127) (omega arith))

  pub dec_is : (d : ℕ) → dec k d ≡ dec_of (on k) d
  unfolding dec with_pc
  dec_is d =
      let a = reg k d in
      let e : (a + 256 - 1) % 256 ≡ (a + 255) % 256 = omega arith in
      let v = tests_agree 256 (λ a. let R = (a + 255) % 256 in bar (R ! 7) • R ! 6 • R ! 5 • R ! 4 • R ! 3 • R ! 2 • R ! 1 • R ! 0) (λ a. eqb a 128) tt a (w.sound.reg_lt d) in
      rw (e, v) (resulted_is d ((a + 255) % 256) (eqb a 128) (omega arith))

  pub com_is : (d : ℕ) → «com» k d ≡ com_of (on k) d
  unfolding «com» with_pc with_reg
  com_is d =
      let h = w.sound.sreg_lt in
      let x = 255 - reg k d in
      let hx : x < 256 = omega arith in
      rw (next_one k w, row_cznvs, zero8_is x hx, bit7 x hx)

  -- ---- shifts: the top bit is given, C is bit 0 and V is N ⊕ C
  shift_is : (d : ℕ) (top : Bool) (x : ℕ) → x ≡ reg k d / 2 + one top * 128
      → let N = x ! 7 in let C = reg k d ! 0 in
      with_sreg (with_reg (next k 1 1) d x) (row k.sreg kept kept kept (is (N ⊕ (N ⊕ C))) (is (N ⊕ C)) (is N) (is (zero8 x)) (is C)) ≡ shifted (on k) d top
  unfolding with_pc with_reg bit
  shift_is d top x e =
      let h = w.sound.sreg_lt in
      let ha = w.sound.reg_lt d in
      let l = one_le top in
      let y = reg k d / 2 + one top * 128 in
      let hy : y < 256 = omega arith in
      rw (next_one k w, e, row_cznvs, zero8_is y hy, bit7 y hy, xor_is (leb 128 y) (reg k d ! 0))

  pub asr_is : (d : ℕ) → asr k d ≡ asr_of (on k) d
  unfolding asr with_pc
  asr_is d =
      let a = reg k d in
      let e = bit7 a (w.sound.reg_lt d) in
      let l = one_le (leb 128 a) in
      shift_is d (leb 128 a) (one (a ! 7) * 128 + a / 2) (rw e (omega arith))

  pub ror_is : (d : ℕ) → ror k d ≡ ror_of (on k) d
  unfolding ror with_pc bit
  ror_is d = let l = one_le (k.sreg ! 0) in shift_is d (k.sreg ! 0) (carry k * 128 + reg k d / 2) (omega arith)

  -- N is 0
  pub lsr_is : (d : ℕ) → lsr k d ≡ lsr_of (on k) d
  unfolding lsr with_pc with_reg bit
  lsr_is d =
      let h = w.sound.sreg_lt in
      let ha = w.sound.reg_lt d in
      let y = reg k d / 2 in
      let n : leb 128 y ≡ false = lt-leb 128 y (omega arith) in
      rw (next_one k w, row_cznvs, add-zero y, zero8_is y (omega arith), n, ← xor_is false (reg k d ! 0))

  -- ---- single bits
  pub bclr_is : (s : ℕ) → s < 8 → bclr k s ≡ bclr_of (on k) s
  unfolding bclr with_pc
  bclr_is s h = rw (next_one k w, bit_to_lem false k.sreg s w.sound.sreg_lt h)

  pub bset_is : (s : ℕ) → s < 8 → bset (base k.chip) k s ≡ bset_of (on k) s
  unfolding bset with_pc
  bset_is s h =
      rw (next_one k w, bit_to_lem true k.sreg s w.sound.sreg_lt h) (sei_is k.chip (eqb s 7) (with_sreg (on k) (put k.sreg s true)))

  pub bld_is : (d b : ℕ) → b < 8 → bld k d b ≡ bld_of (on k) d b
  unfolding bld with_pc with_reg bit
  bld_is d b h = rw (next_one k w, bit_to_lem (k.sreg ! 6) (reg k d) b (w.sound.reg_lt d) h)

  pub bst_is : (d b : ℕ) → b < 8 → bst k d b ≡ bst_of (on k) d b
  unfolding bst with_pc
  bst_is d b h = rw (next_one k w, row_t (reg k d ! b) k.sreg w.sound.sreg_lt, bit_is (reg k d) b h)
