-- The pages of two registers are the port's: ADIW with the V of the core's rule, SBIW, and the products.
-- Assumes nothing.
use mathlib.Core.Path.{◌≡◌, refl, ap, ◌∙◌}
use mathlib.Core.Bool.{Bool, true, false}
use Prim.Native.Nat.{ℕ, ◌+◌, ◌*◌, ◌%◌, ◌-◌, ◌<◌}
use native.Mathlib.Omega.{arith}
use Rattle.basis.specs.Pick.{pick}
use Rattle.bits.proofs.Tops.{bit7, bit15, bit16, high7, clear}
use Rattle.bits.proofs.Carries.{carry16, borrow16}
use Rattle.bits.proofs.Products.{both_signed, first_signed}
use Rattle.alu.specs.Alu.{product_of, signed_of}
use Rattle.rule.specs.Rule.{old_bit_clear}
use Rattle.cores.specs.declared.Core.{Core}
use Rattle.cores.specs.State.{reg, with_reg, with_word, with_sreg, with_busy, with_pc}
use Rattle.cores.specs.Arithmetic.{adiw_of, sbiw_of, multiplied, fractional, mul_of, muls_of, mulsu_of, fmul_of, fmuls_of, fmulsu_of}
use Rattle.cores.proofs.Bounds.{word_lt}
use Rattle.manual.specs.Notation.{◌!◌, bar, zero16, kept, is, row, next}
use Rattle.manual.specs.Switches.{adiw_v, base}
use Rattle.manual.specs.AdcToCpse.{adiw}
use Rattle.manual.specs.DecToLsr.{fmul, fmuls, fmulsu}
use Rattle.manual.specs.MovToRor.{mul, muls, mulsu}
use Rattle.manual.specs.SbcToWdr.{sbiw}
use Rattle.manual.proofs.Rows.{row_cznvs, row_cz, zero16_is}
use Rattle.manual.proofs.Ready.{Ready, on, next_busy}

low_byte : (h l : ℕ) → l < 256 → (h * 256 + l) % 256 ≡ l
low_byte h l a = omega arith

-- the old bit that ADIW's V looks at is clear, in a word of the bytes h and l
old_bit : (chip : Bool) (h l : ℕ) → h < 256 → l < 256 → bar (pick (base chip adiw_v) (l ! 7) (h ! 7)) ≡ old_bit_clear chip (h * 256 + l)
old_bit true h l hh hl = ap bar (high7 h l hh hl) ∙ clear 32768 (h * 256 + l)
old_bit false h l hh hl = rw (bit7 l hl, clear 128 l, low_byte h l hl)

module _ (k : Core) (w : Ready k) where
  pub adiw_is : (d K : ℕ) → K < 64 → adiw (base k.chip) k d K ≡ adiw_of (on k) d K
  unfolding adiw with_pc with_reg with_busy
  adiw_is d n hn =
      let s = w.sound.sreg_lt in
      let h = reg k (d + 1) in
      let l = reg k d in
      let hh = w.sound.reg_lt (d + 1) in
      let hl = w.sound.reg_lt d in
      let a = h * 256 + l in
      let ha : a < 65536 = word_lt k.regs d w.sound.reg_lt in
      let x = (a + n) % 65536 in
      let hx : x < 65536 = omega arith in
      rw (next_busy k w, row_cznvs, old_bit k.chip h l hh hl, bit15 x hx, high7 h l hh hl, carry16 a n ha hn, zero16_is x hx)

  pub sbiw_is : (d K : ℕ) → K < 64 → sbiw k d K ≡ sbiw_of (on k) d K
  unfolding sbiw with_pc with_reg with_busy
  sbiw_is d n hn =
      let s = w.sound.sreg_lt in
      let h = reg k (d + 1) in
      let l = reg k d in
      let hh = w.sound.reg_lt (d + 1) in
      let hl = w.sound.reg_lt d in
      let a = h * 256 + l in
      let ha : a < 65536 = word_lt k.regs d w.sound.reg_lt in
      let x = (a + 65536 - n) % 65536 in
      let hx : x < 65536 = omega arith in
      rw (next_busy k w, row_cznvs, bit15 x hx, high7 h l hh hl, borrow16 a n ha hn, zero16_is x hx, clear 32768 x)

  -- ---- products
  product_is : (R x : ℕ) → R ≡ x → x < 65536
      → with_sreg (with_word (next k 1 2) 0 R) (row k.sreg kept kept kept kept kept kept (is (zero16 R)) (is (R ! 15))) ≡ multiplied (on k) x
  unfolding with_pc with_busy with_reg
  product_is R x e hx = let h = w.sound.sreg_lt in rw (next_busy k w, row_cz, e, zero16_is x hx, bit15 x hx)

  fraction_is : (R x : ℕ) → R ≡ x → x < 65536
      → with_sreg (with_word (next k 1 2) 0 (R * 2 % 65536)) (row k.sreg kept kept kept kept kept kept (is (zero16 (R * 2 % 65536))) (is (R * 2 ! 16))) ≡ fractional (on k) x
  unfolding with_pc with_busy with_reg
  fraction_is R x e hx = let h = w.sound.sreg_lt in rw (next_busy k w, row_cz, e, zero16_is (x * 2 % 65536) (omega arith), bit16 x hx)

  module _ (d r : ℕ) where
    abbrev a : ℕ
    a = reg k d

    abbrev b : ℕ
    b = reg k r

    abbrev ha : a < 256
    ha = w.sound.reg_lt d

    abbrev hb : b < 256
    hb = w.sound.reg_lt r

    pub mul_is : mul k d r ≡ mul_of (on k) d r
    unfolding mul with_pc
    mul_is = product_is (a * b % 65536) (product_of a b) refl (omega arith)

    pub muls_is : muls k d r ≡ muls_of (on k) d r
    unfolding muls with_pc
    muls_is = product_is _ (product_of (signed_of a) (signed_of b)) (both_signed a b ha hb) (omega arith)

    pub mulsu_is : mulsu k d r ≡ mulsu_of (on k) d r
    unfolding mulsu with_pc
    mulsu_is = product_is _ (product_of (signed_of a) b) (first_signed a b ha hb) (omega arith)

    pub fmul_is : fmul k d r ≡ fmul_of (on k) d r
    unfolding fmul with_pc
    fmul_is = fraction_is (a * b % 65536) (product_of a b) refl (omega arith)

    pub fmuls_is : fmuls k d r ≡ fmuls_of (on k) d r
    unfolding fmuls with_pc
    fmuls_is = fraction_is _ (product_of (signed_of a) (signed_of b)) (both_signed a b ha hb) (omega arith)

    pub fmulsu_is : fmulsu k d r ≡ fmulsu_of (on k) d r
    unfolding fmulsu with_pc
    fmulsu_is = fraction_is _ (product_of (signed_of a) b) (first_signed a b ha hb) (omega arith)
