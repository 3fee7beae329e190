-- mul, muls, mulsu, fmul, fmuls and fmulsu of the Rust are the port's. No product overflows.
-- Assumes nothing.
use mathlib.Core.Path.{◌≡◌}
use Prim.Native.Nat.{ℕ, ◌*◌, ◌%◌, ◌<◌}
use native.Mathlib.Omega.{arith}
use lib.IntN.{pos, ◌*ℤ◌}
use borrow.Author.Tests.{lt-ltb}
use lib.ListN.{length}
use Rattle.basis.proofs.Products.{product_lt}
use Rattle.alu.specs.Alu.{signed_of, product_of}
use Rattle.bits.proofs.Tops.{bit15}
use Rattle.cores.specs.State.{Sound, reg, with_reg, with_busy}
use Rattle.cores.specs.Arithmetic.{fmul_of, fmuls_of, fmulsu_of, mul_of, muls_of, mulsu_of}
use Rattle.source.specs.Monad.{Self}
use Rattle.source.specs.Integers.{u8_as_i8}
use Rattle.source.specs.Arithmetic.{fmul, fmuls, fmulsu, mul, muls, mulsu}
use Rattle.source.proofs.Steps.{leaves}
use Rattle.source.proofs.Registers.{get_ok, set_word_ok, cz_ok}
use Rattle.source.proofs.Signed.{value_ss, value_su, range_ss, range_su, zero_is, value_shl, zero_shl}

-- what each multiply asks of the core: 32 registers, SREG and the two operands a byte each
module _ (s : Self) (d r : ℕ) (hd : d < 32) (hr : r < 32) (e : length s.core.regs ≡ 32) (g : s.core.sreg < 256) (l : 0 < 31)
    (ha : reg s.core d < 256) (hb : reg s.core r < 256) where
  abbrev a : ℕ
  a = reg s.core d

  abbrev b : ℕ
  b = reg s.core r

  fmul_by : fmul d r s ≡ leaves s (fmul_of s.core d r)
  unfolding fmul with_reg with_busy
  fmul_by =
      let h : a * b < 65536 = product_lt 8 ha hb in
      let f : a * b % 65536 ≡ a * b = omega arith in
      rw (get_ok _ d, get_ok _ r, lt-ltb (a * b) 65536 h, set_word_ok, cz_ok, f, bit15 (a * b) h)

  fmuls_by : fmuls d r s ≡ leaves s (fmuls_of s.core d r)
  unfolding fmuls with_reg with_busy
  fmuls_by =
      let word = u8_as_i8 a *ℤ u8_as_i8 b in
      rw (get_ok _ d, get_ok _ r, range_ss a b ha hb, zero_shl word, value_shl word, value_ss a b ha hb, set_word_ok, cz_ok, bit15 (product_of (signed_of a) (signed_of b)) (omega arith))

  fmulsu_by : fmulsu d r s ≡ leaves s (fmulsu_of s.core d r)
  unfolding fmulsu with_reg with_busy
  fmulsu_by =
      let word = u8_as_i8 a *ℤ pos b in
      rw (get_ok _ d, get_ok _ r, range_su a b ha hb, zero_shl word, value_shl word, value_su a b ha hb, set_word_ok, cz_ok, bit15 (product_of (signed_of a) b) (omega arith))

  mul_by : mul d r s ≡ leaves s (mul_of s.core d r)
  unfolding mul with_reg with_busy
  mul_by =
      let h : a * b < 65536 = product_lt 8 ha hb in
      let f : a * b % 65536 ≡ a * b = omega arith in
      rw (get_ok _ d, get_ok _ r, lt-ltb (a * b) 65536 h, set_word_ok, cz_ok, f, bit15 (a * b) h)

  muls_by : muls d r s ≡ leaves s (muls_of s.core d r)
  unfolding muls with_reg with_busy
  muls_by =
      let word = u8_as_i8 a *ℤ u8_as_i8 b in
      rw (get_ok _ d, get_ok _ r, range_ss a b ha hb, zero_is word (range_ss a b ha hb), value_ss a b ha hb, set_word_ok, cz_ok, bit15 (product_of (signed_of a) (signed_of b)) (omega arith))

  mulsu_by : mulsu d r s ≡ leaves s (mulsu_of s.core d r)
  unfolding mulsu with_reg with_busy
  mulsu_by =
      let word = u8_as_i8 a *ℤ pos b in
      rw (get_ok _ d, get_ok _ r, range_su a b ha hb, zero_is word (range_su a b ha hb), value_su a b ha hb, set_word_ok, cz_ok, bit15 (product_of (signed_of a) b) (omega arith))

module _ (s : Self) (w : Sound s.core) where
  pub fmul_is : (d r : ℕ) → d < 32 → r < 32 → fmul d r s ≡ leaves s (fmul_of s.core d r)
  fmul_is d r hd hr = fmul_by s d r hd hr w.count w.sreg_lt (omega arith) (w.reg_lt d) (w.reg_lt r)

  pub fmuls_is : (d r : ℕ) → d < 32 → r < 32 → fmuls d r s ≡ leaves s (fmuls_of s.core d r)
  fmuls_is d r hd hr = fmuls_by s d r hd hr w.count w.sreg_lt (omega arith) (w.reg_lt d) (w.reg_lt r)

  pub fmulsu_is : (d r : ℕ) → d < 32 → r < 32 → fmulsu d r s ≡ leaves s (fmulsu_of s.core d r)
  fmulsu_is d r hd hr = fmulsu_by s d r hd hr w.count w.sreg_lt (omega arith) (w.reg_lt d) (w.reg_lt r)

  pub mul_is : (d r : ℕ) → d < 32 → r < 32 → mul d r s ≡ leaves s (mul_of s.core d r)
  mul_is d r hd hr = mul_by s d r hd hr w.count w.sreg_lt (omega arith) (w.reg_lt d) (w.reg_lt r)

  pub muls_is : (d r : ℕ) → d < 32 → r < 32 → muls d r s ≡ leaves s (muls_of s.core d r)
  muls_is d r hd hr = muls_by s d r hd hr w.count w.sreg_lt (omega arith) (w.reg_lt d) (w.reg_lt r)

  pub mulsu_is : (d r : ℕ) → d < 32 → r < 32 → mulsu d r s ≡ leaves s (mulsu_of s.core d r)
  mulsu_is d r hd hr = mulsu_by s d r hd hr w.count w.sreg_lt (omega arith) (w.reg_lt d) (w.reg_lt r)
