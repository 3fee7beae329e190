-- adc to subi of the Rust are the port's, but for products and differences. No handler here panics.
-- Assumes nothing.
use mathlib.Core.Path.{◌≡◌}
use mathlib.Core.Bool.{false}
use Prim.Native.Nat.{ℕ, ◌+◌, ◌%◌, ◌-◌, ◌<◌}
use native.Mathlib.Omega.{arith}
use native.Mathlib.Nat.{add-zero}
use lib.Dec.{leb}
use lib.Bits.{bit_and, bit_or, bit_xor, and_lt, or_lt, xor_lt}
use Rattle.basis.specs.Bit.{one, bit}
use Rattle.alu.specs.Alu.{plus_of}
use Rattle.bits.proofs.Tops.{bit7, bit15}
use Rattle.bits.proofs.Carries.{over_add, half_add}
use Rattle.cores.specs.State.{Sound, reg, word, with_reg, with_busy, flag}
use Rattle.cores.specs.Arithmetic.{adc_of, add_of, adiw_of, and_of, com_of, dec_of, eor_of, inc_of, neg_of, or_of, sbiw_of}
use Rattle.cores.proofs.Bounds.{word_lt}
use Rattle.source.specs.Monad.{Self}
use Rattle.source.specs.Arithmetic.{adc, add, adiw, and, andi, «com», dec, eor, inc, neg, or, ori, sbiw}
use Rattle.source.proofs.Steps.{leaves}
use Rattle.source.proofs.Registers.{get_ok, set_ok, get_word_ok, set_word_ok, flag_ok, znvs_ok, cznvs_ok, cznvsh_ok}
use Rattle.source.proofs.Sums.{low7, top_clear, half_plain, value_add, carry_add}

module _ (s : Self) (w : Sound s.core) where
  pub adc_is : (d r : ℕ) → d < 32 → r < 32 → adc d r s ≡ leaves s (adc_of s.core d r)
  unfolding adc with_reg plus_of
  adc_is d r hd hr =
      let e = w.count in
      let g = w.sreg_lt in
      let a = reg s.core d in
      let b = reg s.core r in
      let c = flag s.core 0 in
      let x = (a + b + one c) % 256 in
      rw (
        get_ok s d,
        get_ok s r,
        flag_ok s 0 g (omega arith),
        set_ok s d,
        cznvsh_ok,
        carry_add c a b (w.reg_lt d) (w.reg_lt r),
        value_add c a b,
        half_add c a b,
        bit7 a (w.reg_lt d),
        bit7 b (w.reg_lt r),
        bit7 x (omega arith),
        over_add (leb 128 a) (leb 128 b) (leb 128 x),
      )

  pub add_is : (d r : ℕ) → d < 32 → r < 32 → add d r s ≡ leaves s (add_of s.core d r)
  unfolding add with_reg plus_of
  add_is d r hd hr =
      let e = w.count in
      let g = w.sreg_lt in
      let a = reg s.core d in
      let b = reg s.core r in
      let x = (a + b) % 256 in
      rw (
        get_ok s d,
        get_ok s r,
        set_ok s d,
        cznvsh_ok,
        add-zero (a + b),
        half_plain a b,
        bit7 a (w.reg_lt d),
        bit7 b (w.reg_lt r),
        bit7 x (omega arith),
        over_add (leb 128 a) (leb 128 b) (leb 128 x),
      )

  -- under source
  pub adiw_is : s.core.chip ≡ false → (d K : ℕ) → d < 31 → adiw d K s ≡ leaves s (adiw_of s.core d K)
  unfolding adiw with_reg with_busy
  adiw_is c d K hd =
      let e = w.count in
      let g = w.sreg_lt in
      let a = word s.core d in
      rw (get_word_ok, set_word_ok, cznvs_ok, bit15 ((a + K) % 65536) (omega arith), low7 a, c)

  -- ---- AND, ANDI, EOR, OR, ORI
  pub and_is : (d r : ℕ) → d < 32 → r < 32 → and d r s ≡ leaves s (and_of s.core d (reg s.core r))
  unfolding and with_reg
  and_is d r hd hr =
      let e = w.count in
      let g = w.sreg_lt in
      let a = reg s.core d in
      let b = reg s.core r in
      rw (get_ok s d, get_ok s r, set_ok s d, znvs_ok, bit7 (bit_and a b) (and_lt 8 a b (w.reg_lt d) (w.reg_lt r)))

  pub andi_is : (d K : ℕ) → d < 32 → K < 256 → andi d K s ≡ leaves s (and_of s.core d K)
  unfolding andi with_reg
  andi_is d K hd hK =
      let e = w.count in
      let g = w.sreg_lt in
      let a = reg s.core d in
      rw (get_ok s d, set_ok s d, znvs_ok, bit7 (bit_and a K) (and_lt 8 a K (w.reg_lt d) hK))

  pub eor_is : (d r : ℕ) → d < 32 → r < 32 → eor d r s ≡ leaves s (eor_of s.core d (reg s.core r))
  unfolding eor with_reg
  eor_is d r hd hr =
      let e = w.count in
      let g = w.sreg_lt in
      let a = reg s.core d in
      let b = reg s.core r in
      rw (get_ok s d, get_ok s r, set_ok s d, znvs_ok, bit7 (bit_xor a b) (xor_lt 8 a b (w.reg_lt d) (w.reg_lt r)))

  pub or_is : (d r : ℕ) → d < 32 → r < 32 → or d r s ≡ leaves s (or_of s.core d (reg s.core r))
  unfolding or with_reg
  or_is d r hd hr =
      let e = w.count in
      let g = w.sreg_lt in
      let a = reg s.core d in
      let b = reg s.core r in
      rw (get_ok s d, get_ok s r, set_ok s d, znvs_ok, bit7 (bit_or a b) (or_lt 8 a b (w.reg_lt d) (w.reg_lt r)))

  pub ori_is : (d val : ℕ) → d < 32 → val < 256 → ori d val s ≡ leaves s (or_of s.core d val)
  unfolding ori with_reg
  ori_is d val hd hv =
      let e = w.count in
      let g = w.sreg_lt in
      let a = reg s.core d in
      rw (get_ok s d, set_ok s d, znvs_ok, bit7 (bit_or a val) (or_lt 8 a val (w.reg_lt d) hv))

  -- ---- one operand
  pub com_is : (d : ℕ) → d < 32 → «com» d s ≡ leaves s (com_of s.core d)
  unfolding «com» with_reg
  com_is d hd =
      let e = w.count in
      let g = w.sreg_lt in
      let a = reg s.core d in
      rw (get_ok s d, set_ok s d, cznvs_ok, bit7 (255 - a) (omega arith))

  pub dec_is : (d : ℕ) → d < 32 → dec d s ≡ leaves s (dec_of s.core d)
  unfolding dec with_reg
  dec_is d hd =
      let e = w.count in
      let g = w.sreg_lt in
      let a = reg s.core d in
      let f : (a + 256 - 1) % 256 ≡ (a + 255) % 256 = omega arith in
      rw (get_ok s d, set_ok s d, znvs_ok, f, bit7 ((a + 255) % 256) (omega arith))

  pub inc_is : (d : ℕ) → d < 32 → inc d s ≡ leaves s (inc_of s.core d)
  unfolding inc with_reg
  inc_is d hd =
      let e = w.count in
      let g = w.sreg_lt in
      let a = reg s.core d in
      rw (get_ok s d, set_ok s d, znvs_ok, bit7 ((a + 1) % 256) (omega arith))

  pub neg_is : (d : ℕ) → d < 32 → neg d s ≡ leaves s (neg_of s.core d)
  unfolding neg with_reg bit
  neg_is d hd =
      let e = w.count in
      let g = w.sreg_lt in
      let a = reg s.core d in
      let ha = w.reg_lt d in
      let f : (255 - a + 1) % 256 ≡ (256 - a) % 256 = omega arith in
      rw (get_ok s d, set_ok s d, cznvsh_ok, f, bit7 ((256 - a) % 256) (omega arith))

  pub sbiw_is : (d K : ℕ) → d < 31 → K < 256 → sbiw d K s ≡ leaves s (sbiw_of s.core d K)
  unfolding sbiw with_reg with_busy
  sbiw_is d K hd hK =
      let e = w.count in
      let g = w.sreg_lt in
      let a = word s.core d in
      let x = (a + 65536 - K) % 65536 in
      let ha : a < 65536 = word_lt s.core.regs d w.reg_lt in
      rw (get_word_ok, set_word_ok, cznvs_ok, bit15 x (omega arith), bit15 a ha, top_clear x (leb 32768 a))
