-- asr to swap of the Rust are the port's. cbi and sbi panic where their byte is not in data, the others never.
-- Assumes nothing.
use mathlib.Core.Path.{◌≡◌, refl, ◌∙◌}
use mathlib.Core.Bool.{Bool, true, false, ◌&&◌}
use Prim.Native.Nat.{ℕ, ◌+◌, ◌*◌, ◌/◌, ◌%◌, ◌<◌}
use native.Mathlib.Omega.{arith}
use lib.Dec.{eqb, ltb, leb}
use lib.Bits.{bit_or, or_shifted_r}
use lib.ListN.{get_or, length}
use borrow.Author.Tests.{lt-ltb, lt-leb, ne_eqb}
use Rattle.basis.specs.Pick.{pick}
use Rattle.basis.specs.Bit.{one, bit, put}
use Rattle.basis.proofs.Bits.{one_le, or_put, and_put}
use Rattle.basis.proofs.Every.{agreed}
use Rattle.basis.specs.Bytes.{Bytes}
use Rattle.bits.proofs.Tops.{bit7}
use Rattle.memory.specs.Memory.{bit_set_of}
use Rattle.rule.specs.Rule.{bset_inhibits}
use Rattle.cores.specs.State.{Sound, reg, with_reg, with_inhibit, flag}
use Rattle.cores.specs.Bits.{asr_of, bclr_of, bld_of, bset_of, bst_of, lsr_of, ror_of, swap_of}
use Rattle.source.specs.Monad.{Self, ok, panic, with_core, with_ds, if'◌then◌else◌}
use Rattle.source.specs.Integers.{u8_as_i8, signed_as_u8, halved}
use Rattle.source.specs.Registers.{ds_read, ds_write, ds_set_bit}
use Rattle.source.specs.Bits.{asr, bclr, bld, bset, bst, cbi, lsr, ror, sbi, swap}
use Rattle.source.proofs.Steps.{leaves, after_pick, twice}
use Rattle.source.proofs.Registers.{get_ok, set_ok, flag_ok, put_ok, cznvs_ok, and_flag, xor_is}

-- `((Rd as i8) >> 1) as u8`
asr_value : (a : ℕ) → a < 256 → signed_as_u8 (halved (u8_as_i8 a) 1) ≡ a / 2 + one (leb 128 a) * 128
asr_value a h = agreed 256 1 (λ a _. signed_as_u8 (halved (u8_as_i8 a) 1)) (λ a _. a / 2 + one (leb 128 a) * 128) tt a 0 h (omega arith)

-- `R |= 0x80` where C is set
ror_value : (c : Bool) (a : ℕ) → a < 256 → (if' c then bit_or (a / 2) 128 else a / 2) ≡ a / 2 + one c * 128
ror_value true a h = or_shifted_r 1 7 (a / 2) (omega arith) ∙ omega arith
ror_value false a h = omega arith

-- under source BSET sets no inhibit
no_safe_instruction : {chip : Bool} (b : ℕ) → chip ≡ false → bset_inhibits chip b ≡ false
no_safe_instruction b c = rw c (never (eqb b 7))
  where
    never : (sei : Bool) → sei && false ≡ false
    never true = refl
    never false = refl

module _ (s : Self) (w : Sound s.core) where
  pub asr_is : (d : ℕ) → d < 32 → asr d s ≡ leaves s (asr_of s.core d)
  unfolding asr with_reg bit
  asr_is d hd =
      let e = w.count in
      let g = w.sreg_lt in
      let a = reg s.core d in
      let ha = w.reg_lt d in
      let l = one_le (leb 128 a) in
      let x = a / 2 + one (leb 128 a) * 128 in
      rw (get_ok s d, set_ok s d, cznvs_ok, asr_value a ha, bit7 x (omega arith), xor_is (leb 128 x) (bit a 0))

  pub bclr_is : (b : ℕ) → b < 8 → bclr b s ≡ leaves s (bclr_of s.core b)
  unfolding bclr
  bclr_is b hb = rw (lt-ltb b 8 hb, put_ok s b false w.sreg_lt hb)

  bld_by : (d b : ℕ) (t : Bool) → flag s.core 6 ≡ t → d < 32 → b < 8 → bld d b s ≡ leaves s (with_reg s.core d (put (reg s.core d) b t))
  unfolding bld
  bld_by d b true f hd hb =
      let e = w.count in
      rw (flag_ok s 6 w.sreg_lt (omega arith), f, get_ok s d, lt-ltb b 8 hb, set_ok s d, or_put (reg s.core d) b (w.reg_lt d) hb)
  bld_by d b false f hd hb =
      let e = w.count in
      rw (flag_ok s 6 w.sreg_lt (omega arith), f, get_ok s d, lt-ltb b 8 hb, set_ok s d, and_put (reg s.core d) b (w.reg_lt d) hb)

  pub bld_is : (d b : ℕ) → d < 32 → b < 8 → bld d b s ≡ leaves s (bld_of s.core d b)
  bld_is d b hd hb = bld_by d b (flag s.core 6) refl hd hb

  -- under source
  pub bset_is : s.core.chip ≡ false → (b : ℕ) → b < 8 → bset b s ≡ leaves s (bset_of s.core b)
  unfolding bset with_inhibit
  bset_is c b hb = rw (lt-ltb b 8 hb, put_ok s b true w.sreg_lt hb, no_safe_instruction b c)

  pub bst_is : (d b : ℕ) → d < 32 → b < 8 → bst d b s ≡ leaves s (bst_of s.core d b)
  unfolding bst
  bst_is d b hd hb =
      let e = w.count in
      let a = reg s.core d in
      rw (get_ok s d, lt-ltb b 8 hb, and_flag a b (w.reg_lt d) hb) (put_ok s 6 (bit a b) w.sreg_lt (omega arith))

  -- A is below 32, so it names neither SREG nor SP
  pub cbi_is : (A b : ℕ) → Bytes s.ds → A < 32 → b < 8 → cbi A b s ≡ pick (ltb A (length s.ds)) (ok tt (with_ds s (bit_set_of s.ds A b false))) panic
  unfolding cbi ds_set_bit ds_read ds_write
  cbi_is A b m hA hb =
      simp (ne_eqb A 63 (omega arith), ne_eqb A 62 (omega arith), ne_eqb A 61 (omega arith), lt-ltb b 8 hb, after_pick, twice, and_put (get_or s.ds A 0) b (m.byte_lt A) hb)

  pub lsr_is : (d : ℕ) → d < 32 → lsr d s ≡ leaves s (lsr_of s.core d)
  unfolding lsr with_reg bit
  lsr_is d hd =
      let e = w.count in
      let g = w.sreg_lt in
      let a = reg s.core d in
      let ha = w.reg_lt d in
      let f : a / 2 + 0 * 128 ≡ a / 2 = omega arith in
      rw (get_ok s d, set_ok s d, cznvs_ok (with_core s (with_reg s.core d (a / 2))) (bit a 0) (eqb (a / 2) 0) false (bit a 0) g, f, lt-leb 128 (a / 2) (omega arith), ← xor_is false (bit a 0))

  pub ror_is : (d : ℕ) → d < 32 → ror d s ≡ leaves s (ror_of s.core d)
  unfolding ror with_reg bit
  ror_is d hd =
      let e = w.count in
      let g = w.sreg_lt in
      let a = reg s.core d in
      let ha = w.reg_lt d in
      let c = flag s.core 0 in
      let l = one_le c in
      let x = a / 2 + one c * 128 in
      rw (get_ok s d, flag_ok s 0 g (omega arith), set_ok s d, cznvs_ok, ror_value c a ha, bit7 x (omega arith), xor_is (leb 128 x) (bit a 0))

  pub sbi_is : (A b : ℕ) → Bytes s.ds → A < 32 → b < 8 → sbi A b s ≡ pick (ltb A (length s.ds)) (ok tt (with_ds s (bit_set_of s.ds A b true))) panic
  unfolding sbi ds_set_bit ds_read ds_write
  sbi_is A b m hA hb =
      simp (ne_eqb A 63 (omega arith), ne_eqb A 62 (omega arith), ne_eqb A 61 (omega arith), lt-ltb b 8 hb, after_pick, twice, or_put (get_or s.ds A 0) b (m.byte_lt A) hb)

  pub swap_is : (d : ℕ) → d < 32 → swap d s ≡ leaves s (swap_of s.core d)
  unfolding swap
  swap_is d hd =
      let e = w.count in
      let a = reg s.core d in
      let f : a * 16 % 256 ≡ a % 16 * 16 = omega arith in
      rw (get_ok s d, f, set_ok s d)
