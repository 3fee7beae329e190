-- sub, subi, sbc, sbci, cp, cpc and cpi of the Rust are the port's: seven differences with one block of flags. None panics.
-- Assumes nothing.
use mathlib.Core.Path.{◌≡◌, sym, ap}
use mathlib.Core.Bool.{Bool, false, not, ◌&&◌, ◌||◌}
use Prim.Native.Nat.{ℕ, ◌+◌, ◌%◌, ◌-◌, ◌<◌}
use native.Mathlib.Omega.{arith}
use native.Mathlib.Nat.{add-zero}
use lib.Dec.{eqb, ltb, leb}
use Rattle.basis.specs.Bit.{one}
use Rattle.alu.specs.Alu.{minus_of}
use Rattle.bits.proofs.Tops.{bit7}
use Rattle.bits.proofs.Carries.{over_sub, half_sub}
use Rattle.cores.specs.declared.Core.{Core}
use Rattle.cores.specs.State.{Sound, reg, with_reg, with_sreg, flag, cznvsh}
use Rattle.cores.specs.Arithmetic.{sum_flags, sub_of, sbc_of}
use Rattle.cores.specs.Flow.{cp_of, cpc_of}
use Rattle.source.specs.Monad.{Self}
use Rattle.source.specs.Integers.{view_bits}
use Rattle.source.specs.Arithmetic.{sub, subi, sbc, sbci}
use Rattle.source.specs.Flow.{cp, cpc, cpi}
use Rattle.source.proofs.Steps.{leaves}
use Rattle.source.proofs.Registers.{get_ok, set_ok, flag_ok, cznvsh_ok}
use Rattle.source.proofs.Sums.{value_sub, carry_sub}

-- a - b - c, as the port has it
abbrev difference : ℕ → ℕ → Bool → ℕ
difference a b c = (a + 512 - (b + one c)) % 256

-- SREG x with the Rust's six flags of a difference r, with C and Z given
abbrev rust_flags : ℕ → Bool → Bool → ℕ → ℕ → ℕ → ℕ
rust_flags x c z a b r =
    cznvsh x c z (view_bits r 7) (view_bits a 7 && not (view_bits b 7) && not (view_bits r 7) || not (view_bits a 7) && view_bits b 7 && view_bits r 7)
    (not (view_bits a 3) && view_bits b 3 || view_bits b 3 && view_bits r 3 || view_bits r 3 && not (view_bits a 3))

flags_are : (k : Core) (a b : ℕ) (c z : Bool) → a < 256 → b < 256
    → rust_flags k.sreg (ltb a (b + one c)) z a b (difference a b c) ≡ sum_flags k (minus_of a b c) z
unfolding minus_of
flags_are k a b c z ha hb =
    let y = difference a b c in
    rw (half_sub c a b hb, bit7 a ha, bit7 b hb, bit7 y (omega arith), over_sub (leb 128 a) (leb 128 b) (leb 128 y))

plain_borrow : (a b : ℕ) → ltb a b ≡ ltb a (b + 0)
plain_borrow a b = ap (ltb a) (sym (add-zero b))

module _ (s : Self) (w : Sound s.core) where
  -- the difference into register d, and nowhere
  into : (d a b : ℕ) (c z : Bool) → a < 256 → b < 256
      → leaves s (with_sreg (with_reg s.core d (difference a b c)) (rust_flags s.core.sreg (ltb a (b + one c)) z a b (difference a b c)))
      ≡ leaves s (with_sreg (with_reg s.core d (difference a b c)) (sum_flags s.core (minus_of a b c) z))
  into d a b c z ha hb = ap (λ (x : ℕ). leaves s (with_sreg (with_reg s.core d (difference a b c)) x)) (flags_are s.core a b c z ha hb)

  nowhere : (a b : ℕ) (c z : Bool) → a < 256 → b < 256
      → leaves s (with_sreg s.core (rust_flags s.core.sreg (ltb a (b + one c)) z a b (difference a b c))) ≡ leaves s (with_sreg s.core (sum_flags s.core (minus_of a b c) z))
  nowhere a b c z ha hb = ap (λ (x : ℕ). leaves s (with_sreg s.core x)) (flags_are s.core a b c z ha hb)

  pub sbc_is : (d r : ℕ) → d < 32 → r < 32 → sbc d r s ≡ leaves s (sbc_of s.core d (reg s.core r))
  unfolding sbc with_reg minus_of
  sbc_is d r hd hr =
      let e = w.count in
      let g = w.sreg_lt in
      let a = reg s.core d in
      let ha = w.reg_lt d in
      let b = reg s.core r in
      let hb = w.reg_lt r in
      let c = flag s.core 0 in
      let l : 1 < 8 = omega arith in
      rw (get_ok s d, get_ok s r, flag_ok s 0 g (omega arith), set_ok s d, flag_ok, cznvsh_ok, carry_sub c a b ha hb, value_sub c a b ha hb)
      (into d a b c (flag s.core 1 && eqb (difference a b c) 0) ha hb)

  pub sbci_is : (d val : ℕ) → d < 32 → val < 256 → sbci d val s ≡ leaves s (sbc_of s.core d val)
  unfolding sbci with_reg minus_of
  sbci_is d b hd hb =
      let e = w.count in
      let g = w.sreg_lt in
      let a = reg s.core d in
      let ha = w.reg_lt d in
      let c = flag s.core 0 in
      let l : 1 < 8 = omega arith in
      rw (get_ok s d, flag_ok s 0 g (omega arith), set_ok s d, flag_ok, cznvsh_ok, carry_sub c a b ha hb, value_sub c a b ha hb)
      (into d a b c (flag s.core 1 && eqb (difference a b c) 0) ha hb)

  pub sub_is : (d r : ℕ) → d < 32 → r < 32 → sub d r s ≡ leaves s (sub_of s.core d (reg s.core r))
  unfolding sub with_reg minus_of
  sub_is d r hd hr =
      let e = w.count in
      let g = w.sreg_lt in
      let a = reg s.core d in
      let ha = w.reg_lt d in
      let b = reg s.core r in
      let hb = w.reg_lt r in
      rw (get_ok s d, get_ok s r, set_ok s d, cznvsh_ok, plain_borrow a b, value_sub false a b ha hb) (into d a b false (eqb (difference a b false) 0) ha hb)

  pub subi_is : (d K : ℕ) → d < 32 → K < 256 → subi d K s ≡ leaves s (sub_of s.core d K)
  unfolding subi with_reg minus_of
  subi_is d b hd hb =
      let e = w.count in
      let g = w.sreg_lt in
      let a = reg s.core d in
      let ha = w.reg_lt d in
      rw (get_ok s d, set_ok s d, cznvsh_ok, plain_borrow a b, value_sub false a b ha hb) (into d a b false (eqb (difference a b false) 0) ha hb)

  -- ---- comparisons
  pub cp_is : (d r : ℕ) → d < 32 → r < 32 → cp d r s ≡ leaves s (cp_of s.core d (reg s.core r))
  unfolding cp minus_of
  cp_is d r hd hr =
      let e = w.count in
      let g = w.sreg_lt in
      let a = reg s.core d in
      let ha = w.reg_lt d in
      let b = reg s.core r in
      let hb = w.reg_lt r in
      rw (get_ok s d, get_ok s r, cznvsh_ok, plain_borrow a b, value_sub false a b ha hb) (nowhere a b false (eqb (difference a b false) 0) ha hb)

  pub cpc_is : (d r : ℕ) → d < 32 → r < 32 → cpc d r s ≡ leaves s (cpc_of s.core d (reg s.core r))
  unfolding cpc minus_of
  cpc_is d r hd hr =
      let e = w.count in
      let g = w.sreg_lt in
      let a = reg s.core d in
      let ha = w.reg_lt d in
      let b = reg s.core r in
      let hb = w.reg_lt r in
      let c = flag s.core 0 in
      let l : 1 < 8 = omega arith in
      rw (get_ok s d, get_ok s r, flag_ok s 0 g (omega arith), flag_ok, cznvsh_ok, carry_sub c a b ha hb, value_sub c a b ha hb)
      (nowhere a b c (flag s.core 1 && eqb (difference a b c) 0) ha hb)

  pub cpi_is : (d K : ℕ) → d < 32 → K < 256 → cpi d K s ≡ leaves s (cp_of s.core d K)
  unfolding cpi minus_of
  cpi_is d b hd hb =
      let e = w.count in
      let g = w.sreg_lt in
      let a = reg s.core d in
      let ha = w.reg_lt d in
      rw (get_ok s d, cznvsh_ok, plain_borrow a b, value_sub false a b ha hb) (nowhere a b false (eqb (difference a b false) 0) ha hb)
