-- The pages of sums and differences are the port's: ADC ADD, SUB SUBI SBC SBCI, CP CPI CPC, and NEG.
-- Assumes nothing.
use mathlib.Core.Path.{◌≡◌}
use mathlib.Core.Bool.{Bool, false, not, and_comm}
use Prim.Native.Nat.{ℕ, ◌+◌, ◌%◌, ◌-◌, ◌<◌}
use native.Mathlib.Omega.{arith}
use lib.Dec.{eqb, leb}
use Rattle.basis.specs.Bit.{one, bit}
use Rattle.basis.proofs.Bits.{one_le}
use Rattle.bits.proofs.Booleans.{tests_agree}
use Rattle.bits.proofs.Tops.{bit7}
use Rattle.bits.proofs.Carries.{over_add, over_sub, carry_add, carry_sub, half_add, half_sub}
use Rattle.alu.specs.Alu.{plus_of, minus_of}
use Rattle.cores.specs.declared.Core.{Core}
use Rattle.cores.specs.State.{reg, with_reg, with_pc}
use Rattle.cores.specs.Arithmetic.{sum_flags, adc_of, add_of, sub_of, sbc_of, neg_of}
use Rattle.cores.specs.Flow.{cp_of, cpc_of}
use Rattle.manual.specs.Notation.{◌!◌, ◌•◌, ◌⊹◌, ◌⊕◌, bar, kept, is, row}
use Rattle.manual.specs.AdcToCpse.{adc, add, cp, cpc, cpi}
use Rattle.manual.specs.MovToRor.{neg}
use Rattle.manual.specs.SbcToWdr.{sbc, sbci, sub, subi}
use Rattle.manual.proofs.Rows.{row_cznvsh, zero8_is}
use Rattle.manual.proofs.Ready.{Ready, on, next_one}

-- ---- the rows, as the pages have them
abbrev sum_row : ℕ → ℕ → ℕ → ℕ → Bool → ℕ
sum_row s Rd Rr R Z =
    let «V» = Rd ! 7 • Rr ! 7 • bar (R ! 7) ⊹ bar (Rd ! 7) • bar (Rr ! 7) • R ! 7 in
    row s kept kept (is (Rd ! 3 • Rr ! 3 ⊹ Rr ! 3 • bar (R ! 3) ⊹ bar (R ! 3) • Rd ! 3)) (is (R ! 7 ⊕ «V»)) (is «V») (is (R ! 7)) (is Z)
    (is (Rd ! 7 • Rr ! 7 ⊹ Rr ! 7 • bar (R ! 7) ⊹ bar (R ! 7) • Rd ! 7))

abbrev difference_row : ℕ → ℕ → ℕ → ℕ → Bool → ℕ
difference_row s Rd Rr R Z =
    let «V» = Rd ! 7 • bar (Rr ! 7) • bar (R ! 7) ⊹ bar (Rd ! 7) • Rr ! 7 • R ! 7 in
    row s kept kept (is (bar (Rd ! 3) • Rr ! 3 ⊹ Rr ! 3 • R ! 3 ⊹ R ! 3 • bar (Rd ! 3))) (is (R ! 7 ⊕ «V»)) (is «V») (is (R ! 7)) (is Z)
    (is (bar (Rd ! 7) • Rr ! 7 ⊹ Rr ! 7 • R ! 7 ⊹ R ! 7 • bar (Rd ! 7)))

module _ (k : Core) (a b : ℕ) (c : Bool) (hs : k.sreg < 256) (ha : a < 256) (hb : b < 256) where
  sum_row_lem : (z : Bool) → sum_row k.sreg a b ((a + b + one c) % 256) z ≡ sum_flags k (plus_of a b c) z
  unfolding plus_of
  sum_row_lem z =
      let x = (a + b + one c) % 256 in
      rw (row_cznvsh, half_add c a b, bit7 a ha, bit7 b hb, bit7 x (omega arith), carry_add a b (one c) (one_le c) ha hb, over_add (leb 128 a) (leb 128 b) (leb 128 x))

  difference_row_lem : (z : Bool) → difference_row k.sreg a b ((a + 512 - (b + one c)) % 256) z ≡ sum_flags k (minus_of a b c) z
  unfolding minus_of
  difference_row_lem z =
      let x = (a + 512 - (b + one c)) % 256 in
      rw (row_cznvsh, half_sub c a b hb, bit7 a ha, bit7 b hb, bit7 x (omega arith), carry_sub a b (one c) (one_le c) ha hb, over_sub (leb 128 a) (leb 128 b) (leb 128 x))

-- a sum's byte without C
plain : (a b : ℕ) → (a + b) % 256 ≡ (a + b + 0) % 256
plain a b = omega arith

-- a difference's byte, without C and with it
less : (a b : ℕ) → b < 256 → (a + 256 - b) % 256 ≡ (a + 512 - (b + 0)) % 256
less a b h = omega arith

less_carry : (a b : ℕ) (c : Bool) → b < 256 → (a + 256 - b - one c) % 256 ≡ (a + 512 - (b + one c)) % 256
less_carry a b c h = let l = one_le c in omega arith

module _ (k : Core) (w : Ready k) where
  -- ---- sums
  pub adc_is : (d r : ℕ) → adc k d r ≡ adc_of (on k) d r
  unfolding adc plus_of with_pc with_reg bit
  adc_is d r =
      let a = reg k d in
      let b = reg k r in
      let c = k.sreg ! 0 in
      let x = (a + b + one c) % 256 in
      rw (next_one k w, zero8_is x (omega arith), sum_row_lem k a b c w.sound.sreg_lt (w.sound.reg_lt d) (w.sound.reg_lt r))

  pub add_is : (d r : ℕ) → add k d r ≡ add_of (on k) d r
  unfolding add plus_of with_pc with_reg
  add_is d r =
      let a = reg k d in
      let b = reg k r in
      let x = (a + b + 0) % 256 in
      rw (next_one k w, plain a b, zero8_is x (omega arith), sum_row_lem k a b false w.sound.sreg_lt (w.sound.reg_lt d) (w.sound.reg_lt r))

  -- ---- differences
  pub sub_is : (d r : ℕ) → sub k d r ≡ sub_of (on k) d (reg k r)
  unfolding sub minus_of with_pc with_reg
  sub_is d r =
      let a = reg k d in
      let b = reg k r in
      let hb = w.sound.reg_lt r in
      let x = (a + 512 - (b + 0)) % 256 in
      rw (next_one k w, less a b hb, zero8_is x (omega arith), difference_row_lem k a b false w.sound.sreg_lt (w.sound.reg_lt d) hb)

  pub subi_is : (d K : ℕ) → K < 256 → subi k d K ≡ sub_of (on k) d K
  unfolding subi minus_of with_pc with_reg
  subi_is d b hb =
      let a = reg k d in
      let x = (a + 512 - (b + 0)) % 256 in
      rw (next_one k w, less a b hb, zero8_is x (omega arith), difference_row_lem k a b false w.sound.sreg_lt (w.sound.reg_lt d) hb)

  pub cp_is : (d r : ℕ) → cp k d r ≡ cp_of (on k) d (reg k r)
  unfolding cp minus_of with_pc
  cp_is d r =
      let a = reg k d in
      let b = reg k r in
      let hb = w.sound.reg_lt r in
      let x = (a + 512 - (b + 0)) % 256 in
      rw (next_one k w, less a b hb, zero8_is x (omega arith), difference_row_lem k a b false w.sound.sreg_lt (w.sound.reg_lt d) hb)

  pub cpi_is : (d K : ℕ) → K < 256 → cpi k d K ≡ cp_of (on k) d K
  unfolding cpi minus_of with_pc
  cpi_is d b hb =
      let a = reg k d in
      let x = (a + 512 - (b + 0)) % 256 in
      rw (next_one k w, less a b hb, zero8_is x (omega arith), difference_row_lem k a b false w.sound.sreg_lt (w.sound.reg_lt d) hb)

  -- with C, and Z kept or cleared
  pub sbc_is : (d r : ℕ) → sbc k d r ≡ sbc_of (on k) d (reg k r)
  unfolding sbc minus_of with_pc with_reg bit
  sbc_is d r =
      let a = reg k d in
      let b = reg k r in
      let hb = w.sound.reg_lt r in
      let c = k.sreg ! 0 in
      let x = (a + 512 - (b + one c)) % 256 in
      rw (next_one k w, less_carry a b c hb, zero8_is x (omega arith), ← and_comm (eqb x 0) (k.sreg ! 1), difference_row_lem k a b c w.sound.sreg_lt (w.sound.reg_lt d) hb)

  pub sbci_is : (d K : ℕ) → K < 256 → sbci k d K ≡ sbc_of (on k) d K
  unfolding sbci minus_of with_pc with_reg bit
  sbci_is d b hb =
      let a = reg k d in
      let c = k.sreg ! 0 in
      let x = (a + 512 - (b + one c)) % 256 in
      rw (next_one k w, less_carry a b c hb, zero8_is x (omega arith), ← and_comm (eqb x 0) (k.sreg ! 1), difference_row_lem k a b c w.sound.sreg_lt (w.sound.reg_lt d) hb)

  pub cpc_is : (d r : ℕ) → cpc k d r ≡ cpc_of (on k) d (reg k r)
  unfolding cpc minus_of with_pc bit
  cpc_is d r =
      let a = reg k d in
      let b = reg k r in
      let hb = w.sound.reg_lt r in
      let c = k.sreg ! 0 in
      let x = (a + 512 - (b + one c)) % 256 in
      rw (next_one k w, less_carry a b c hb, zero8_is x (omega arith), ← and_comm (eqb x 0) (k.sreg ! 1), difference_row_lem k a b c w.sound.sreg_lt (w.sound.reg_lt d) hb)

  -- ---- NEG
  pub neg_is : (d : ℕ) → neg k d ≡ neg_of (on k) d
  unfolding neg with_pc with_reg bit
  neg_is d =
      let h = w.sound.sreg_lt in
      let x = (256 - reg k d) % 256 in
      let hx : x < 256 = omega arith in
      let v = tests_agree 256 (λ R. R ! 7 • bar (R ! 6) • bar (R ! 5) • bar (R ! 4) • bar (R ! 3) • bar (R ! 2) • bar (R ! 1) • bar (R ! 0)) (λ R. eqb R 128) tt x hx in
      let c = tests_agree 256 (λ R. R ! 7 ⊹ R ! 6 ⊹ R ! 5 ⊹ R ! 4 ⊹ R ! 3 ⊹ R ! 2 ⊹ R ! 1 ⊹ R ! 0) (λ R. not (eqb R 0)) tt x hx in
      rw (next_one k w, row_cznvsh, v, c, zero8_is x hx, bit7 x hx)
