-- One byte more: from C and Z of the lower bytes to C, Z and S with a byte above them.
-- Assumes nothing.
use mathlib.Core.Path.{◌≡◌, refl, sym, ap, ◌∙◌}
use mathlib.Core.Logic.{◌⊎◌, inl, inr}
use mathlib.Core.Bool.{Bool, true, false, not, ◌&&◌, beq}
use Prim.Native.Nat.{ℕ, suc, ◌+◌, ◌*◌, ◌^◌, ◌-◌, ◌%◌, ◌≤◌, ◌<◌}
use native.Mathlib.Nat.{mul-le-mul_right, suc-mul, pow-suc}
use native.Mathlib.Decide.{dec_lt}
use native.Mathlib.Omega.{arith}
use lib.Dec.{eqb, ltb, leb}
use lib.IntN.{ℤ, pos, negsuc, sub_ℕ}
use lib.Signed.{lt_z}
use borrow.Author.Tests.{ltb-true, ltb-false, leb-true, leb-false, eqb-true, eqb-false, lt-ltb, le-ltb, eq-eqb, ne_eqb}
use Rattle.basis.specs.Pick.{pick}
use Rattle.basis.specs.Bit.{one, bit}
use Rattle.basis.proofs.Bits.{one_le}
use Rattle.bits.proofs.Tops.{bit7}
use Rattle.alu.specs.Alu.{negative, minus_of}

-- ---- three ways that two numbers stand, two tests with one answer, and a difference below 0
three : (a b : ℕ) → (a < b) ⊎ ((a ≡ b) ⊎ (b < a))
three a b = elim (dec_lt a b) [ yes h ↦ inl h | no h ↦ elim (dec_lt b a) [ yes g ↦ inr (inr g) | no g ↦ inr (inl (omega arith)) ] ]

both_less : (a b c d : ℕ) → a < b → c < d → ltb a b ≡ ltb c d
both_less a b c d g h = lt-ltb a b g ∙ sym (lt-ltb c d h)

neither_less : (a b c d : ℕ) → b ≤ a → d ≤ c → ltb a b ≡ ltb c d
neither_less a b c d g h = le-ltb a b g ∙ sym (le-ltb c d h)

below_0 : (a b : ℕ) → a < b → sub_ℕ a b ≡ negsuc (b - suc a)
below_0 a b h = rw (lt-ltb a b h)

-- a byte counts w each
scaled : (w a b : ℕ) → a < b → a * w + w ≤ b * w
scaled w a b h = let g : suc a * w ≤ b * w = mul-le-mul_right w h in omega (arith, suc-mul a w)

-- ---- bytes a and b above A and B: x and y are a and b times w
module _ (a b w A B x y : ℕ) (hA : A < w) (hB : B < w) (lt : a < b → x + w ≤ y) (eq : a ≡ b → x ≡ y) (gt : b < a → y + w ≤ x) where
  c_of : (c : Bool) → ltb A B ≡ c → ltb a (b + one c) ≡ ltb (A + x) (B + y)
  c_of true e =
      let l = ltb-true A B e in
      elim (three a b) [
        | inl h ↦ both_less a (b + 1) (A + x) (B + y) (omega arith) (omega (arith, lt h))
        | inr (inl h) ↦ both_less a (b + 1) (A + x) (B + y) (omega arith) (omega (arith, eq h))
        | inr (inr h) ↦ neither_less a (b + 1) (A + x) (B + y) (omega arith) (omega (arith, gt h))
      ]
  c_of false e =
      let l = ltb-false A B e in
      elim (three a b) [
        | inl h ↦ both_less a (b + 0) (A + x) (B + y) (omega arith) (omega (arith, lt h))
        | inr (inl h) ↦ neither_less a (b + 0) (A + x) (B + y) (omega arith) (omega (arith, eq h))
        | inr (inr h) ↦ neither_less a (b + 0) (A + x) (B + y) (omega arith) (omega (arith, gt h))
      ]

  module _ (ha : a < 256) (hb : b < 256) where
    z_of : (z : Bool) → eqb A B ≡ z → z && eqb ((a + 512 - (b + one (ltb A B))) % 256) 0 ≡ eqb (A + x) (B + y)
    z_of false e =
        let n = eqb-false A B e in
        sym (ne_eqb (A + x) (B + y) (λ z. elim (three a b) [ inl h ↦ omega (arith, lt h) | inr (inl h) ↦ n (omega (arith, eq h)) | inr (inr h) ↦ omega (arith, gt h) ]))
    z_of true e =
        let i : A ≡ B = eqb-true A B e in
        rw (le-ltb A B (omega arith))
        (elim (three a b) [
          | inl h ↦ ne_eqb ((a + 512 - (b + 0)) % 256) 0 (omega arith) ∙ sym (ne_eqb (A + x) (B + y) (omega (arith, lt h)))
          | inr (inl h) ↦ eq-eqb ((a + 512 - (b + 0)) % 256) 0 (omega arith) ∙ sym (eq-eqb (A + x) (B + y) (omega (arith, eq h)))
          | inr (inr h) ↦ ne_eqb ((a + 512 - (b + 0)) % 256) 0 (omega arith) ∙ sym (ne_eqb (A + x) (B + y) (omega (arith, gt h)))
        ])

    -- the sign, of numbers below W
    module _ (W : ℕ) (hX : A + x < W) (hY : B + y < W) (c : Bool) (e : ltb A B ≡ c) where
      is_less : a < b + one c → A + x < B + y
      is_less h = ltb-true (A + x) (B + y) (sym (c_of c e) ∙ lt-ltb a (b + one c) h)

      is_not : b + one c ≤ a → B + y ≤ A + x
      is_not h = ltb-false (A + x) (B + y) (sym (c_of c e) ∙ le-ltb a (b + one c) h)

      abbrev side : Bool → ℕ → ℤ
      side top n = pick top (sub_ℕ n W) (pos n)

      s_of : (ta tb tx : Bool) → leb 128 a ≡ ta → leb 128 b ≡ tb → leb 128 ((a + 512 - (b + one c)) % 256) ≡ tx
          → not (beq tx (not (beq ta tb) && not (beq ta tx))) ≡ lt_z (side ta (A + x)) (side tb (B + y))
      s_of true true true p q r =
          let l = is_less (omega (arith, leb-true 128 a p, leb-true 128 b q, leb-true 128 ((a + 512 - (b + one c)) % 256) r, one_le c)) in
          rw (below_0 (A + x) W hX, below_0 (B + y) W hY) (sym (lt-ltb (W - suc (B + y)) (W - suc (A + x)) (omega arith)))
      s_of true true false p q r =
          let l = is_not (omega (arith, leb-true 128 a p, leb-true 128 b q, leb-false 128 ((a + 512 - (b + one c)) % 256) r, one_le c)) in
          rw (below_0 (A + x) W hX, below_0 (B + y) W hY) (sym (le-ltb (W - suc (B + y)) (W - suc (A + x)) (omega arith)))
      s_of true false true p q r = rw (below_0 (A + x) W hX)
      s_of true false false p q r = rw (below_0 (A + x) W hX)
      s_of false true true p q r = rw (below_0 (B + y) W hY)
      s_of false true false p q r = rw (below_0 (B + y) W hY)
      s_of false false true p q r =
          let l = is_less (omega (arith, leb-false 128 a p, leb-false 128 b q, leb-true 128 ((a + 512 - (b + one c)) % 256) r, one_le c)) in
          sym (lt-ltb (A + x) (B + y) l)
      s_of false false false p q r =
          let l = is_not (omega (arith, leb-false 128 a p, leb-false 128 b q, leb-false 128 ((a + 512 - (b + one c)) % 256) r, one_le c)) in
          sym (le-ltb (A + x) (B + y) l)

-- ---- the same of bytes at place n, and of C and Z as they are
pub top_lt : (n a A : ℕ) → a < 256 → A < 256 ^ n → A + a * 256 ^ n < 256 ^ suc n
top_lt n a A ha hA = rw (pow-suc 256 n) (omega (arith, scaled (256 ^ n) a 256 ha))

module _ (n a b A B : ℕ) (ha : a < 256) (hb : b < 256) (hA : A < 256 ^ n) (hB : B < 256 ^ n) where
  abbrev w : ℕ
  w = 256 ^ n

  same_scaled : a ≡ b → a * w ≡ b * w
  same_scaled e = ap (λ (i : ℕ). i * w) e

  pub c_on : ltb a (b + one (ltb A B)) ≡ ltb (A + a * w) (B + b * w)
  c_on = c_of a b w A B (a * w) (b * w) hA hB (scaled w a b) same_scaled (scaled w b a) (ltb A B) refl

  pub z_on : eqb A B && eqb ((a + 512 - (b + one (ltb A B))) % 256) 0 ≡ eqb (A + a * w) (B + b * w)
  z_on = z_of a b w A B (a * w) (b * w) hA hB (scaled w a b) same_scaled (scaled w b a) ha hb (eqb A B) refl

  pub s_on :
      let x = minus_of a b (ltb A B) in
      let W = 256 ^ suc n in
      not (beq (negative x.value) x.overflow) ≡ lt_z (pick (bit a 7) (sub_ℕ (A + a * w) W) (pos (A + a * w))) (pick (bit b 7) (sub_ℕ (B + b * w) W) (pos (B + b * w)))
  unfolding minus_of bit
  s_on =
      rw (bit7 a ha, bit7 b hb)
      (s_of a b w A B (a * w) (b * w) hA hB (scaled w a b) same_scaled (scaled w b a) ha hb (256 ^ suc n) (top_lt n a A ha hA) (top_lt n b B hb hB)
      (ltb A B) refl (leb 128 a) (leb 128 b) (leb 128 ((a + 512 - (b + one (ltb A B))) % 256)) refl refl refl)
