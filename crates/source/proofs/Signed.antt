-- The Rust's i8 and i16 against the port's bits: products and doubled products. Two tests of 65,536 cases, computed.
-- Assumes nothing.
use mathlib.Core.Path.{◌≡◌, refl, sym, ap, ◌∙◌}
use mathlib.Core.Bool.{Bool, true, false}
use Prim.Native.Nat.{ℕ, suc, ◌+◌, ◌*◌, ◌%◌, ◌-◌, ◌<◌}
use native.Mathlib.Omega.{arith}
use lib.Dec.{eqb, ltb, leb}
use lib.IntN.{ℤ, pos, negsuc, ◌*ℤ◌}
use borrow.Author.Tests.{ltb-true, ltb-false, ne_eqb}
use Rattle.basis.specs.Pick.{pick}
use Rattle.alu.specs.Alu.{signed_of, product_of, doubled_of}
use Rattle.bits.specs.Bits.{signed_byte}
use Rattle.bits.proofs.Booleans.{tests_agree2}
use Rattle.bits.proofs.Tops.{bit7, clear}
use Rattle.bits.proofs.Products.{both_signed, first_signed}
use Rattle.source.specs.Integers.{u8_as_i8, u16_as_i16, signed_as_u16, in_i16, is_zero}

-- ---- a byte as an i8, by its size and by its top bit
byte_signed_by : (x : ℕ) (t : Bool) → leb 128 x ≡ t → u8_as_i8 x ≡ pick t (negsuc (255 - x)) (pos x)
byte_signed_by x true e = rw (← clear 128 x, e)
byte_signed_by x false e = rw (← clear 128 x, e)

byte_signed : (x : ℕ) → x < 256 → u8_as_i8 x ≡ signed_byte x
byte_signed x h = rw (bit7 x h) (byte_signed_by x (leb 128 x) refl)

-- ---- signed by signed, and signed by unsigned: the value, and that no product overflows an i16
pub value_ss : (a b : ℕ) → a < 256 → b < 256 → signed_as_u16 (u8_as_i8 a *ℤ u8_as_i8 b) ≡ product_of (signed_of a) (signed_of b)
value_ss a b ha hb = rw (byte_signed a ha, byte_signed b hb) (both_signed a b ha hb)

pub value_su : (a b : ℕ) → a < 256 → b < 256 → signed_as_u16 (u8_as_i8 a *ℤ pos b) ≡ product_of (signed_of a) b
value_su a b ha hb = rw (byte_signed a ha) (first_signed a b ha hb)

pub range_ss : (a b : ℕ) → a < 256 → b < 256 → in_i16 (u8_as_i8 a *ℤ u8_as_i8 b) ≡ true
range_ss = tests_agree2 256 256 (λ a b. in_i16 (u8_as_i8 a *ℤ u8_as_i8 b)) (λ a b. true) tt

pub range_su : (a b : ℕ) → a < 256 → b < 256 → in_i16 (u8_as_i8 a *ℤ pos b) ≡ true
range_su = tests_agree2 256 256 (λ a b. in_i16 (u8_as_i8 a *ℤ pos b)) (λ a b. true) tt

-- ---- zero as an i16 and as its bits
pub zero_is : (z : ℤ) → in_i16 z ≡ true → is_zero z ≡ eqb (signed_as_u16 z) 0
zero_is (pos n) h = let l = ltb-true n 32768 h in let e : n % 65536 ≡ n = omega arith in rw e
zero_is (negsuc n) h = sym (ne_eqb (65535 - n % 65536) 0 (let l = ltb-true n 32768 h in omega arith))

-- ---- `<< 1` of an i16, for every one: its bits doubled
back_of : (x : ℕ) (t : Bool) → x < 65536 → ltb x 32768 ≡ t → signed_as_u16 (pick t (pos x) (negsuc (65535 - x))) ≡ x
back_of x true h e = omega arith
back_of x false h e = omega arith

back : (x : ℕ) → x < 65536 → signed_as_u16 (u16_as_i16 x) ≡ x
back x h = back_of x (ltb x 32768) h refl

zero_back_of : (x : ℕ) (t : Bool) → ltb x 32768 ≡ t → is_zero (pick t (pos x) (negsuc (65535 - x))) ≡ eqb x 0
zero_back_of x true e = refl
zero_back_of x false e = let g = ltb-false x 32768 e in sym (ne_eqb x 0 (omega arith))

u16_lt : (z : ℤ) → signed_as_u16 z < 65536
u16_lt (pos n) = omega arith
u16_lt (negsuc n) = omega arith

wrapped : (y : ℕ) → y < 65536 → (y + 65536) % 65536 ≡ y
wrapped y h = omega arith

doubled_of_lem : (m : ℕ) (t : Bool) → ltb m 32768 ≡ t → m < 65536 → 65535 - (m * 2 + 1) % 65536 ≡ (65535 - m) * 2 % 65536
doubled_of_lem m true e h =
    let g = ltb-true m 32768 e in
    let p : (m * 2 + 1) % 65536 ≡ m * 2 + 1 = omega arith in
    let a : (65535 - m) * 2 ≡ 65534 - m * 2 + 65536 = omega arith in
    let q : (65535 - m) * 2 % 65536 ≡ 65534 - m * 2 = rw a (wrapped (65534 - m * 2) (omega arith)) in
    omega arith
doubled_of_lem m false e h =
    let g = ltb-false m 32768 e in
    let b : m * 2 + 1 ≡ m * 2 + 1 - 65536 + 65536 = omega arith in
    let p : (m * 2 + 1) % 65536 ≡ m * 2 + 1 - 65536 = ap (λ (x : ℕ). x % 65536) b ∙ wrapped (m * 2 + 1 - 65536) (omega arith) in
    let q : (65535 - m) * 2 % 65536 ≡ (65535 - m) * 2 = omega arith in
    omega arith

doubled_negative : (n : ℕ) → signed_as_u16 (negsuc n *ℤ pos 2) ≡ doubled_of (65535 - n % 65536)
doubled_negative n =
    let e : suc n * 2 ≡ suc (n * 2 + 1) = omega arith in
    let f : (n * 2 + 1) % 65536 ≡ (n % 65536 * 2 + 1) % 65536 = omega arith in
    rw (e, f) (doubled_of_lem (n % 65536) (ltb (n % 65536) 32768) refl (omega arith))

doubled : (z : ℤ) → signed_as_u16 (z *ℤ pos 2) ≡ doubled_of (signed_as_u16 z)
doubled (pos n) = omega arith
doubled (negsuc n) = doubled_negative n

pub value_shl : (z : ℤ) → signed_as_u16 (u16_as_i16 (signed_as_u16 (z *ℤ pos 2))) ≡ doubled_of (signed_as_u16 z)
value_shl z = back (signed_as_u16 (z *ℤ pos 2)) (u16_lt (z *ℤ pos 2)) ∙ doubled z

pub zero_shl : (z : ℤ) → is_zero (u16_as_i16 (signed_as_u16 (z *ℤ pos 2))) ≡ eqb (doubled_of (signed_as_u16 z)) 0
zero_shl z = zero_back_of (signed_as_u16 (z *ℤ pos 2)) (ltb (signed_as_u16 (z *ℤ pos 2)) 32768) refl ∙ ap (λ (x : ℕ). eqb x 0) (doubled z)
