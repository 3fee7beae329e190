-- Carry, half carry and overflow by bits are those by sizes: of a + b + c and of a - b - c in a byte, and of a word and a number below 64.
-- Assumes nothing.
use mathlib.Core.Path.{◌≡◌, refl, sym}
use mathlib.Core.Bool.{Bool, true, false, not, ◌&&◌, ◌||◌, beq}
use Prim.Native.Nat.{ℕ, ◌+◌, ◌/◌, ◌%◌, ◌-◌, ◌<◌, ◌≤◌}
use native.Mathlib.Omega.{arith}
use lib.Dec.{ltb, leb}
use borrow.Author.Tests.{le-leb, lt-leb, leb-true, leb-false, lt-ltb, le-ltb}
use Rattle.basis.specs.Bit.{one}
use Rattle.basis.proofs.Bits.{one_le}
use Rattle.bits.specs.Bits.{nth, carry_out, borrow_out}
use Rattle.bits.proofs.Booleans.{tauto, tests_agree2}

-- ---- overflow: the operands have one sign, or two, and the result the other
pub over_add : (a b r : Bool) → a && b && not r || not a && not b && r ≡ beq a b && not (beq a r)
over_add = tauto (λ a b r. a && b && not r || not a && not b && r) (λ a b r. beq a b && not (beq a r)) tt

pub over_sub : (a b r : Bool) → a && not b && not r || not a && b && r ≡ not (beq a b) && not (beq a r)
over_sub = tauto (λ a b r. a && not b && not r || not a && b && r) (λ a b r. not (beq a b) && not (beq a r)) tt

-- ---- carry, by the three top bits
module _ (a b c : ℕ) (hc : c ≤ 1) (ha : a < 256) (hb : b < 256) where
  carry_of : (t u v : Bool) → leb 128 a ≡ t → leb 128 b ≡ u → leb 128 ((a + b + c) % 256) ≡ v → carry_out t u v ≡ leb 256 (a + b + c)
  carry_of true true true p q r = let x = leb-true 128 a p in let y = leb-true 128 b q in sym (le-leb 256 (a + b + c) (omega arith))
  carry_of true true false p q r = let x = leb-true 128 a p in let y = leb-true 128 b q in sym (le-leb 256 (a + b + c) (omega arith))
  carry_of true false true p q r =
      let x = leb-true 128 a p in
      let y = leb-false 128 b q in
      let z = leb-true 128 ((a + b + c) % 256) r in
      sym (lt-leb 256 (a + b + c) (omega arith))
  carry_of true false false p q r =
      let x = leb-true 128 a p in
      let y = leb-false 128 b q in
      let z = leb-false 128 ((a + b + c) % 256) r in
      sym (le-leb 256 (a + b + c) (omega arith))
  carry_of false true true p q r =
      let x = leb-false 128 a p in
      let y = leb-true 128 b q in
      let z = leb-true 128 ((a + b + c) % 256) r in
      sym (lt-leb 256 (a + b + c) (omega arith))
  carry_of false true false p q r =
      let x = leb-false 128 a p in
      let y = leb-true 128 b q in
      let z = leb-false 128 ((a + b + c) % 256) r in
      sym (le-leb 256 (a + b + c) (omega arith))
  carry_of false false true p q r = let x = leb-false 128 a p in let y = leb-false 128 b q in sym (lt-leb 256 (a + b + c) (omega arith))
  carry_of false false false p q r = let x = leb-false 128 a p in let y = leb-false 128 b q in sym (lt-leb 256 (a + b + c) (omega arith))

  pub carry_add : carry_out (leb 128 a) (leb 128 b) (leb 128 ((a + b + c) % 256)) ≡ leb 256 (a + b + c)
  carry_add = carry_of (leb 128 a) (leb 128 b) (leb 128 ((a + b + c) % 256)) refl refl refl

  borrow_of : (t u v : Bool) → leb 128 a ≡ t → leb 128 b ≡ u → leb 128 ((a + 512 - (b + c)) % 256) ≡ v → borrow_out t u v ≡ ltb a (b + c)
  borrow_of true true true p q r =
      let x = leb-true 128 a p in
      let y = leb-true 128 b q in
      let z = leb-true 128 ((a + 512 - (b + c)) % 256) r in
      sym (lt-ltb a (b + c) (omega arith))
  borrow_of true true false p q r =
      let x = leb-true 128 a p in
      let y = leb-true 128 b q in
      let z = leb-false 128 ((a + 512 - (b + c)) % 256) r in
      sym (le-ltb a (b + c) (omega arith))
  borrow_of true false true p q r = let x = leb-true 128 a p in let y = leb-false 128 b q in sym (le-ltb a (b + c) (omega arith))
  borrow_of true false false p q r = let x = leb-true 128 a p in let y = leb-false 128 b q in sym (le-ltb a (b + c) (omega arith))
  borrow_of false true true p q r = let x = leb-false 128 a p in let y = leb-true 128 b q in sym (lt-ltb a (b + c) (omega arith))
  borrow_of false true false p q r = let x = leb-false 128 a p in let y = leb-true 128 b q in sym (lt-ltb a (b + c) (omega arith))
  borrow_of false false true p q r =
      let x = leb-false 128 a p in
      let y = leb-false 128 b q in
      let z = leb-true 128 ((a + 512 - (b + c)) % 256) r in
      sym (lt-ltb a (b + c) (omega arith))
  borrow_of false false false p q r =
      let x = leb-false 128 a p in
      let y = leb-false 128 b q in
      let z = leb-false 128 ((a + 512 - (b + c)) % 256) r in
      sym (le-ltb a (b + c) (omega arith))

  pub carry_sub : borrow_out (leb 128 a) (leb 128 b) (leb 128 ((a + 512 - (b + c)) % 256)) ≡ ltb a (b + c)
  carry_sub = borrow_of (leb 128 a) (leb 128 b) (leb 128 ((a + 512 - (b + c)) % 256)) refl refl refl

-- ---- half carry: bit 3 is the lower nibble's
nibble : (x : ℕ) → x / 8 % 2 ≡ x % 16 / 8 % 2
nibble x = omega arith

half_add_of : (c : Bool) (x y : ℕ) → x < 16 → y < 16 → carry_out (nth x 3) (nth y 3) (nth ((x + y + one c) % 16) 3) ≡ leb 16 (x + y + one c)
half_add_of true = tests_agree2 16 16 (λ x y. carry_out (nth x 3) (nth y 3) (nth ((x + y + 1) % 16) 3)) (λ x y. leb 16 (x + y + 1)) tt
half_add_of false = tests_agree2 16 16 (λ x y. carry_out (nth x 3) (nth y 3) (nth ((x + y + 0) % 16) 3)) (λ x y. leb 16 (x + y + 0)) tt

nibbles_add : (a b c : ℕ) → (a + b + c) % 256 % 16 ≡ (a % 16 + b % 16 + c) % 16
nibbles_add a b c = omega arith

pub half_add : (c : Bool) (a b : ℕ) → carry_out (nth a 3) (nth b 3) (nth ((a + b + one c) % 256) 3) ≡ leb 16 (a % 16 + b % 16 + one c)
half_add c a b = rw (nibble a, nibble b, nibble ((a + b + one c) % 256), nibbles_add a b (one c)) (half_add_of c (a % 16) (b % 16) (omega arith) (omega arith))

half_sub_of : (c : Bool) (x y : ℕ) → x < 16 → y < 16 → borrow_out (nth x 3) (nth y 3) (nth ((x + 32 - (y + one c)) % 16) 3) ≡ ltb x (y + one c)
half_sub_of true = tests_agree2 16 16 (λ x y. borrow_out (nth x 3) (nth y 3) (nth ((x + 32 - (y + 1)) % 16) 3)) (λ x y. ltb x (y + 1)) tt
half_sub_of false = tests_agree2 16 16 (λ x y. borrow_out (nth x 3) (nth y 3) (nth ((x + 32 - (y + 0)) % 16) 3)) (λ x y. ltb x (y + 0)) tt

nibbles_of : (a b c y z : ℕ) → y + b + c ≡ a + 512 → z + b % 16 + c ≡ a % 16 + 32 → y % 256 % 16 ≡ z % 16
nibbles_of a b c y z e f = omega arith

nibbles_sub : (a b c : ℕ) → b < 256 → c ≤ 1 → (a + 512 - (b + c)) % 256 % 16 ≡ (a % 16 + 32 - (b % 16 + c)) % 16
nibbles_sub a b c hb hc = nibbles_of a b c (a + 512 - (b + c)) (a % 16 + 32 - (b % 16 + c)) (omega arith) (omega arith)

pub half_sub : (c : Bool) (a b : ℕ) → b < 256 → borrow_out (nth a 3) (nth b 3) (nth ((a + 512 - (b + one c)) % 256) 3) ≡ ltb (a % 16) (b % 16 + one c)
half_sub c a b hb =
    rw (nibble a, nibble b, nibble ((a + 512 - (b + one c)) % 256), nibbles_sub a b (one c) hb (one_le c))
    (half_sub_of c (a % 16) (b % 16) (omega arith) (omega arith))

-- ---- a word and a number below 64: the top bits of the old word and of the new
module _ (a n : ℕ) (ha : a < 65536) (hn : n < 64) where
  carry16_of : (t u : Bool) → leb 32768 a ≡ t → leb 32768 ((a + n) % 65536) ≡ u → not u && t ≡ leb 65536 (a + n)
  carry16_of true true p q = let x = leb-true 32768 a p in let y = leb-true 32768 ((a + n) % 65536) q in sym (lt-leb 65536 (a + n) (omega arith))
  carry16_of true false p q = let x = leb-true 32768 a p in let y = leb-false 32768 ((a + n) % 65536) q in sym (le-leb 65536 (a + n) (omega arith))
  carry16_of false true p q = let x = leb-false 32768 a p in sym (lt-leb 65536 (a + n) (omega arith))
  carry16_of false false p q = let x = leb-false 32768 a p in sym (lt-leb 65536 (a + n) (omega arith))

  pub carry16 : not (leb 32768 ((a + n) % 65536)) && leb 32768 a ≡ leb 65536 (a + n)
  carry16 = carry16_of (leb 32768 a) (leb 32768 ((a + n) % 65536)) refl refl

  borrow16_of : (t u : Bool) → leb 32768 a ≡ t → leb 32768 ((a + 65536 - n) % 65536) ≡ u → u && not t ≡ ltb a n
  borrow16_of true true p q = let x = leb-true 32768 a p in sym (le-ltb a n (omega arith))
  borrow16_of true false p q = let x = leb-true 32768 a p in sym (le-ltb a n (omega arith))
  borrow16_of false true p q = let x = leb-false 32768 a p in let y = leb-true 32768 ((a + 65536 - n) % 65536) q in sym (lt-ltb a n (omega arith))
  borrow16_of false false p q = let x = leb-false 32768 a p in let y = leb-false 32768 ((a + 65536 - n) % 65536) q in sym (le-ltb a n (omega arith))

  pub borrow16 : leb 32768 ((a + 65536 - n) % 65536) && not (leb 32768 a) ≡ ltb a n
  borrow16 = borrow16_of (leb 32768 a) (leb 32768 ((a + 65536 - n) % 65536)) refl refl
