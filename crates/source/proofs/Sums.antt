-- The Rust's flags are the port's, where the laws of `bits` stop: clear bits of a word, half carry without C, and a sum or a difference in two steps.
-- Assumes nothing.
use mathlib.Core.Path.{◌≡◌, refl, sym, ap, ◌∙◌}
use mathlib.Core.Bool.{Bool, true, false, not, ◌&&◌, ◌||◌, or-false, and_comm}
use Prim.Native.Nat.{ℕ, ◌+◌, ◌/◌, ◌%◌, ◌-◌, ◌<◌}
use native.Mathlib.Omega.{arith}
use native.Mathlib.Nat.{add-zero}
use lib.Dec.{eqb, ltb, leb}
use borrow.Author.Tests.{le-leb, lt-leb, leb-true, leb-false, lt-ltb, le-ltb, ltb-true, ltb-false}
use Rattle.basis.specs.Bit.{one}
use Rattle.bits.specs.Bits.{carry_out}
use Rattle.bits.proofs.Tops.{clear}
use Rattle.bits.proofs.Carries.{half_add}
use Rattle.source.specs.Monad.{if'◌then◌else◌}
use Rattle.source.specs.Integers.{u8::overflowing_add, u8::overflowing_sub, view_bits}

-- ---- bit 7 of a word, and bit 15, clear
low7_of : (x : ℕ) (t : Bool) → ltb (x % 256) 128 ≡ t → not (eqb (x / 128 % 2) 1) ≡ t
low7_of x true e = let g = ltb-true (x % 256) 128 e in let q : x / 128 % 2 ≡ 0 = omega arith in rw q
low7_of x false e = let g = ltb-false (x % 256) 128 e in let q : x / 128 % 2 ≡ 1 = omega arith in rw q

pub low7 : (x : ℕ) → not (view_bits x 7) ≡ ltb (x % 256) 128
low7 x = low7_of x (ltb (x % 256) 128) refl

pub top_clear : (x : ℕ) (b : Bool) → not (leb 32768 x) && b ≡ b && ltb x 32768
top_clear x b = and_comm (not (leb 32768 x)) b ∙ ap (λ (c : Bool). b && c) (clear 32768 x)

-- ---- half carry, without C
pub half_plain : (a b : ℕ) → carry_out (view_bits a 3) (view_bits b 3) (view_bits ((a + b) % 256) 3) ≡ leb 16 (a % 16 + b % 16 + 0)
half_plain a b = rw (add-zero (a + b)) at (half_add false a b)

-- ---- a sum or a difference with C, made in two steps
abbrev step_add : Bool → ℕ → ℕ × Bool
step_add c r = if' c then u8::overflowing_add r 1 else (r, false)

abbrev step_sub : Bool → ℕ → ℕ × Bool
step_sub c r = if' c then u8::overflowing_sub r 1 else (r, false)

pub value_add : (c : Bool) (a b : ℕ) → (step_add c ((a + b) % 256)).0 ≡ (a + b + one c) % 256
value_add true a b = omega arith
value_add false a b = omega arith

pub value_sub : (c : Bool) (a b : ℕ) → a < 256 → b < 256 → (step_sub c ((a + 256 - b) % 256)).0 ≡ (a + 512 - (b + one c)) % 256
value_sub true a b ha hb = omega arith
value_sub false a b ha hb = omega arith

carry_or : (a b : ℕ) (x y : Bool) → leb 256 (a + b) ≡ x → leb 256 ((a + b) % 256 + 1) ≡ y → a < 256 → b < 256 → x || y ≡ leb 256 (a + b + 1)
carry_or a b true y p q ha hb = let h = leb-true 256 (a + b) p in sym (le-leb 256 (a + b + 1) (omega arith))
carry_or a b false true p q ha hb =
    let h = leb-false 256 (a + b) p in
    let g = leb-true 256 ((a + b) % 256 + 1) q in
    sym (le-leb 256 (a + b + 1) (omega arith))
carry_or a b false false p q ha hb =
    let h = leb-false 256 (a + b) p in
    let g = leb-false 256 ((a + b) % 256 + 1) q in
    sym (lt-leb 256 (a + b + 1) (omega arith))

pub carry_add : (c : Bool) (a b : ℕ) → a < 256 → b < 256 → leb 256 (a + b) || (step_add c ((a + b) % 256)).1 ≡ leb 256 (a + b + one c)
carry_add true a b ha hb = carry_or a b (leb 256 (a + b)) (leb 256 ((a + b) % 256 + 1)) refl refl ha hb
carry_add false a b ha hb = or-false (leb 256 (a + b)) ∙ ap (leb 256) (sym (add-zero (a + b)))

borrow_or : (a b : ℕ) (x y : Bool) → ltb a b ≡ x → ltb ((a + 256 - b) % 256) 1 ≡ y → a < 256 → b < 256 → x || y ≡ ltb a (b + 1)
borrow_or a b true y p q ha hb = let h = ltb-true a b p in sym (lt-ltb a (b + 1) (omega arith))
borrow_or a b false true p q ha hb =
    let h = ltb-false a b p in
    let g = ltb-true ((a + 256 - b) % 256) 1 q in
    sym (lt-ltb a (b + 1) (omega arith))
borrow_or a b false false p q ha hb =
    let h = ltb-false a b p in
    let g = ltb-false ((a + 256 - b) % 256) 1 q in
    sym (le-ltb a (b + 1) (omega arith))

pub carry_sub : (c : Bool) (a b : ℕ) → a < 256 → b < 256 → ltb a b || (step_sub c ((a + 256 - b) % 256)).1 ≡ ltb a (b + one c)
carry_sub true a b ha hb = borrow_or a b (ltb a b) (ltb ((a + 256 - b) % 256) 1) refl refl ha hb
carry_sub false a b ha hb = or-false (ltb a b) ∙ ap (ltb a) (sym (add-zero b))
