-- Two bytes pushed and two popped: the Rust's tests, in the order in which it makes them, are the port's, and where they hold SP does not wrap.
-- Assumes nothing.
use mathlib.Core.Path.{◌≡◌, refl}
use mathlib.Core.Bool.{Bool, true, false, ◌&&◌}
use Prim.Native.Nat.{ℕ, ◌+◌, ◌*◌, ◌/◌, ◌%◌, ◌-◌, ◌<◌}
use native.Mathlib.Omega.{arith}
use lib.Bits.{bit_or, or_shifted}
use lib.Dec.{ltb, leb}
use borrow.Author.Tests.{lt-ltb, le-ltb, le-leb, lt-leb, ltb-true, ltb-false, leb-true, leb-false}
use Rattle.basis.specs.Pick.{pick}
use Rattle.basis.specs.Bit.{up, down}
use Rattle.source.specs.Monad.{Outcome, panic}
use Rattle.source.proofs.Steps.{pick_panic}

module _ {A : Type 0} (sp n : ℕ) (h : sp < 65536) (f : ℕ → ℕ → Outcome A) where
  push_by : (t b : Bool) → leb 2 sp ≡ t → ltb sp n ≡ b
      → pick (ltb sp n) (pick (leb 1 sp) (pick (ltb (sp - 1) n) (pick (leb 1 (sp - 1)) (f (sp - 1) (sp - 2)) panic) panic) panic) panic
      ≡ pick (t && b) (f (down sp 1) (down sp 2)) panic
  push_by true true p q =
      let g = leb-true 2 sp p in
      let l = ltb-true sp n q in
      let one : down sp 1 ≡ sp - 1 = omega arith in
      let two : down sp 2 ≡ sp - 2 = omega arith in
      rw (q, le-leb 1 sp (omega arith), lt-ltb (sp - 1) n (omega arith), le-leb 1 (sp - 1) (omega arith), one, two)
  push_by true false p q = rw q
  push_by false b p q = let g = leb-false 2 sp p in simp (lt-leb 1 (sp - 1) (omega arith), pick_panic)

  -- the bytes at SP and SP - 1; SP falls by 2
  pub push_tests : pick (ltb sp n) (pick (leb 1 sp) (pick (ltb (sp - 1) n) (pick (leb 1 (sp - 1)) (f (sp - 1) (sp - 2)) panic) panic) panic) panic
      ≡ pick (leb 2 sp && ltb sp n) (f (down sp 1) (down sp 2)) panic
  push_tests = push_by (leb 2 sp) (ltb sp n) refl refl

  pop_by : (t b : Bool) → leb sp 65533 ≡ t → ltb (sp + 2) n ≡ b
      → pick (ltb (sp + 1) 65536) (pick (ltb (sp + 1) n) (pick (ltb (sp + 2) 65536) (pick (ltb (sp + 2) n) (f (sp + 1) (sp + 2)) panic) panic) panic) panic
      ≡ pick (t && b) (f (up sp 1) (up sp 2)) panic
  pop_by true true p q =
      let g = leb-true sp 65533 p in
      let l = ltb-true (sp + 2) n q in
      let one : up sp 1 ≡ sp + 1 = omega arith in
      let two : up sp 2 ≡ sp + 2 = omega arith in
      rw (lt-ltb (sp + 1) 65536 (omega arith), lt-ltb (sp + 1) n (omega arith), lt-ltb (sp + 2) 65536 (omega arith), q, one, two)
  pop_by true false p q = let g = ltb-false (sp + 2) n q in simp (le-ltb (sp + 2) n (omega arith), pick_panic)
  pop_by false b p q = let g = leb-false sp 65533 p in simp (le-ltb (sp + 2) 65536 (omega arith), pick_panic)

  -- the bytes at SP + 1 and SP + 2; SP rises by 2
  pub pop_tests : pick (ltb (sp + 1) 65536) (pick (ltb (sp + 1) n) (pick (ltb (sp + 2) 65536) (pick (ltb (sp + 2) n) (f (sp + 1) (sp + 2)) panic) panic) panic) panic
      ≡ pick (leb sp 65533 && ltb (sp + 2) n) (f (up sp 1) (up sp 2)) panic
  pop_tests = pop_by (leb sp 65533) (ltb (sp + 2) n) refl refl

pub less_two : (sp : ℕ) → sp - 1 - 1 ≡ sp - 2
less_two sp = omega arith

pub more_two : (sp : ℕ) → sp + 1 + 1 ≡ sp + 2
more_two sp = omega arith

-- ---- a word and its two bytes
pub high_byte : (x : ℕ) → x < 65536 → x / 256 % 256 ≡ x / 256
high_byte x h = omega arith

pub joined : (h l : ℕ) → h < 256 → l < 256 → bit_or (h * 256 % 65536) l ≡ h * 256 + l
joined h l a b = let e : h * 256 % 65536 ≡ h * 256 = omega arith in rw e (or_shifted h 8 l b)
