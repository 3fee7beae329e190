-- Top bits and sizes: bit 7 of a byte, bit 15 of a word, and that a word's is its high byte's.
-- Assumes nothing.
use mathlib.Core.Path.{◌≡◌, refl, sym, ◌∙◌}
use mathlib.Core.Bool.{Bool, true, false, not}
use Prim.Native.Nat.{ℕ, ◌+◌, ◌*◌, ◌/◌, ◌%◌, ◌<◌}
use native.Mathlib.Omega.{arith}
use lib.Dec.{eqb, ltb, leb}
use borrow.Author.Tests.{le-leb, lt-leb, leb-true, leb-false, lt-ltb, le-ltb}
use Rattle.bits.specs.Bits.{nth}
use Rattle.bits.proofs.Booleans.{tests_agree}

pub bit7 : (x : ℕ) → x < 256 → nth x 7 ≡ leb 128 x
bit7 = tests_agree 256 (λ x. nth x 7) (λ x. leb 128 x) tt

bit15_of : (x : ℕ) (t : Bool) → leb 32768 x ≡ t → x < 65536 → eqb (x / 32768 % 2) 1 ≡ t
bit15_of x true e h = let g = leb-true 32768 x e in let q : x / 32768 % 2 ≡ 1 = omega arith in rw q
bit15_of x false e h = let g = leb-false 32768 x e in let q : x / 32768 % 2 ≡ 0 = omega arith in rw q

pub bit15 : (x : ℕ) → x < 65536 → nth x 15 ≡ leb 32768 x
bit15 x h = bit15_of x (leb 32768 x) refl h

-- doubled, it is bit 16
pub bit16 : (x : ℕ) → x < 65536 → nth (x * 2) 16 ≡ leb 32768 x
bit16 x h = let e : x * 2 / 65536 ≡ x / 32768 = omega arith in rw e (bit15 x h)

high_of : (h l : ℕ) (t : Bool) → leb 128 h ≡ t → h < 256 → l < 256 → t ≡ leb 32768 (h * 256 + l)
high_of h l true e hh hl = let g = leb-true 128 h e in sym (le-leb 32768 (h * 256 + l) (omega arith))
high_of h l false e hh hl = let g = leb-false 128 h e in sym (lt-leb 32768 (h * 256 + l) (omega arith))

pub high7 : (h l : ℕ) → h < 256 → l < 256 → nth h 7 ≡ leb 32768 (h * 256 + l)
high7 h l hh hl = bit7 h hh ∙ high_of h l (leb 128 h) refl hh hl

clear_of : (n x : ℕ) (t : Bool) → leb n x ≡ t → not t ≡ ltb x n
clear_of n x true e = let h = leb-true n x e in sym (le-ltb x n h)
clear_of n x false e = let h = leb-false n x e in sym (lt-ltb x n h)

pub clear : (n x : ℕ) → not (leb n x) ≡ ltb x n
clear n x = clear_of n x (leb n x) refl
