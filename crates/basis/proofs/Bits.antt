-- Bits of a byte: by a mask, by division and remainder, and what stays below 256.
-- Assumes nothing.
use mathlib.Core.Path.{◌≡◌}
use mathlib.Core.Bool.{Bool, true, false}
use Prim.Native.Nat.{ℕ, ◌-◌, ◌*◌, ◌%◌, ◌^◌, ◌≤◌, ◌<◌}
use native.Mathlib.Omega.{arith}
use lib.Dec.{T, ltb, ltb→lt}
use lib.Bits.{bit_or, bit_and}
use Rattle.basis.specs.Bit.{one, put}
use Rattle.basis.proofs.Every.{every, at, agreed}

pub one_le : (t : Bool) → one t ≤ 1
one_le true = omega arith
one_le false = omega arith

-- a bit number counts modulo 8
pub put_mod : (x b : ℕ) (on : Bool) → put x (b % 8) on ≡ put x b on
unfolding put
put_mod x b on = let e : b % 8 % 8 ≡ b % 8 = omega arith in rw e

-- a mask of one bit is a power of 2
pub mask_is : (b : ℕ) → b < 8 → 1 * 2 ^ b % 256 ≡ 2 ^ b
mask_is b h = agreed 8 1 (λ b x. 1 * 2 ^ b % 256) (λ b x. 2 ^ b) tt b 0 h (omega arith)

pub or_put : (x b : ℕ) → x < 256 → b < 8 → bit_or x (1 * 2 ^ b % 256) ≡ put x b true
unfolding put
or_put = agreed 256 8 (λ x b. bit_or x (1 * 2 ^ b % 256)) (λ x b. put x b true) tt

pub and_put : (x b : ℕ) → x < 256 → b < 8 → bit_and x (255 - 1 * 2 ^ b % 256) ≡ put x b false
unfolding put
and_put = agreed 256 8 (λ x b. bit_and x (255 - 1 * 2 ^ b % 256)) (λ x b. put x b false) tt

-- a byte stays a byte
put_tested : (on : Bool) → T (every 256 (λ x. every 8 (λ b. ltb (put x b on) 256)))
unfolding put
put_tested true = tt
put_tested false = tt

pub put_lt : (x b : ℕ) (on : Bool) → x < 256 → put x b on < 256
put_lt x b on h =
    let i : b % 8 < 8 = omega arith in
    rw (← put_mod x b on)
    (ltb→lt (put x (b % 8) on) 256 (at (λ b. ltb (put x b on) 256) 8 (at (λ x. every 8 (λ b. ltb (put x b on) 256)) 256 (put_tested on) x h) (b % 8) i))
