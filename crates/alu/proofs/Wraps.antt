-- Two sums or two differences that wrap are one, as a carry is at most 1.
-- Assumes nothing.
use mathlib.Core.Path.{◌≡◌}
use mathlib.Core.Bool.{Bool}
use Prim.Native.Nat.{ℕ, ◌+◌, ◌-◌, ◌%◌, ◌<◌}
use native.Mathlib.Omega.{arith}
use Rattle.basis.specs.Bit.{one}
use Rattle.basis.proofs.Bits.{one_le}

pub added : (a b : ℕ) (c : Bool) → ((a + b) % 256 + one c) % 256 ≡ (a + b + one c) % 256
added a b c = omega (arith, one_le c)

pub taken : (a b : ℕ) (c : Bool) → b < 256 → ((a + (256 - b)) % 256 + (256 - one c)) % 256 ≡ (a + 512 - (b + one c)) % 256
taken a b c h = omega (arith, one_le c)
