-- Products of bytes, in 16 bits: of signed numbers as of their bits. Two tests of 65,536 cases, computed.
-- Assumes nothing.
use mathlib.Core.Path.{◌≡◌}
use Prim.Native.Nat.{ℕ, ◌<◌}
use lib.IntN.{pos, ◌*ℤ◌}
use Rattle.basis.proofs.Every.{agreed}
use Rattle.alu.specs.Alu.{signed_of, product_of}
use Rattle.bits.specs.Bits.{signed_byte, word16}

pub both_signed : (a b : ℕ) → a < 256 → b < 256 → word16 (signed_byte a *ℤ signed_byte b) ≡ product_of (signed_of a) (signed_of b)
both_signed = agreed 256 256 (λ a b. word16 (signed_byte a *ℤ signed_byte b)) (λ a b. product_of (signed_of a) (signed_of b)) tt

pub first_signed : (a b : ℕ) → a < 256 → b < 256 → word16 (signed_byte a *ℤ pos b) ≡ product_of (signed_of a) b
first_signed = agreed 256 256 (λ a b. word16 (signed_byte a *ℤ pos b)) (λ a b. product_of (signed_of a) b) tt
