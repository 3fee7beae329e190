-- A byte turned by four bits has its halves exchanged.
-- Assumes nothing.
use Rattle.std.proofs.Common.{◌≡◌, ℕ, ◌+◌, ◌*◌, ◌/◌, ◌%◌, ◌<◌, w8, arith}
use Rattle.std.specs.Int.{rotate_left}
use Rattle.basis.proofs.Every.{agreed}

pub swapped : (x : ℕ) → x < 256 → rotate_left w8 x 4 ≡ x % 16 * 16 + x / 16
swapped x h = agreed 256 1 (λ x y. rotate_left w8 x 4) (λ x y. x % 16 * 16 + x / 16) tt x 0 h (omega arith)
