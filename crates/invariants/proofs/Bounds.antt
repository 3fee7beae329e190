-- Results and flags stay bytes.
-- Assumes nothing.
use mathlib.Core.Bool.{Bool, not, beq}
use mathlib.Core.List.{List, [], ◌∷◌}
use Prim.Native.Nat.{ℕ, zero, suc, ◌<◌}
use native.Mathlib.Nat.{lt_of_le_of_lt}
use native.Mathlib.Omega.{arith}
use lib.Bits.{bit_and, bit_or, bit_xor, and_le_l, or_lt, xor_lt}
use lib.ListN.{get_or, set}
use Rattle.basis.specs.Bit.{put}
use Rattle.basis.proofs.Bits.{one_le, put_lt}
use Rattle.alu.specs.Alu.{plus_of, minus_of, halved_of}
use Rattle.cores.specs.State.{cz, znvs, cznvs, cznvsh}

-- ---- SREG with new flags
module _ (s : ℕ) (h : s < 256) where
  pub cz_lt : (c z : Bool) → cz s c z < 256
  unfolding cz
  cz_lt c z = put_lt (put s 0 c) 1 z (put_lt s 0 c h)

  pub znvs_lt : (z n v : Bool) → znvs s z n v < 256
  unfolding znvs
  znvs_lt z n v = put_lt (put (put (put s 1 z) 2 n) 3 v) 4 (not (beq n v)) (put_lt (put (put s 1 z) 2 n) 3 v (put_lt (put s 1 z) 2 n (put_lt s 1 z h)))

module _ (s : ℕ) (h : s < 256) (c z n v : Bool) where
  pub cznvs_lt : cznvs s c z n v < 256
  unfolding cznvs
  cznvs_lt = znvs_lt (put s 0 c) (put_lt s 0 c h) z n v

  pub cznvsh_lt : (half : Bool) → cznvsh s c z n v half < 256
  unfolding cznvsh
  cznvsh_lt half = put_lt (cznvs s c z n v) 5 half cznvs_lt

-- ---- results
pub plus_lt : (a b : ℕ) (c : Bool) → (plus_of a b c).value < 256
unfolding plus_of
plus_lt a b c = omega arith

pub minus_lt : (a b : ℕ) (c : Bool) → (minus_of a b c).value < 256
unfolding minus_of
minus_lt a b c = omega arith

pub halved_lt : (a : ℕ) (top : Bool) → a < 256 → halved_of a top < 256
halved_lt a top h = omega (arith, one_le top)

pub and_byte : (a b : ℕ) → a < 256 → bit_and a b < 256
and_byte a b h = lt_of_le_of_lt (and_le_l a b) h

pub or_byte : (a b : ℕ) → a < 256 → b < 256 → bit_or a b < 256
or_byte a b g h = or_lt 8 a b g h

pub xor_byte : (a b : ℕ) → a < 256 → b < 256 → bit_xor a b < 256
xor_byte a b g h = xor_lt 8 a b g h

-- ---- bytes of a list, with a byte put in
pub set_lt : (l : List ℕ) (d v : ℕ) → ((i : ℕ) → get_or l i 0 < 256) → v < 256 → (i : ℕ) → get_or (set l d v) i 0 < 256
set_lt [] d v h b i = h i
set_lt (x ∷ l) zero v h b zero = b
set_lt (x ∷ l) zero v h b (suc i) = h (suc i)
set_lt (x ∷ l) (suc d) v h b zero = h zero
set_lt (x ∷ l) (suc d) v h b (suc i) = set_lt l d v (λ j. h (suc j)) b i
