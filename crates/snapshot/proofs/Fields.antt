-- A core that was read: PC and busy, by the bytes.
-- Assumes nothing.
use mathlib.Core.Path.{◌≡◌, refl}
use mathlib.Core.List.{List}
use Prim.Native.Nat.{ℕ, ◌+◌, ◌*◌, ◌/◌}
use lib.ListN.{get_or}
use Rattle.cores.specs.State.{with_pc, with_busy, with_inhibit, with_service, with_chip}
use Rattle.snapshot.specs.Snapshot.{core_of}

pub pc_read : (s : List ℕ) → (core_of s).pc ≡ get_or s 33 0 * 256 + get_or s 34 0
unfolding with_pc with_busy with_inhibit with_service with_chip
pc_read s = refl

pub busy_read : (s : List ℕ) → (core_of s).busy ≡ get_or s 37 0 / 32
unfolding with_busy with_inhibit with_service with_chip
busy_read s = refl
