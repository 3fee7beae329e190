-- A core by its types but for busy, and each setter: it keeps that where the new value is in its range.
-- Assumes nothing.
use mathlib.Core.Path.{◌≡◌, ◌∙◌}
use mathlib.Core.Bool.{Bool}
use mathlib.Core.List.{List}
use Prim.Native.Nat.{ℕ, ◌+◌, ◌/◌, ◌%◌, ◌≤◌, ◌<◌}
use native.Mathlib.Omega.{arith}
use lib.ListN.{length, set, length-set}
use Rattle.basis.specs.Bytes.{Bytes}
use Rattle.cores.specs.declared.Core.{Core}
use Rattle.cores.specs.State.{reg, word, with_reg, with_word, with_sreg, with_pc, with_sp, with_busy, with_inhibit, with_service, Sound}
use Rattle.cores.proofs.Bounds.{word_lt}
use Rattle.invariants.proofs.Bounds.{set_lt}

pub record Fits (k : Core) : Type 0 where
  pub count : length k.regs ≡ 32
  pub reg_lt : (i : ℕ) → reg k i < 256
  pub sreg_lt : k.sreg < 256
  pub pc_lt : k.pc < 65536
  pub sp_lt : k.sp < 65536

pub fits_of : (k : Core) → Sound k → Fits k
fits_of k s = record { count = s.count; reg_lt = s.reg_lt; sreg_lt = s.sreg_lt; pc_lt = s.pc_lt; sp_lt = s.sp_lt }

pub sound_of : (k : Core) → Fits k → k.busy ≤ 4 → Sound k
sound_of k f b = record { count = f.count; reg_lt = f.reg_lt; sreg_lt = f.sreg_lt; pc_lt = f.pc_lt; sp_lt = f.sp_lt; busy_le = b }

module _ (k : Core) (f : Fits k) where
  pub fits_reg : (d v : ℕ) → v < 256 → Fits (with_reg k d v)
  unfolding with_reg
  fits_reg d v h =
      record {
        count = length-set k.regs d v ∙ f.count;
        reg_lt = set_lt k.regs d v f.reg_lt h;
        sreg_lt = f.sreg_lt;
        pc_lt = f.pc_lt;
        sp_lt = f.sp_lt;
      }

  pub fits_sreg : (v : ℕ) → v < 256 → Fits (with_sreg k v)
  fits_sreg v h = record { count = f.count; reg_lt = f.reg_lt; sreg_lt = h; pc_lt = f.pc_lt; sp_lt = f.sp_lt }

  pub fits_pc : (v : ℕ) → v < 65536 → Fits (with_pc k v)
  unfolding with_pc
  fits_pc v h = record { count = f.count; reg_lt = f.reg_lt; sreg_lt = f.sreg_lt; pc_lt = h; sp_lt = f.sp_lt }

  pub fits_sp : (v : ℕ) → v < 65536 → Fits (with_sp k v)
  unfolding with_sp
  fits_sp v h = record { count = f.count; reg_lt = f.reg_lt; sreg_lt = f.sreg_lt; pc_lt = f.pc_lt; sp_lt = h }

  pub fits_busy : (v : ℕ) → Fits (with_busy k v)
  unfolding with_busy
  fits_busy v = record { count = f.count; reg_lt = f.reg_lt; sreg_lt = f.sreg_lt; pc_lt = f.pc_lt; sp_lt = f.sp_lt }

  pub fits_inhibit : (on : Bool) → Fits (with_inhibit k on)
  unfolding with_inhibit
  fits_inhibit on = record { count = f.count; reg_lt = f.reg_lt; sreg_lt = f.sreg_lt; pc_lt = f.pc_lt; sp_lt = f.sp_lt }

  pub fits_service : (on : Bool) → Fits (with_service k on)
  unfolding with_service
  fits_service on = record { count = f.count; reg_lt = f.reg_lt; sreg_lt = f.sreg_lt; pc_lt = f.pc_lt; sp_lt = f.sp_lt }

pub fits_word : (k : Core) → Fits k → (d v : ℕ) → v < 65536 → Fits (with_word k d v)
fits_word k f d v h = fits_reg (with_reg k d (v % 256)) (fits_reg k f d (v % 256) (omega arith)) (d + 1) (v / 256) (omega arith)

pub reg_word_lt : (k : Core) → Fits k → (d : ℕ) → word k d < 65536
reg_word_lt k f d = word_lt k.regs d f.reg_lt

-- ---- data: a byte put in
pub bytes_set : (m : List ℕ) (at v : ℕ) → Bytes m → v < 256 → Bytes (set m at v)
bytes_set m at v b h = record { byte_lt = set_lt m at v b.byte_lt h }
