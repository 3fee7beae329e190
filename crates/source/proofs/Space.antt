-- The Rust's data space and I/O registers are the port's: where the address cannot be reached they panic.
-- Assumes nothing.
use mathlib.Core.Path.{◌≡◌, refl}
use mathlib.Core.Bool.{Bool, true, false}
use mathlib.Core.List.{List}
use Prim.Native.Nat.{ℕ, ◌+◌, ◌*◌, ◌/◌, ◌%◌, ◌<◌}
use native.Mathlib.Omega.{arith}
use lib.Dec.{eqb, ltb}
use lib.Bits.{bit_and, bit_or, and_mask, and_high, or_shifted, or_shifted_r}
use lib.ListN.{get_or, length}
use borrow.Author.Tests.{ltb-true, ne_eqb}
use Rattle.basis.specs.Pick.{pick}
use Rattle.basis.proofs.Choice.{either}
use Rattle.cores.specs.declared.Core.{Core}
use Rattle.cores.specs.State.{Out, reg, with_sp}
use Rattle.cores.specs.Transfer.{reach_of, data_of, set_data_of}
use Rattle.source.specs.Monad.{Self, ok, panic, ◌>>=◌, if'◌then◌else◌}
use Rattle.source.specs.Integers.{as_u8}
use Rattle.source.specs.Registers.{ds_read, ds_write, get_register, set_register, get_io_register, set_io_register, get_data_space, set_data_space}
use Rattle.source.proofs.Steps.{with_out, after_pick}
use Rattle.source.proofs.Registers.{get_ok}

-- ---- SP by its two bytes
high_of : (sp v : ℕ) → v < 256 → bit_or (bit_and sp 255) (v * 256 % 65536) ≡ v * 256 + sp % 256
high_of sp v h = let e : v * 256 % 65536 ≡ v * 256 = omega arith in rw (e, and_mask sp 8) (or_shifted_r v 8 (sp % 256) (omega arith))

low_of : (sp v : ℕ) → sp < 65536 → v < 256 → bit_or (bit_and sp 65280) v ≡ sp / 256 * 256 + v
low_of sp v h hv = rw (and_high sp 8 8, or_shifted (sp / 256 % 256) 8 v hv) (omega arith)

low_byte : (sp : ℕ) → bit_and sp 255 % 256 ≡ sp % 256
low_byte sp = rw (and_mask sp 8) (omega arith)

-- ---- data space, by the three addresses that are not data
store_by : (s : Self) (at v : ℕ) (x y z : Bool) → eqb at 63 ≡ x → eqb at 62 ≡ y → eqb at 61 ≡ z → s.core.sp < 65536 → v < 256
    → set_data_space at v s ≡ pick (reach_of at (length s.ds)) (ok tt (with_out s (set_data_of s.core at v s.ds))) panic
unfolding set_data_space reach_of set_data_of with_sp ds_write
store_by s at v true y z p q r h hv = rw p
store_by s at v false true z p q r h hv = rw (p, q, high_of s.core.sp v hv)
store_by s at v false false true p q r h hv = rw (p, q, r, low_of s.core.sp v h hv)
store_by s at v false false false p q r h hv = rw (p, q, r)

pub store_ok : (s : Self) (at v : ℕ) → s.core.sp < 65536 → v < 256
    → set_data_space at v s ≡ pick (reach_of at (length s.ds)) (ok tt (with_out s (set_data_of s.core at v s.ds))) panic
store_ok s at v h hv = store_by s at v (eqb at 63) (eqb at 62) (eqb at 61) refl refl refl h hv

load_by : (s : Self) (at : ℕ) (x y z : Bool) → eqb at 63 ≡ x → eqb at 62 ≡ y → eqb at 61 ≡ z → s.core.sp < 65536
    → get_data_space at s ≡ pick (reach_of at (length s.ds)) (ok (data_of s.core at s.ds) s) panic
unfolding get_data_space reach_of data_of ds_read
load_by s at true y z p q r h = rw p
load_by s at false true z p q r h = let e : s.core.sp / 256 % 256 ≡ s.core.sp / 256 = omega arith in rw (p, q, e)
load_by s at false false true p q r h = rw (p, q, r, low_byte s.core.sp)
load_by s at false false false p q r h = rw (p, q, r)

pub load_ok : (s : Self) (at : ℕ) → s.core.sp < 65536 → get_data_space at s ≡ pick (reach_of at (length s.ds)) (ok (data_of s.core at s.ds) s) panic
load_ok s at h = load_by s at (eqb at 63) (eqb at 62) (eqb at 61) refl refl refl h

-- a store leaves PC
pub pc_kept : (k : Core) (at v : ℕ) (m : List ℕ) → (set_data_of k at v m).core.pc ≡ k.pc
unfolding set_data_of with_sp
pc_kept k at v m =
    let P : Out → Type 0 = λ o. o.core.pc ≡ k.pc in
    either P (eqb at 0x3F) _ _ refl (either P (eqb at 0x3E) _ _ refl (either P (eqb at 0x3D) _ _ refl refl))

-- ---- an I/O register is the data space's
pub io_load : (s : Self) (at : ℕ) → s.core.sp < 65536 → get_io_register at s ≡ pick (reach_of at (length s.ds)) (ok (data_of s.core at s.ds) s) panic
unfolding get_io_register get_data_space
io_load s at h = load_ok s at h

pub io_store : (s : Self) (at v : ℕ) → s.core.sp < 65536 → v < 256
    → set_io_register at v s ≡ pick (reach_of at (length s.ds)) (ok tt (with_out s (set_data_of s.core at v s.ds))) panic
unfolding set_io_register set_data_space
io_store s at v h hv = store_ok s at v h hv

-- below 32 it is a byte of data
pub io_port : (s : Self) (A : ℕ) → A < 32 → get_io_register A s ≡ pick (ltb A (length s.ds)) (ok (get_or s.ds A 0) s) panic
unfolding get_io_register ds_read
io_port s A h = simp (ne_eqb A 63 (omega arith), ne_eqb A 62 (omega arith), ne_eqb A 61 (omega arith))

-- ---- the two roads of `ld` and `st`, below 64 and above, come to one
narrow : (at : ℕ) → at < 64 → at % 256 ≡ at
narrow at h = omega arith

load_by_road : (s : Self) (at d : ℕ) (t : Bool) → ltb at 64 ≡ t → s.core.sp < 65536
    → (if' t then (do set_register d (← get_io_register (as_u8 at))) else (do set_register d (← get_data_space at))) s
    ≡ pick (reach_of at (length s.ds)) (set_register d (data_of s.core at s.ds) s) panic
load_by_road s at d true p l = let h = ltb-true at 64 p in rw (narrow at h, io_load, after_pick)
load_by_road s at d false p l = rw (load_ok, after_pick)

pub load_any : (s : Self) (at d : ℕ) → s.core.sp < 65536
    → (if' ltb at 64 then (do set_register d (← get_io_register (as_u8 at))) else (do set_register d (← get_data_space at))) s
    ≡ pick (reach_of at (length s.ds)) (set_register d (data_of s.core at s.ds) s) panic
load_any s at d l = load_by_road s at d (ltb at 64) refl l

store_by_road : (s : Self) (at r : ℕ) (t : Bool) → ltb at 64 ≡ t → length s.core.regs ≡ 32 → reg s.core r < 256 → s.core.sp < 65536 → r < 32
    → (if' t then (do set_io_register (as_u8 at) (← get_register r)) else (do set_data_space at (← get_register r))) s
    ≡ pick (reach_of at (length s.ds)) (ok tt (with_out s (set_data_of s.core at (reg s.core r) s.ds))) panic
store_by_road s at r true p e b h hr = let g = ltb-true at 64 p in rw (narrow at g, get_ok s r, io_store)
store_by_road s at r false p e b h hr = rw (get_ok s r, store_ok)

pub store_any : (s : Self) (at r : ℕ) → length s.core.regs ≡ 32 → reg s.core r < 256 → s.core.sp < 65536 → r < 32
    → (if' ltb at 64 then (do set_io_register (as_u8 at) (← get_register r)) else (do set_data_space at (← get_register r))) s
    ≡ pick (reach_of at (length s.ds)) (ok tt (with_out s (set_data_of s.core at (reg s.core r) s.ds))) panic
store_any s at r e b h hr = store_by_road s at r (ltb at 64) refl e b h hr
