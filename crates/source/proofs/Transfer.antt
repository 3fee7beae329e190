-- in_ to sts of the Rust, and the arms of LDS and STS, are the port's: each panics exactly where a byte that it needs is not there.
-- Assumes nothing.
use mathlib.Core.Path.{◌≡◌, refl, ap, ◌∙◌}
use mathlib.Core.Bool.{Bool, true, false, not, ◌&&◌}
use mathlib.Core.List.{List}
use Prim.Native.Nat.{ℕ, ◌+◌, ◌/◌, ◌%◌, ◌<◌}
use native.Mathlib.Omega.{arith}
use lib.Dec.{T, eqb, ltb}
use lib.ListN.{get_or, set, length}
use lib.Seq.{get_or-set_same, get_or-set_other, set_out}
use borrow.Author.Tests.{lt-ltb, le-ltb, ltb-true, ltb-false, eqb-true, eqb-false}
use Rattle.basis.specs.Pick.{pick}
use Rattle.basis.specs.Bit.{up, down}
use Rattle.basis.proofs.Both.{both_true}
use Rattle.rule.specs.Rule.{load_waits, store_waits}
use Rattle.cores.specs.State.{Sound, reg, word, with_reg, with_word, with_busy, with_sp, with_pc, out}
use Rattle.cores.specs.Transfer.{reach_of, data_of, set_data_of, in_of, pointed_of, word_if, ld_of, st_of, lds_of, lpm_of, pop_of, push_of, sts_of}
use Rattle.cores.specs.Flow.{over_second}
use Rattle.cores.proofs.Space.{store_regs}
use Rattle.source.specs.Monad.{Self, Outcome, ok, panic, Rust, ◌>>◌, return, with_core}
use Rattle.source.specs.Integers.{pc+=}
use Rattle.source.specs.Registers.{get_ps, progmem_read}
use Rattle.source.specs.Transfer.{in_, ld, st, ldi, lds, lpm, mov, movw, push, pop, sts}
use Rattle.source.specs.Transfer as rust
use Rattle.source.proofs.Steps.{leaves, leaves_out, with_out, after_pick, swapped, under}
use Rattle.source.proofs.Registers.{get_ok, set_ok, get_word_ok, set_word_ok, count_set}
use Rattle.source.proofs.Space.{store_ok, load_ok, io_load, io_store, load_any, store_any, pc_kept}

-- `self.pc += 1` has room
pub room : (pc : ℕ) → ltb (pc + 1) 65536 ≡ ltb pc 65535
room pc = go (ltb pc 65535) refl
  where
    go : (t : Bool) → ltb pc 65535 ≡ t → ltb (pc + 1) 65536 ≡ t
    go true e = let h = ltb-true pc 65535 e in lt-ltb (pc + 1) 65536 (omega arith)
    go false e = let h = ltb-false pc 65535 e in le-ltb (pc + 1) 65536 (omega arith)

-- where it has, it does not wrap
pub room_up : {A : Type 0} (pc : ℕ) (b : Bool) (f : ℕ → Outcome A) → pick (ltb pc 65535 && b) (f (pc + 1)) panic ≡ pick (ltb pc 65535 && b) (f (up pc 1)) panic
room_up pc b f = under (ltb pc 65535 && b) f (pc + 1) (up pc 1) λ e. let h = ltb-true pc 65535 (both_true (ltb pc 65535) b e).0 in omega arith

count_set2 : (l : List ℕ) (i v j u : ℕ) → length l ≡ 32 → length (set (set l i v) j u) ≡ 32
count_set2 l i v j u e = count_set (set l i v) j u (count_set l i v e)

-- registers stay bytes
byte_set_by : (l : List ℕ) (d v : ℕ) (t u : Bool) (i : ℕ) → eqb i d ≡ t → ltb d (length l) ≡ u → ((j : ℕ) → get_or l j 0 < 256) → v < 256 → get_or (set l d v) i 0 < 256
byte_set_by l d v true true i p q f h = let e = eqb-true i d p in rw (e, get_or-set_same l d v 0 (ltb-true d (length l) q)) h
byte_set_by l d v true false i p q f h = rw (set_out l d v (ltb-false d (length l) q)) (f i)
byte_set_by l d v false u i p q f h = rw (get_or-set_other l d i v 0 (eqb-false i d p)) (f i)

byte_set : (l : List ℕ) (d v : ℕ) → ((j : ℕ) → get_or l j 0 < 256) → v < 256 → (i : ℕ) → get_or (set l d v) i 0 < 256
byte_set l d v f h i = byte_set_by l d v (eqb i d) (ltb d (length l)) i refl refl f h

-- ---- the arms of `tick`, 1321 and 1342
abbrev pub lds_arm : ℕ → ℕ → Rust Bool
lds_arm d k = do
  lds d k
  pc+= 1
  return true

abbrev pub sts_arm : ℕ → ℕ → Rust Bool
sts_arm r k = do
  sts r k
  pc+= 1
  return true

-- the waits under source
load_source : {chip : Bool} → chip ≡ false → load_waits chip ≡ 2
unfolding load_waits
load_source c = rw c

store_source : {chip : Bool} → chip ≡ false → store_waits chip ≡ 1
unfolding store_waits
store_source c = rw c

module _ (s : Self) (w : Sound s.core) where
  pub in_is : (d A : ℕ) → d < 32 → in_ d A s ≡ pick (reach_of A (length s.ds)) (leaves s (in_of s.core d A s.ds)) panic
  unfolding in_
  in_is d A hd = let e = w.count in let h = w.sp_lt in simp (io_load, after_pick, set_ok)

  -- under source
  pub ld_is : s.core.chip ≡ false → (d p q : ℕ) (dec inc : Bool) → d < 32 → p < 31
      → ld d p q dec inc s ≡ pick (reach_of (pointed_of s.core p dec + q) (length s.ds)) (leaves s (ld_of s.core d p q dec inc s.ds)) panic
  unfolding ld pointed_of word_if with_busy with_reg
  ld_is c d p q false false hd hp = let e = w.count in let h = w.sp_lt in rw (load_source c) (simp (get_word_ok, load_any, set_ok, after_pick))
  ld_is c d p q true false hd hp = let e = w.count in let h = w.sp_lt in rw (load_source c) (simp (get_word_ok, set_word_ok, load_any, set_ok, after_pick, count_set))
  ld_is c d p q false true hd hp = let e = w.count in let h = w.sp_lt in rw (load_source c) (simp (get_word_ok, set_word_ok, load_any, set_ok, after_pick, count_set))
  ld_is c d p q true true hd hp = let e = w.count in let h = w.sp_lt in rw (load_source c) (simp (get_word_ok, set_word_ok, load_any, set_ok, after_pick, count_set, count_set2))

  pub st_is : s.core.chip ≡ false → (r p q : ℕ) (dec inc : Bool) → T (not (dec && inc)) → r < 32 → p < 31
      → st r p q dec inc s ≡ pick (reach_of (pointed_of s.core p dec + q) (length s.ds)) (leaves_out s (st_of s.core r p q dec inc s.ds)) panic
  unfolding st pointed_of word_if with_busy with_reg
  st_is c r p q false false n hr hp =
      let e = w.count in
      let h = w.sp_lt in
      let b = w.reg_lt r in
      rw (store_source c) (simp (get_word_ok, store_any, after_pick))
  st_is c r p q true false n hr hp =
      let e = w.count in
      let h = w.sp_lt in
      let at = down (word s.core p) 1 in
      let b = byte_set (set s.core.regs p (at % 256)) (p + 1) (at / 256) (byte_set s.core.regs p (at % 256) w.reg_lt (omega arith)) (omega arith) r in
      rw (store_source c) (simp (get_word_ok, set_word_ok, store_any, after_pick, count_set))
  st_is c r p q false true n hr hp =
      let e = w.count in
      let h = w.sp_lt in
      let b = w.reg_lt r in
      let g = ap length (store_regs (with_busy s.core 1) (word s.core p + q) (reg s.core r) s.ds) ∙ e in
      rw (store_source c) (simp (get_word_ok, set_word_ok, store_any, after_pick))
  st_is c r p q true true n hr hp = absurd n

  pub ldi_is : (d K : ℕ) → d < 32 → ldi d K s ≡ leaves s (with_reg s.core d K)
  unfolding ldi
  ldi_is d K hd = set_ok s d K w.count hd

  pub lds_is : (d k : ℕ) → d < 32
      → lds_arm d k s ≡ pick (ltb s.core.pc 65535 && reach_of k (length s.ds)) (ok true (with_core s (over_second (lds_of s.core d k s.ds)))) panic
  unfolding lds with_busy with_reg with_pc data_of
  lds_is d k hd =
      let e = w.count in
      let h = w.sp_lt in
      simp (load_ok, after_pick, set_ok, room, swapped)
      (room_up s.core.pc (reach_of k (length s.ds)) (λ x. ok true (with_core s (with_pc (lds_of s.core d k s.ds) x))))

  pub lpm_is : (d : ℕ) (inc : Bool) → d < 32
      → lpm d inc s ≡ pick (ltb (word s.core 30) (length s.progmem)) (leaves s (lpm_of s.core d inc s.progmem)) panic
  unfolding lpm get_ps progmem_read word_if with_busy with_reg
  lpm_is d false hd = let e = w.count in let l : 30 < 31 = omega arith in simp (get_word_ok, set_ok, after_pick)
  lpm_is d true hd = let e = w.count in let l : 30 < 31 = omega arith in simp (get_word_ok, set_word_ok, set_ok, after_pick, count_set)

  pub mov_is : (d r : ℕ) → d < 32 → r < 32 → mov d r s ≡ leaves s (with_reg s.core d (reg s.core r))
  unfolding mov
  mov_is d r hd hr = let e = w.count in rw (get_ok s r, set_ok s d)

  pub movw_is : (d r : ℕ) → d < 31 → r < 31 → movw d r s ≡ leaves s (with_word s.core d (word s.core r))
  unfolding movw
  movw_is d r hd hr = let e = w.count in rw (get_word_ok s r, set_word_ok s d)

  pub out_is : (A r : ℕ) → r < 32 → rust.out A r s ≡ pick (reach_of A (length s.ds)) (leaves_out s (set_data_of s.core A (reg s.core r) s.ds)) panic
  unfolding rust.out
  out_is A r hr =
      let e = w.count in
      let h = w.sp_lt in
      let b = w.reg_lt r in
      simp (get_ok, io_store)

  pub pop_is : (d : ℕ) → d < 32 → pop d s ≡ pick (reach_of (up s.core.sp 1) (length s.ds)) (leaves s (pop_of s.core d s.ds)) panic
  unfolding pop with_sp with_busy
  pop_is d hd =
      let e = w.count in
      let h : up s.core.sp 1 < 65536 = omega arith in
      rw (load_ok, after_pick, set_ok)

  pub push_is : (r : ℕ) → r < 32 → push r s ≡ pick (reach_of s.core.sp (length s.ds)) (leaves_out s (push_of s.core r s.ds)) panic
  unfolding push with_sp
  push_is r hr =
      let e = w.count in
      rw (get_ok s r, store_ok s s.core.sp (reg s.core r) w.sp_lt (w.reg_lt r), after_pick)

  pub sts_is : (r k : ℕ) → r < 32
      → sts_arm r k s
      ≡ pick (ltb s.core.pc 65535 && reach_of k (length s.ds)) (ok true (with_out s (let o = sts_of s.core r k s.ds in out (over_second o.core) o.bytes))) panic
  unfolding sts with_busy with_pc
  sts_is r k hr =
      let e = w.count in
      let h = w.sp_lt in
      let b = w.reg_lt r in
      let o = sts_of s.core r k s.ds in
      simp (get_ok, store_ok, after_pick, pc_kept, room, swapped)
      (room_up s.core.pc (reach_of k (length s.ds)) (λ x. ok true (with_out s (out (with_pc o.core x) o.bytes))))
