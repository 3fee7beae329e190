-- brbx, call, icall, ijmp, jmp, rcall, ret, reti and rjmp of the Rust are the port's. Calls and returns panic exactly where 01 refuses them.
-- Assumes nothing.
use mathlib.Core.Path.{◌≡◌, refl}
use mathlib.Core.Bool.{Bool, true, false, ◌&&◌}
use Prim.Native.Nat.{ℕ, suc, ◌+◌, ◌*◌, ◌/◌, ◌%◌, ◌-◌, ◌<◌}
use native.Mathlib.Omega.{arith}
use lib.Dec.{ltb, leb}
use lib.IntN.{pos, negsuc, ◌+ℤ◌}
use lib.ListN.{get_or, set, length, length-set}
use borrow.Author.Tests.{lt-ltb, le-ltb, ltb-true, ltb-false}
use Rattle.basis.specs.Pick.{pick}
use Rattle.basis.specs.Bit.{up}
use Rattle.basis.specs.Bytes.{Bytes}
use Rattle.alu.specs.Alu.{signed_of}
use Rattle.cores.specs.declared.Core.{Core}
use Rattle.cores.specs.State.{Sound, out, word, with_pc, with_sp, with_busy, with_service, with_inhibit, flag}
use Rattle.cores.specs.Flow.{brbx_of, call_of, icall_of, ijmp_of, jmp_of, rcall_of, ret_of, reti_of, rjmp_of}
use Rattle.source.specs.Monad.{Self, Outcome, panic}
use Rattle.source.specs.Integers.{u8_as_i8, signed_as_u16}
use Rattle.source.specs.Registers.{ds_read, ds_write}
use Rattle.source.specs.Flow.{brbx, call, icall, ijmp, jmp, rcall, ret, interrupt_handler_reti, reti, rjmp}
use Rattle.source.proofs.Steps.{leaves, leaves_out, after_pick}
use Rattle.source.proofs.Registers.{get_word_ok, flag_ok}
use Rattle.source.proofs.Stack.{push_tests, pop_tests, less_two, more_two, high_byte, joined}

-- ---- `pc as i32 + k as i8 as i32`, as a u16
back_jump : (y x : ℕ) → y + x ≡ 65535 → 65535 - y % 65536 ≡ x % 65536
back_jump y x e = let f : y % 65536 ≡ y = omega arith in let g : x % 65536 ≡ x = omega arith in omega arith

wrap_jump : (y x : ℕ) → y + 65536 ≡ x → y % 65536 ≡ x % 65536
wrap_jump y x e = omega arith

jump_by : (pc k : ℕ) (t u : Bool) → ltb k 128 ≡ t → ltb pc (256 - k) ≡ u → pc < 65536 → k < 256
    → signed_as_u16 (pos pc +ℤ pick t (pos k) (negsuc (255 - k))) ≡ up pc (signed_of k)
jump_by pc k true u p q hpc hk = let h = ltb-true k 128 p in let e : k / 128 ≡ 0 = omega arith in rw e (omega arith)
jump_by pc k false true p q hpc hk =
    let h = ltb-false k 128 p in
    let g = ltb-true pc (256 - k) q in
    let e : k / 128 ≡ 1 = omega arith in
    let f : suc (255 - k) ≡ 256 - k = omega arith in
    rw (f, q, e) (back_jump (256 - k - suc pc) (pc + (k + 65280)) (omega arith))
jump_by pc k false false p q hpc hk =
    let h = ltb-false k 128 p in
    let g = ltb-false pc (256 - k) q in
    let e : k / 128 ≡ 1 = omega arith in
    let f : suc (255 - k) ≡ 256 - k = omega arith in
    rw (f, q, e) (wrap_jump (pc - (256 - k)) (pc + (k + 65280)) (omega arith))

jump : (pc k : ℕ) → pc < 65536 → k < 256 → signed_as_u16 (pos pc +ℤ u8_as_i8 k) ≡ up pc (signed_of k)
jump pc k hpc hk = jump_by pc k (ltb k 128) (ltb pc (256 - k)) refl refl hpc hk

module _ (s : Self) (w : Sound s.core) where
  -- what a call leaves, by the place of the high byte and by SP
  abbrev calls_to : ℕ → ℕ → ℕ → ℕ → ℕ → Outcome Unit
  calls_to back t n at sp = leaves_out s (out (with_pc (with_sp (with_busy s.core n) sp) t) (set (set s.ds s.core.sp (back % 256)) at (back / 256)))

  -- what a return leaves, by the places of the two bytes
  abbrev returned : ℕ → ℕ → Core
  returned h l = with_pc (with_sp (with_busy s.core 3) l) (get_or s.ds h 0 * 256 + get_or s.ds l 0)

  branch_by : (b k : ℕ) (on t : Bool) → flag s.core b ≡ t → b < 8 → k < 256 → brbx b k on s ≡ leaves s (brbx_of s.core b k on)
  unfolding brbx brbx_of with_pc with_busy
  branch_by b k true true e hb hk = rw (lt-ltb b 8 hb, flag_ok s b w.sreg_lt hb, e, jump s.core.pc k w.pc_lt hk)
  branch_by b k true false e hb hk = rw (lt-ltb b 8 hb, flag_ok s b w.sreg_lt hb, e)
  branch_by b k false true e hb hk = rw (lt-ltb b 8 hb, flag_ok s b w.sreg_lt hb, e)
  branch_by b k false false e hb hk = rw (lt-ltb b 8 hb, flag_ok s b w.sreg_lt hb, e, jump s.core.pc k w.pc_lt hk)

  pub brbx_is : (b k : ℕ) (on : Bool) → b < 8 → k < 256 → brbx b k on s ≡ leaves s (brbx_of s.core b k on)
  brbx_is b k on hb hk = branch_by b k on (flag s.core b) refl hb hk

  call_by : (k : ℕ) (r : Bool) → ltb s.core.pc 65535 ≡ r
      → call k s ≡ pick (r && (leb 2 s.core.sp && ltb s.core.sp (length s.ds))) (leaves_out s (call_of s.core k s.ds)) panic
  unfolding call ds_write with_sp with_pc with_busy
  call_by k true p =
      let h = ltb-true s.core.pc 65535 p in
      let f : up s.core.pc 1 ≡ s.core.pc + 1 = omega arith in
      simp (lt-ltb (s.core.pc + 1) 65536 (omega arith), after_pick, length-set, less_two, high_byte (s.core.pc + 1) (omega arith), f)
      (push_tests s.core.sp (length s.ds) w.sp_lt (calls_to (s.core.pc + 1) (k % 65536) 2))
  call_by k false p = let h = ltb-false s.core.pc 65535 p in rw (le-ltb (s.core.pc + 1) 65536 (omega arith))

  pub call_is : (k : ℕ)
      → call k s ≡ pick (ltb s.core.pc 65535 && (leb 2 s.core.sp && ltb s.core.sp (length s.ds))) (leaves_out s (call_of s.core k s.ds)) panic
  call_is k = call_by k (ltb s.core.pc 65535) refl

  pub icall_is : icall s ≡ pick (leb 2 s.core.sp && ltb s.core.sp (length s.ds)) (leaves_out s (icall_of s.core s.ds)) panic
  unfolding icall ds_write with_sp with_pc with_busy
  icall_is =
      let e = w.count in
      let l : 30 < 31 = omega arith in
      simp (after_pick, length-set, get_word_ok, less_two, high_byte s.core.pc w.pc_lt)
      (push_tests s.core.sp (length s.ds) w.sp_lt (calls_to s.core.pc (word s.core 30) 1))

  pub ijmp_is : ijmp s ≡ leaves s (ijmp_of s.core)
  unfolding ijmp with_pc with_busy
  ijmp_is = let e = w.count in let l : 30 < 31 = omega arith in rw get_word_ok

  pub jmp_is : (k : ℕ) → jmp k s ≡ leaves s (jmp_of s.core k)
  unfolding jmp
  jmp_is k = refl

  pub rcall_is : (k : ℕ) → rcall k s ≡ pick (leb 2 s.core.sp && ltb s.core.sp (length s.ds)) (leaves_out s (rcall_of s.core k s.ds)) panic
  unfolding rcall ds_write with_sp with_pc with_busy
  rcall_is k =
      simp (after_pick, length-set, less_two, high_byte s.core.pc w.pc_lt)
      (push_tests s.core.sp (length s.ds) w.sp_lt (calls_to s.core.pc (up s.core.pc k) 1))

  pub ret_is : Bytes s.ds → ret s ≡ pick (leb s.core.sp 65533 && ltb (s.core.sp + 2) (length s.ds)) (leaves s (ret_of s.core s.ds)) panic
  unfolding ret ds_read with_sp with_pc with_busy
  ret_is m =
      let sp = s.core.sp in
      simp (after_pick, more_two, joined (get_or s.ds (sp + 1) 0) (get_or s.ds (sp + 2) 0) (m.byte_lt (sp + 1)) (m.byte_lt (sp + 2)))
      (pop_tests sp (length s.ds) w.sp_lt (λ h l. leaves s (returned h l)))

  pub reti_is : Bytes s.ds → reti s ≡ pick (leb s.core.sp 65533 && ltb (s.core.sp + 2) (length s.ds)) (leaves s (reti_of s.core s.ds)) panic
  unfolding reti interrupt_handler_reti ds_read with_sp with_pc with_busy with_service with_inhibit
  reti_is m =
      let sp = s.core.sp in
      simp (after_pick, more_two, joined (get_or s.ds (sp + 1) 0) (get_or s.ds (sp + 2) 0) (m.byte_lt (sp + 1)) (m.byte_lt (sp + 2)))
      (pop_tests sp (length s.ds) w.sp_lt (λ h l. leaves s (with_inhibit (with_service (returned h l) false) true)))

  pub rjmp_is : (k : ℕ) → rjmp k s ≡ leaves s (rjmp_of s.core k)
  unfolding rjmp with_busy
  rjmp_is k = refl
