-- The pages of transfers and of flow, with the waits of the core's rule, are the port's.
-- Assumes nothing.
use mathlib.Core.Path.{◌≡◌, refl, ap}
use mathlib.Core.Bool.{Bool, true, false, beq}
use mathlib.Core.List.{List}
use Prim.Native.Nat.{ℕ, ◌+◌, ◌*◌, ◌/◌, ◌%◌, ◌-◌, ◌<◌}
use native.Mathlib.Omega.{arith}
use native.Mathlib.Nat.{add-zero}
use lib.Dec.{eqb}
use lib.ListN.{set}
use Rattle.basis.specs.Pick.{pick}
use Rattle.basis.specs.Bit.{one, up, down}
use Rattle.basis.proofs.Every.{agreed}
use Rattle.bits.proofs.Booleans.{tauto}
use Rattle.alu.specs.Alu.{signed_of}
use Rattle.rule.specs.Rule.{load_waits, store_waits}
use Rattle.cores.specs.declared.Core.{Core}
use Rattle.cores.specs.State.{Out, out, reg, word, with_reg, with_word, with_busy, with_pc, with_sp, with_sreg}
use Rattle.cores.specs.Flow.{brbx_of, skipped, call_of, icall_of, rcall_of, ret_of, reti_of, ijmp_of, jmp_of, rjmp_of, over_second}
use Rattle.cores.specs.Transfer.{data_of, set_data_of, pointed_of, word_if, ld_of, st_of, lds_of, sts_of, lpm_of, pop_of, push_of}
use Rattle.manual.specs.Notation.{◌!◌, bar, next, goes}
use Rattle.manual.specs.Switches.{base}
use Rattle.manual.specs.Pointers.{load_cycles, store_cycles, load, load_inc, load_dec, store, store_inc, store_dec}
use Rattle.manual.specs.AdcToCpse.{brbc, brbs, branch_target, call, skips}
use Rattle.manual.specs.DecToLsr.{icall, ijmp, jmp, lds, lpm}
use Rattle.manual.specs.MovToRor.{pop, push, rcall, ret, reti, rjmp}
use Rattle.manual.specs.SbcToWdr.{sts}
use Rattle.manual.proofs.Logic.{bit_is}
use Rattle.manual.proofs.Ready.{Ready, on, next_one, next_busy, idles, next_second}

-- ---- a store's bytes and core do not depend on PC, nor on busy: it goes as well before PC steps over the second word
abbrev store_by : Bool → Bool → Bool → Core → ℕ → ℕ → List ℕ → Out
store_by a b c k at v m =
    pick a (out (with_sreg k v) m)
    (pick b (out (with_sp k (v * 256 + k.sp % 256)) m) (pick c (out (with_sp k (k.sp / 256 * 256 + v)) m) (out k (set m at v))))

store_by_second : (a b c : Bool) (k : Core) (at v : ℕ) (m : List ℕ) → store_by a b c (over_second k) at v m ≡ out (over_second (store_by a b c k at v m).core) (store_by a b c k at v m).bytes
unfolding with_pc with_sp
store_by_second true b c k at v m = refl
store_by_second false true c k at v m = refl
store_by_second false false true k at v m = refl
store_by_second false false false k at v m = refl

stored_second : (k : Core) (at v : ℕ) (m : List ℕ) → set_data_of (over_second k) at v m ≡ out (over_second (set_data_of k at v m).core) (set_data_of k at v m).bytes
unfolding set_data_of
stored_second k at v m = store_by_second (eqb at 0x3F) (eqb at 0x3E) (eqb at 0x3D) k at v m

store_by_busy : (a b c : Bool) (k : Core) (n at v : ℕ) (m : List ℕ) → store_by a b c (with_busy k n) at v m ≡ out (with_busy (store_by a b c k at v m).core n) (store_by a b c k at v m).bytes
unfolding with_busy with_sp
store_by_busy true b c k n at v m = refl
store_by_busy false true c k n at v m = refl
store_by_busy false false true k n at v m = refl
store_by_busy false false false k n at v m = refl

pub stored_busy : (k : Core) (n at v : ℕ) (m : List ℕ) → set_data_of (with_busy k n) at v m ≡ out (with_busy (set_data_of k at v m).core n) (set_data_of k at v m).bytes
unfolding set_data_of
stored_busy k n at v m = store_by_busy (eqb at 0x3F) (eqb at 0x3E) (eqb at 0x3D) k n at v m

-- ---- a branch's byte, and a Boolean as a comparison
sign : (o : ℕ) → o < 256 → one (o ! 7) ≡ o / 128
sign o h = agreed 256 1 (λ o _. one (o ! 7)) (λ o _. o / 128) tt o 0 h (omega arith)

branch_target_lem : (k : Core) (o : ℕ) → o < 256 → branch_target k o ≡ up (k.pc + 1) (signed_of o)
branch_target_lem k o h = rw (sign o h) (omega arith)

pub is_true : (b : Bool) → b ≡ beq b true
is_true b = tauto (λ b _ _. b) (λ b _ _. beq b true) tt b true true

pub is_false : (b : Bool) → bar b ≡ beq b false
is_false b = tauto (λ b _ _. bar b) (λ b _ _. beq b false) tt b true true

-- ---- the waits of pointer access, from the page's cycles
load_cycles_lem : (chip : Bool) → load_cycles (base chip) - 1 ≡ load_waits chip
unfolding load_waits
load_cycles_lem true = refl
load_cycles_lem false = refl

store_cycles_lem : (chip : Bool) → store_cycles (base chip) - 1 ≡ store_waits chip
unfolding store_waits
store_cycles_lem true = refl
store_cycles_lem false = refl

module _ (k : Core) (w : Ready k) where
  -- ---- pointers, with the waits of the core's rule
  pub load_is : (d P q : ℕ) (m : List ℕ) → load (load_cycles (base k.chip)) k d P q m ≡ ld_of (on k) d P q false false m
  unfolding load with_busy with_pc with_reg data_of pointed_of word_if
  load_is d P q m = rw (next_busy k w, load_cycles_lem k.chip)

  pub load_inc_is : (d P : ℕ) (m : List ℕ) → load_inc (load_cycles (base k.chip)) k d P m ≡ ld_of (on k) d P 0 false true m
  unfolding load_inc with_busy with_pc with_reg data_of pointed_of word_if
  load_inc_is d P m = rw (next_busy k w, load_cycles_lem k.chip, add-zero (word k P))

  pub load_dec_is : (d P : ℕ) (m : List ℕ) → load_dec (load_cycles (base k.chip)) k d P m ≡ ld_of (on k) d P 0 true false m
  unfolding load_dec with_busy with_pc with_reg data_of pointed_of word_if
  load_dec_is d P m = rw (next_busy k w, load_cycles_lem k.chip, add-zero (down (word k P) 1))

  pub store_is : (r P q : ℕ) (m : List ℕ) → store (store_cycles (base k.chip)) k r P q m ≡ st_of (on k) r P q false false m
  unfolding store with_busy with_pc pointed_of word_if
  store_is r P q m = rw (next_busy k w, store_cycles_lem k.chip)

  pub store_inc_is : (r P : ℕ) (m : List ℕ) → store_inc (store_cycles (base k.chip)) k r P m ≡ st_of (on k) r P 0 false true m
  unfolding store_inc with_busy with_pc pointed_of word_if
  store_inc_is r P m = rw (next_busy k w, store_cycles_lem k.chip, add-zero (word k P))

  pub store_dec_is : (r P : ℕ) (m : List ℕ) → store_dec (store_cycles (base k.chip)) k r P m ≡ st_of (on k) r P 0 true false m
  unfolding store_dec with_busy with_pc pointed_of word_if
  store_dec_is r P m = rw (next_busy k w, store_cycles_lem k.chip, add-zero (down (word k P) 1))

  -- ---- the program, the second word, the stack
  pub lpm_is : (d : ℕ) (p : List ℕ) → lpm k d p ≡ lpm_of (on k) d false p
  unfolding lpm with_busy with_pc word_if
  lpm_is d p = rw (next_busy k w)

  pub lpm_inc_is : (d : ℕ) (p : List ℕ) → with_word (lpm k d p) 30 (up (word k 30) 1) ≡ lpm_of (on k) d true p
  unfolding lpm with_busy with_pc word_if
  lpm_inc_is d p = rw (next_busy k w)

  pub lds_is : (d a : ℕ) (m : List ℕ) → lds k d a m ≡ over_second (lds_of (on k) d a m)
  unfolding lds with_busy with_pc with_reg data_of
  lds_is d a m = rw (next_second k 3)

  pub sts_is : (a r : ℕ) (m : List ℕ) → sts k a r m ≡ (let o = sts_of (on k) r a m in out (over_second o.core) o.bytes)
  unfolding sts with_pc
  sts_is a r m = rw (next_second k 2) (stored_second (with_busy (on k) 1) a (reg k r) m)

  pub push_is : (r : ℕ) (m : List ℕ) → push k r m ≡ push_of (on k) r m
  unfolding push with_pc
  push_is r m =
      let pushed : Core → Out = λ k₁. let o = set_data_of k₁ k.sp (reg k r) m in out (with_sp o.core (down o.core.sp 1)) o.bytes in
      rw (next_busy k w) (ap pushed (idles k w))

  pub pop_is : (d : ℕ) (m : List ℕ) → pop k d m ≡ pop_of (on k) d m
  unfolding pop with_pc with_sp with_busy
  pop_is d m = rw (next_busy k w)

  -- ---- calls, returns and jumps
  pub call_is : (t : ℕ) (m : List ℕ) → call (base k.chip) k t m ≡ call_of (on k) t m
  unfolding call goes with_pc with_busy with_sp
  call_is t m = let e : (k.pc + 2) % 65536 ≡ (k.pc + 1 + 1) % 65536 = omega arith in rw e

  pub icall_is : (m : List ℕ) → icall k m ≡ icall_of (on k) m
  unfolding icall goes with_pc with_busy with_sp
  icall_is m = let h = w.room in let e : (k.pc + 1) % 65536 ≡ k.pc + 1 = omega arith in rw e

  pub rcall_is : (o : ℕ) (m : List ℕ) → rcall k o m ≡ rcall_of (on k) o m
  unfolding rcall goes with_pc with_busy with_sp
  rcall_is o m =
      let h = w.room in
      let e : (k.pc + 1) % 65536 ≡ k.pc + 1 = omega arith in
      let f : (k.pc + o + 1) % 65536 ≡ (k.pc + 1 + o) % 65536 = omega arith in
      rw (e, f)

  pub ret_is : (m : List ℕ) → ret k m ≡ ret_of (on k) m
  unfolding ret goes with_pc with_busy with_sp
  ret_is m = refl

  pub reti_is : (m : List ℕ) → reti k m ≡ reti_of (on k) m
  unfolding reti goes with_pc with_busy with_sp
  reti_is m = refl

  pub ijmp_is : ijmp k ≡ ijmp_of (on k)
  unfolding ijmp goes with_pc with_busy
  ijmp_is = refl

  pub jmp_is : (t : ℕ) → jmp (base k.chip) k t ≡ jmp_of (on k) t
  unfolding jmp goes with_pc with_busy
  jmp_is t = refl

  pub rjmp_is : (o : ℕ) → rjmp k o ≡ rjmp_of (on k) o
  unfolding rjmp goes with_pc with_busy
  rjmp_is o = let f : (k.pc + o + 1) % 65536 ≡ (k.pc + 1 + o) % 65536 = omega arith in rw f

  -- ---- branches and skips
  branch_by : (taken : Bool) (o : ℕ) → o < 256 → pick taken (goes k (branch_target k o) 2) (next k 1 1) ≡ pick taken (with_busy (with_pc (on k) (up (on k).pc (signed_of o))) 1) (on k)
  unfolding goes with_pc with_busy
  branch_by true o h = rw (branch_target_lem k o h)
  branch_by false o h = next_one k w

  pub brbs_is : (s o : ℕ) → s < 8 → o < 256 → brbs k s o ≡ brbx_of (on k) s o true
  unfolding brbs brbx_of with_pc
  brbs_is s o hs h = rw (bit_is k.sreg s hs, ← is_true (k.sreg ! s)) (branch_by (k.sreg ! s) o h)

  pub brbc_is : (s o : ℕ) → s < 8 → o < 256 → brbc k s o ≡ brbx_of (on k) s o false
  unfolding brbc brbx_of with_pc
  brbc_is s o hs h = rw (bit_is k.sreg s hs, ← is_false (k.sreg ! s)) (branch_by (bar (k.sreg ! s)) o h)

  -- taken by the manual's test and by the port's
  skips_by : (taken two : Bool) → skips k taken two ≡ skipped (on k) taken two
  unfolding skips skipped next with_busy with_pc
  skips_by true true = let e : (k.pc + 3) % 65536 ≡ (k.pc + 1 + 2) % 65536 = omega arith in rw e
  skips_by true false = let e : (k.pc + 2) % 65536 ≡ (k.pc + 1 + 1) % 65536 = omega arith in rw e
  skips_by false two = next_one k w

  pub skips_is : (t u two : Bool) → t ≡ u → skips k t two ≡ skipped (on k) u two
  skips_is t u two e = rw e (skips_by u two)
