-- A page whose switch is turned, as it was and as it is: ADIW, pointer access, and the others that have one.
-- Assumes nothing.
use mathlib.Core.Path.{◌≡◌, refl, sym, ap}
use mathlib.Core.Bool.{Bool, true, false, not, ◌||◌}
use mathlib.Core.List.{List}
use Prim.Native.Nat.{ℕ, ◌+◌, ◌%◌, ◌-◌, ◌<◌}
use native.Mathlib.Omega.{arith}
use lib.Dec.{leb}
use borrow.Author.Tests.{leb-false}
use Rattle.basis.specs.Pick.{pick}
use Rattle.basis.specs.Bit.{up, down}
use Rattle.bits.proofs.Booleans.{five_agree}
use Rattle.cores.specs.declared.Core.{Core}
use Rattle.cores.specs.State.{reg, word, with_reg, with_word, with_sreg, with_busy, with_pc, with_sp, with_inhibit}
use Rattle.cores.specs.Transfer.{data_of}
use Rattle.tick.specs.declared.Answer.{Answer}
use Rattle.tick.specs.declared.Answer.TheVariants.{Ran}
use Rattle.manual.specs.Notation.{◌!◌, ◌•◌, ◌⊕◌, bar, zero16, kept, is, row, STACK←, next, goes}
use Rattle.manual.specs.Switches.{Says, undefined, says, ran, ran_out, defined_if}
use Rattle.manual.specs.Pointers.{load, load_inc, load_dec, store, store_inc, store_dec}
use Rattle.manual.specs.Differences.{overflow_by, waits, inhibits, lands, as_set}
use Rattle.manual.proofs.Flow.{stored_busy}

-- ---- ADIW: V and S made again over a row that has them
row_again : (v g n z c : Bool) (s : ℕ) → s < 256
    → let x = row s kept kept kept (is (n ⊕ v)) (is v) (is n) (is z) (is c) in
    row s kept kept kept (is (n ⊕ (bar g • n))) (is (bar g • n)) (is n) (is z) (is c) ≡ row x kept kept kept (is (x ! 2 ⊕ (bar g • x ! 2))) (is (bar g • x ! 2)) kept kept kept
unfolding row
row_again =
    five_agree 256 (λ v g n z c s. row s kept kept kept (is (n ⊕ (bar g • n))) (is (bar g • n)) (is n) (is z) (is c))
    (λ v g n z c s. let x = row s kept kept kept (is (n ⊕ v)) (is v) (is n) (is z) (is c) in row x kept kept kept (is (x ! 2 ⊕ (bar g • x ! 2))) (is (bar g • x ! 2)) kept kept kept) tt

-- the page of ADIW, with the bit that V looks at
abbrev adiw_by : Bool → Core → ℕ → ℕ → Core
adiw_by old k d K =
    let R = (word k d + K) % 65536 in
    let «V» = bar old • R ! 15 in
    with_sreg (with_word (next k 1 2) d R) (row k.sreg kept kept kept (is (R ! 15 ⊕ «V»)) (is «V») (is (R ! 15)) (is (zero16 R)) (is (bar (R ! 15) • reg k (d + 1) ! 7)))

module _ (k : Core) (d K : ℕ) (m : List ℕ) (h : k.sreg < 256) where
  adiw_again : (old : Bool) (b : ℕ) → ran (adiw_by (b ! 7) k d K) m ≡ overflow_by b (ran (adiw_by old k d K) m)
  adiw_again old b =
      let R = (word k d + K) % 65536 in
      ap (λ (x : ℕ). ran (with_sreg (with_word (next k 1 2) d R) x) m)
      (row_again (bar old • R ! 15) (b ! 7) (R ! 15) (zero16 R) (bar (R ! 15) • reg k (d + 1) ! 7) k.sreg h)

  -- by the switch, as it was and as it is
  pub adiw_by_lem : (was on : Bool)
      → let page : Bool → Says = λ low. ran (adiw_by (pick low (reg k d ! 7) (reg k (d + 1) ! 7)) k d K) m in
      page on ≡ as_set was on (page was) (overflow_by (reg k (pick on d (d + 1))) (page was))
  adiw_by_lem true true = refl
  adiw_by_lem true false = adiw_again (reg k d ! 7) (reg k (d + 1))
  adiw_by_lem false true = adiw_again (reg k (d + 1) ! 7) (reg k d)
  adiw_by_lem false false = refl

-- ---- pointer access, by the switch as it was and as it is: a page that takes c cycles is one of any others, with the waits of c
pub cycles_by : (page : ℕ → Says) → ((c other : ℕ) → page c ≡ waits (c - 1) (page other)) → (more less : ℕ) (was on : Bool)
    → let said : Bool → Says = λ b. page (pick b more less) in said on ≡ as_set was on (said was) (waits (pick on (more - 1) (less - 1)) (said was))
cycles_by page h more less true true = refl
cycles_by page h more less true false = h less more
cycles_by page h more less false true = h more less
cycles_by page h more less false false = refl

module _ (k : Core) (r P : ℕ) (m : List ℕ) (c other : ℕ) where
  pub load_cycles_lem : (q : ℕ) → ran (load c k r P q m) m ≡ waits (c - 1) (ran (load other k r P q m) m)
  unfolding load next with_busy with_pc with_reg
  load_cycles_lem q = refl

  pub load_inc_cycles : ran (load_inc c k r P m) m ≡ waits (c - 1) (ran (load_inc other k r P m) m)
  unfolding load_inc next with_busy with_pc with_reg
  load_inc_cycles = refl

  pub load_dec_cycles : ran (load_dec c k r P m) m ≡ waits (c - 1) (ran (load_dec other k r P m) m)
  unfolding load_dec next with_busy with_pc with_reg data_of
  load_dec_cycles = refl

  next_cycles : next k 1 c ≡ with_busy (next k 1 other) (c - 1)
  unfolding next with_busy
  next_cycles = refl

  pub store_cycles_lem : (q : ℕ) → ran_out (store c k r P q m) ≡ waits (c - 1) (ran_out (store other k r P q m))
  unfolding store
  store_cycles_lem q = rw (next_cycles, stored_busy (next k 1 other) (c - 1) (word k P + q) (reg k r) m)

  pub store_inc_cycles : ran_out (store_inc c k r P m) ≡ waits (c - 1) (ran_out (store_inc other k r P m))
  unfolding store_inc with_reg with_busy
  store_inc_cycles = rw (next_cycles, stored_busy (next k 1 other) (c - 1) (word k P) (reg k r) m)

  pub store_dec_cycles : ran_out (store_dec c k r P m) ≡ waits (c - 1) (ran_out (store_dec other k r P m))
  unfolding store_dec with_reg with_busy
  store_dec_cycles =
      let a = down (word k P) 1 in
      let k₁ = with_word (next k 1 other) P a in
      rw (next_cycles, stored_busy k₁ (c - 1) a (reg k₁ r) m)

-- ---- the others
-- through a stepped pointer
pub defined_by : (on t : Bool) {x y : Says} → x ≡ y → defined_if (on || not t) x ≡ pick t (pick on y undefined) y
defined_by true true e = e
defined_by true false e = e
defined_by false true e = refl
defined_by false false e = e

pub next_inhibit : (k : Core) → (next k 1 1).inhibit ≡ k.inhibit
unfolding next with_busy with_pc
next_inhibit k = refl

-- SEI, from a core with inhibit clear
pub sei_by : (was on t : Bool) (k : Core) (m : List ℕ) → k.inhibit ≡ false
    → let page : Bool → Says = λ b. ran (pick (b || not t) k (with_inhibit k true)) m in
    page on ≡ pick t (as_set was on (page was) (inhibits (not on) (page was))) (page was)
unfolding with_inhibit
sei_by true true true k m h = refl
sei_by true false true k m h = refl
sei_by false true true k m h = ap (λ (b : Bool). ran (with_inhibit k b) m) h
sei_by false false true k m h = refl
sei_by true true false k m h = refl
sei_by true false false k m h = refl
sei_by false true false k m h = refl
sei_by false false false k m h = refl

pub answer_by : (on : Bool) (a : Answer) (k : Core) (m : List ℕ) → says (pick on a Ran) k m ≡ pick on (says a k m) (says Ran k m)
answer_by true a k m = refl
answer_by false a k m = refl

-- CALL and JMP, by what going to t does
near : (t : ℕ) → leb 65536 t ≡ false → t % 65536 ≡ t
near t e = let l = leb-false 65536 t e in omega arith

pub target_by : (to : ℕ → Says) → ((t u : ℕ) → to t ≡ lands t (to u)) → (on far : Bool) (t : ℕ) → leb 65536 t ≡ far
    → to (pick on (t % 65536) t) ≡ pick far (pick on (to (t % 65536)) (lands t (to (t % 65536)))) (to (t % 65536))
target_by to h true true t e = refl
target_by to h true false t e = refl
target_by to h false true t e = h t (t % 65536)
target_by to h false false t e = ap to (sym (near t e))

pub call_lands : (k : Core) (m : List ℕ) (t u : ℕ) → let called : ℕ → Says = λ t. ran_out (STACK← (goes k t 3) (up k.pc 2) m) in called t ≡ lands t (called u)
unfolding goes with_pc with_busy with_sp
call_lands k m t u = refl

pub jump_lands : (k : Core) (m : List ℕ) (t u : ℕ) → ran (goes k t 3) m ≡ lands t (ran (goes k u 3) m)
unfolding goes with_pc with_busy
jump_lands k m t u = refl
