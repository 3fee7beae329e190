-- The table at the functions around the tick.
-- Assumes nothing.
use mathlib.Core.Path.{◌≡◌, refl, sym}
use mathlib.Core.Logic.{◌↔◌, inl, inr}
use mathlib.Core.Bool.{Bool, true, false, not, ◌&&◌}
use mathlib.Core.List.{List}
use Prim.Native.Nat.{ℕ, zero, suc, ◌/◌, ◌%◌, ◌<◌}
use native.Mathlib.Omega.{arith}
use lib.Dec.{eqb, ltb}
use lib.ListN.{get_or}
use Rattle.basis.proofs.Choice.{clash, test}
use Rattle.cores.specs.declared.Core.{Core}
use Rattle.cores.specs.State.{read_register_of, set_register_of}
use Rattle.tick.specs.Offer.{Offer}
use Rattle.tick.specs.Tick.{Tick, number_of, refuses, stops, tick_of}
use Rattle.run.specs.Run.{Run, ran, run_of, goes_on}
use Rattle.run.proofs.Unroll.{step}
use Rattle.snapshot.specs.Snapshot.{write_of, read_of}
use Rattle.invariants.proofs.Ticks.{ticks_answer_tick_numbers}
use Rattle.table.specs.Calls.{register_rows, RegistersByTheTable, of38, write_rows, WritesByTheTable, read_rows, ReadsByTheTable, RunsByTheTable}
use Rattle.table.proofs.Table.{shown}

-- ---- registers
pub registers_by_the_table : RegistersByTheTable
registers_by_the_table k r v = (
  shown (read_register_of k r).refusal (register_rows r) (test (ltb r 32) (λ e. rw e tt) λ e. rw e tt),
  test (ltb r 32) (λ e. rw e (λ z. absurd (omega arith))) (λ e. rw e (λ z. refl)),
  shown (set_register_of k r v).refusal (register_rows r) (test (ltb r 32) (λ e. rw e tt) λ e. rw e tt),
  test (ltb r 32) (λ e. rw e (λ z. absurd (omega arith))) (λ e. rw e (λ z. refl)),
)

-- ---- snapshots
module _ (s : List ℕ) where
  pub by_checks : {X : Type 0} → (of38 s ≡ false → X) → (of38 s ≡ true → ltb 4 (get_or s 37 0 / 32) ≡ true → X)
      → (of38 s ≡ true → ltb 4 (get_or s 37 0 / 32) ≡ false → eqb (get_or s 37 0 % 4) 0 ≡ false → X)
      → (of38 s ≡ true → ltb 4 (get_or s 37 0 / 32) ≡ false → eqb (get_or s 37 0 % 4) 0 ≡ true → X) → X
  by_checks short busy spare fine =
      test (of38 s) (λ w. test (ltb 4 (get_or s 37 0 / 32)) (busy w) λ b. test (eqb (get_or s 37 0 % 4) 0) (fine w b) (spare w b)) short

pub writes_by_the_table : WritesByTheTable
writes_by_the_table k s = (
  shown (write_of k s).refusal (write_rows k s)
      (test (of38 s) (λ w. test (ltb 4 k.busy) (λ b. rw (w, b) tt) λ b. rw (w, b) tt) λ w. rw w tt),
  test (of38 s) (λ w. test (ltb 4 k.busy) (λ b. rw (w, b) (λ z. refl)) λ b. rw (w, b) (λ z. absurd (z refl))) (λ w. rw w (λ z. refl)),
)

pub reads_by_the_table : ReadsByTheTable
reads_by_the_table s =
    shown (read_of s).refusal (read_rows s)
    (by_checks s (λ w. rw w tt) (λ w b. rw (w, b) tt) (λ w b z. rw (w, b, z) tt) λ w b z. rw (w, b, z) tt)

-- ---- runs
-- a tick, and the rest of a run of which the statement holds
counted : (r s : Bool) (t : Tick) (x : Run) (g : Bool) (b : ℕ) → (number_of t.answer ≡ 24 → ⊥)
    → ((x.answer ≡ 24) ↔ (g ≡ true)) × (x.answer ≡ 24 → x.count ≡ b)
    → (((step r s t x).answer ≡ 24) ↔ ((not r && not s && g) ≡ true)) × ((step r s t x).answer ≡ 24 → (step r s t x).count ≡ suc b)
counted true s t x g b n h = ((λ e. absurd (n e), λ e. clash (sym e)), λ e. absurd (n e))
counted false true t x g b n h = ((λ e. absurd (n e), λ e. clash (sym e)), λ e. absurd (n e))
counted false false t x g b n (h, c) = (h, λ e. omega (arith, c e))

below_24 : (k : Core) (p m : List ℕ) (o : Offer) → number_of (tick_of k p m o).answer < 24
below_24 k p m o = elim (ticks_answer_tick_numbers k p m o) [ inl h ↦ omega arith | inr h ↦ omega arith ]

pub runs_by_the_table : RunsByTheTable
unfolding ran
runs_by_the_table zero k p m o = ((λ e. refl, λ e. refl), λ e. refl)
runs_by_the_table (suc b) k p m o =
    let t = tick_of k p m o in
    let l = below_24 k p m o in
    counted (refuses t.answer) (stops t.answer) t (run_of b t.core p t.bytes o) (goes_on b t.core p t.bytes o) b (λ e. omega arith)
    (runs_by_the_table b t.core p t.bytes o)
