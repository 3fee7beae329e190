-- A run of a core through its snapshot.
-- Assumes nothing.
use Rattle.std.proofs.Common.{◌≡◌, ℕ, zero, suc, ◌<◌, ◌≤◌, Bool, true, false, ltb, List, length, get_or, Fits, w8, Result, Ok, IsOk, is_ok, sym, refl, ap, ◌∙◌, arith, ltb-true, ltb-false, lt-ltb, eq-eqb}
use Rattle.basis.specs.Bytes.{Bytes}
use Rattle.basis.proofs.Choice.{test}
use Rattle.cores.specs.declared.Core.{Core}
use Rattle.cores.specs.State.{Sound}
use Rattle.tick.specs.Tick.{Tick, gives, refuses, stops, ticked, tick_of}
use Rattle.tick.specs.Offer.{Offer}
use Rattle.tick.specs.declared.Answer.TheVariants.{Refused}
use Rattle.invariants.specs.Ticks.{Offered}
use Rattle.invariants.proofs.Ticks.{ticks_stay_in_range}
use Rattle.snapshot.specs.Snapshot.{said_read, read_of, unwritable_number, write_of}
use Rattle.snapshot.specs.declared.Unreadable.{Unreadable}
use Rattle.snapshot.specs.declared.Unwritable.{Unwritable}
use Rattle.snapshot.specs.declared.Unwritable.TheVariants as unwritable
use Rattle.snapshot.proofs.RoundTrips.{reading_undoes_writing}
use Rattle.run.specs.Run.{Run, Runs, ended, ran, run_of}
use Rattle.run.specs.declared.Ended.TheVariants as end
use Rattle.run.specs.Over.{passed, over_of, run_over, run_in, RunsIn}
use Rattle.run.specs.declared.over.Over.{Over}
use Rattle.run.proofs.Unroll.{step, begun, unroll_refused}
use Rattle.run.proofs.Stretched.{long}
use Rattle.run.proofs.Calls.{ok_or, read_ok, passed_is, run_in_passed}

-- ---- runs that make no tick
-- "Budget 0 answers 24 and reports 0, for every core."
pub runs_none : (k : Core) (p m : List ℕ) (o : Offer) → Runs (run_of 0 k p m o) (record { ended = end.Budget; ticks = 0; core = k }) m
unfolding ran
runs_none k p m o = record { answer = refl; count = refl; core = refl; bytes = refl }

-- "Busy above 4: refusal 5."
pub too_busy_lem : (k : Core) (p m : List ℕ) (o : Offer) → 4 < k.busy → tick_of k p m o ≡ gives (Refused 5) k m
unfolding ticked
too_busy_lem k p m o h = rw (lt-ltb 4 k.busy h)

pub runs_refused : (b : ℕ) (k : Core) (p m : List ℕ) (o : Offer) → 0 < b → 4 < k.busy → Runs (run_of b k p m o) (record { ended = end.Refused 5; ticks = 0; core = k }) m
runs_refused b k p m o g h =
    let t = too_busy_lem k p m o h in
    let z : run_of b k p m o ≡ ended 0 (gives (Refused 5) k m) = begun b k p m o ∙ unroll_refused b 0 k p m o g (ap (λ x. refuses x.answer) t) ∙ ap (ended 0) t in
    rw z (record { answer = refl; count = refl; core = refl; bytes = refl })

-- what a core's bytes are refused for is that busy
module _ (k : Core) (z : List ℕ) (l : length z ≡ 38) where
  some : (e : Unwritable) → unwritable_number e ≡ 0 → ⊥
  some unwritable.Length h = omega (arith, h)
  some unwritable.Busy h = omega (arith, h)

  pub not_written : (e : Unwritable) → unwritable_number e ≡ (write_of k z).refusal → (4 < k.busy) × (unwritable_number e ≡ 5)
  not_written e q =
      test (ltb 4 k.busy)
      (λ t. (ltb-true 4 k.busy t, q ∙ rw (eq-eqb (length z) 38 l, t)))
      (λ t. absurd (some e (q ∙ rw (eq-eqb (length z) 38 l, t))))

  pub is_written : 0 ≡ (write_of k z).refusal → k.busy ≤ 4
  is_written q =
      test (ltb 4 k.busy)
      (λ t. let n : 0 ≡ 5 = q ∙ rw (eq-eqb (length z) 38 l, t) in absurd (omega (arith, n)))
      (λ t. ltb-false 4 k.busy t)

-- ---- a run's core is one by its types
pub core_sound : (k : Core) → length k.regs ≡ 32 → ((i : ℕ) → Fits w8 (get_or k.regs i 0)) → k.sreg < 256 → k.pc < 65536 → k.sp < 65536 → k.busy ≤ 4 → Sound k
core_sound k n f x y z w = record { count = n; reg_lt = λ i. (f i).fits; sreg_lt = x; pc_lt = y; sp_lt = z; busy_le = w }

step_sound : (r s : Bool) (t : Tick) (x : Run) → Sound t.core → Sound x.core → Sound (step r s t x).core
step_sound true s t x h i = h
step_sound false true t x h i = h
step_sound false false t x h i = i

pub run_sound : (b : ℕ) (k : Core) (p m : List ℕ) (o : Offer) → Sound k → Bytes p → Bytes m → Offered o → Sound (run_of b k p m o).core
unfolding ran
run_sound zero k p m o h bp bm f = h
run_sound (suc b) k p m o h bp bm f =
    let t = tick_of k p m o in
    let next = ticks_stay_in_range k p m o h bp bm f in
    step_sound (refuses t.answer) (stops t.answer) t (run_of b t.core p t.bytes o) next.core (run_sound b t.core p t.bytes o next.core bp next.bytes f)

-- ---- a run over the core's bytes, written over any 38
module _ (b : ℕ) (k : Core) (z s p m : List ℕ) (o : Offer) (h : Sound k) (l : length z ≡ 38) (e : s ≡ (write_of k z).bytes) where
  says : read_of s ≡ record { refusal = 0; core = k }
  says = ap read_of e ∙ reading_undoes_writing k z h l

  none : (read_of s).refusal ≡ 0
  none = ap (λ x. x.refusal) says

  pub run_in_ok : {r : Result Over Unreadable} → r ≡ passed (read_of s).refusal (over_of (run_over b s p m o)) → IsOk r
  run_in_ok t = ap is_ok (t ∙ passed_is none)

  is_run : run_over b s p m o ≡ run_of b k p m o
  is_run = ap (λ x. run_of b x.core p m o) says

  -- what is left of s and m
  module _ (bp : Bytes p) (bm : Bytes m) (f : Offered o) {a n : ℕ} {s' m' : List ℕ} (w : RunsIn (run_in s p m o b) a n s' m') where
    back : read_of s' ≡ record { refusal = 0; core = (run_of b k p m o).core }
    back =
        ap read_of (w.snapshot ∙ ap (λ x. x.snapshot) (run_in_passed s p m o b (eq-eqb (read_of s).refusal 0 none)) ∙ ap (λ (x : Run). (write_of x.core s).bytes) is_run)
        ∙ reading_undoes_writing (run_of b k p m o).core s (run_sound b k p m o h bp bm f) (long s none)

    pub read_in_ok : (q : Result Core Unreadable) → said_read q ≡ read_of s' → IsOk q
    read_in_ok q v = read_ok q (ap (λ x. x.refusal) (v ∙ back))

    pub runs_through : {r : Result Over Unreadable} {x : Over} {q : Result Core Unreadable} {k' : Core} → r ≡ passed (read_of s).refusal (over_of (run_over b s p m o)) → r ≡ Ok x
        → said_read q ≡ read_of s' → q ≡ Ok k' → Runs (run_of b k p m o) (record { ended = x.ended; ticks = x.ticks; core = k' }) m'
    runs_through {r} {x} t u v y =
        let over : x ≡ over_of (run_of b k p m o) = ap (ok_or x) (sym u ∙ t ∙ passed_is none) ∙ ap over_of is_run in
        record {
          answer = ap (λ x. x.ended) over;
          count = ap (λ x. x.ticks) over;
          core = ap (λ x. x.core) (sym (ap said_read y) ∙ v ∙ back);
          bytes = w.bytes ∙ ap (λ x. x.bytes) (run_in_passed s p m o b (eq-eqb (read_of s).refusal 0 none)) ∙ ap (λ (x : Run). x.bytes) is_run;
        }
