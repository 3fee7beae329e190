-- The calls over a snapshot: refused by a check, and passed on.
-- Assumes nothing.
use Rattle.std.proofs.Common.{◌≡◌, ℕ, zero, suc, ◌+◌, ◌-◌, ◌*◌, ◌/◌, ◌%◌, ◌<◌, ◌≤◌, Bool, true, false, not, eqb, ltb, List, [], ◌∷◌, length, get_or, set, sym, refl, ap, ◌∙◌, inl, inr, arith, eq-eqb, le-leb, Result, Ok, Err, IsOk}
use borrow.Author.Tests.{lt-leb}
use Rattle.basis.specs.Pick.{pick}
use Rattle.basis.specs.Bit.{one}
use Rattle.basis.specs.Bytes.{Bytes}
use Rattle.basis.proofs.Choice.{clash}
use Rattle.cores.specs.declared.Core.{Core}
use Rattle.cores.specs.State.{with_busy}
use Rattle.tick.specs.Tick.{Tick, number_of, refuses, stops, tick_of}
use Rattle.tick.specs.Offer.{Offer}
use Rattle.tick.specs.declared.Answer.{Answer}
use Rattle.tick.specs.declared.Answer.TheVariants.{Waited}
use Rattle.tick.proofs.Steps.{busy_tick}
use Rattle.invariants.specs.Ticks.{TickNumber}
use Rattle.invariants.proofs.Ticks.{ticks_answer_tick_numbers}
use Rattle.snapshot.specs.declared.Unreadable.{Unreadable}
use Rattle.snapshot.specs.declared.Unreadable.TheVariants.{Length, Busy, Spare}
use Rattle.snapshot.specs.Snapshot.{bytes_of, core_of, said_read, refused_read, read_of, write_of}
use Rattle.snapshot.proofs.RoundTrips.{at_tail, bytes_back, written, writing_undoes_reading}
use Rattle.run.specs.Run.{Run, spent, ran, run_of, ended_number, ended_of}
use Rattle.run.specs.Over.{said_by, tick_over, run_over, last_number, Advances, tick_in, TicksIn, answered, passed, over_of, run_in, RunsIn, of_check}
use Rattle.run.specs.declared.Ended.{Ended}
use Rattle.run.specs.declared.Ended.TheVariants.{Budget}
use Rattle.run.specs.declared.over.Last.{Last}
use Rattle.run.proofs.Ends.{answered_back, ends_have_their_numbers}
use Rattle.run.proofs.Unroll.{step}
use Rattle.run.proofs.Six.{stored}
use Rattle.run.proofs.Stretched.{long, brief, said_busy}
use Rattle.run.proofs.Turns.{said_sound}

-- core and data of a run of one tick are the tick's
step_one : (r s : Bool) (t : Tick) → ((step r s t (spent t.core t.bytes)).core ≡ t.core) × ((step r s t (spent t.core t.bytes)).bytes ≡ t.bytes)
step_one true s t = (refl, refl)
step_one false true t = (refl, refl)
step_one false false t = (refl, refl)

one_tick : (k : Core) (p m : List ℕ) (o : Offer) → ((run_of 1 k p m o).core ≡ (tick_of k p m o).core) × ((run_of 1 k p m o).bytes ≡ (tick_of k p m o).bytes)
unfolding ran
one_tick k p m o = let t = tick_of k p m o in step_one (refuses t.answer) (stops t.answer) t

-- ---- the checks
abbrev pub ok_or : {A E : Type 0} → A → Result A E → A
ok_or d (Ok x) = x
ok_or d (Err e) = d

-- a snapshot that reads as no refusal is read
pub read_ok : (r : Result Core Unreadable) → (said_read r).refusal ≡ 0 → IsOk r
read_ok (Ok k) h = refl
read_ok (Err Length) h = absurd (omega (arith, h))
read_ok (Err Busy) h = absurd (omega (arith, h))
read_ok (Err Spare) h = absurd (omega (arith, h))

-- where no check refuses
pub passed_is : {A : Type 0} {n : ℕ} {x : A} → n ≡ 0 → passed n x ≡ Ok x
passed_is h = rw h

pub told_as : {A : Type 0} {n : ℕ} {x y : A} → n ≡ 0 → x ≡ y → Ok x ≡ passed n y
told_as h e = rw (h, e)

module _ (s p m : List ℕ) (o : Offer) where
  module _ (h : (read_of s).refusal ≡ 0) where
    pub tick_passed : {n : ℕ} {s' m' : List ℕ} → n ≡ number_of (tick_over s p m o).answer → s' ≡ (write_of (tick_over s p m o).core s).bytes → m' ≡ (tick_over s p m o).bytes
        → TicksIn (tick_in s p m o) n s' m'
    tick_passed e f g = rw (eq-eqb (read_of s).refusal 0 h) (record { number = e; snapshot = f; bytes = g })

    -- a run of one tick of a core that does not wait
    pub tick_advanced : {x : Last} {s' m' : List ℕ} → Advances s p m o 1 x s' m' → get_or s 37 0 < 32 → TicksIn (tick_in s p m o) x.answer s' m'
    tick_advanced w l =
        let e = one_tick (said_by s) p m o in
        tick_passed (w.one refl (said_busy s h ∙ omega (arith, l))) (w.snapshot ∙ ap (λ (k : Core). (write_of k s).bytes) e.0) (w.bytes ∙ e.1)

    -- its answer, by that number
    module _ {x : Last} {a : Answer} {s' m' : List ℕ} (w : Advances s p m o 1 x s' m') (l : get_or s 37 0 < 32) (by : a ≡ answered x.answer) where
      is : a ≡ (tick_over s p m o).answer
      is = by ∙ ap answered (w.one refl (said_busy s h ∙ omega (arith, l))) ∙ answered_back (said_by s) p m o

      pub tick_answered : TicksIn (tick_in s p m o) (number_of a) s' m'
      tick_answered =
          let e = one_tick (said_by s) p m o in
          tick_passed (ap number_of is) (w.snapshot ∙ ap (λ (k : Core). (write_of k s).bytes) e.0) (w.bytes ∙ e.1)

      pub tick_told : Ok a ≡ passed (read_of s).refusal (tick_over s p m o).answer
      tick_told = told_as h is

    -- a run, as the code hands it back
    module _ {b : ℕ} {x : Last} {e : Ended} {s' m' : List ℕ} (w : Advances s p m o b x s' m') (is : e ≡ ended_of (last_number x.answer)) where
      pub run_passed : RunsIn (run_in s p m o b) (ended_number e) x.ticks s' m'
      run_passed =
          rw (eq-eqb (read_of s).refusal 0 h)
          (record { answer = ap ended_number is ∙ ends_have_their_numbers (last_number x.answer) ∙ w.answer; count = w.count; snapshot = w.snapshot; bytes = w.bytes })

      pub run_told : Ok (record { ended = e; ticks = x.ticks }) ≡ passed (read_of s).refusal (over_of (run_over b s p m o))
      run_told = told_as h (rw (is, w.answer, w.count))

    -- a run of no tick, as the code hands it back
    pub run_none_told : Ok (record { ended = Budget; ticks = 0 }) ≡ passed (read_of s).refusal (over_of (run_over 0 s p m o))
    unfolding ran
    run_none_told = told_as h refl

    module _ (bs : Bytes s) where
      kept : (write_of (said_by s) s).bytes ≡ s
      kept = ap (λ w. w.bytes) (writing_undoes_reading s s bs h (long s h))

      -- "Budget 0 answers 24 and reports 0, for every core."
      pub run_none : RunsIn (run_in s p m o 0) 24 0 s m
      unfolding ran
      run_none = rw (eq-eqb (read_of s).refusal 0 h) (record { answer = refl; count = refl; snapshot = sym kept; bytes = refl })

-- ---- a wait
-- a core's last byte alone is another where its busy is
waited_bytes : (k : Core) (v : ℕ) (b : ℕ) → length k.regs ≡ 32 → k.busy ≡ suc b → v ≡ get_or (bytes_of k) 37 0 - 32 → set (bytes_of k) 37 v ≡ bytes_of (with_busy k b)
unfolding with_busy
waited_bytes k v b n e d =
    let six = k.sreg ∷ k.pc / 256 ∷ k.pc % 256 ∷ k.sp / 256 ∷ k.sp % 256 ∷ (k.busy * 32 + one k.inhibit * 16 + one k.in_service * 8 + one k.chip * 4) ∷ [] in
    let was : get_or (bytes_of k) 37 0 ≡ k.busy * 32 + one k.inhibit * 16 + one k.in_service * 8 + one k.chip * 4 = at_tail k.regs six n 5 in
    let now : v ≡ b * 32 + one k.inhibit * 16 + one k.in_service * 8 + one k.chip * 4 = omega (arith, was, d, e) in
    stored k.regs six 37 5 v (omega (arith, n)) ∙ rw now

left_busy : (k : Core) (b : ℕ) → b < 4 → (with_busy k b).busy ≤ 4
unfolding with_busy
left_busy k b h = omega arith

module _ (s p m : List ℕ) (o : Offer) (h : (read_of s).refusal ≡ 0) (bs : Bytes s) (w : 32 ≤ get_or s 37 0) where
  pub tick_waited : Ok Waited ≡ passed (read_of s).refusal (tick_over s p m o).answer
  tick_waited =
      told_as h (sym (ap (λ (x : Tick). x.answer)
      (busy_tick (said_by s) p m o (get_or s 37 0 / 32 - 1) (said_busy s h ∙ omega (arith, w)) (omega (arith, brief s h)))))

  pub tick_waits : TicksIn (tick_in s p m o) 16 (set s 37 (get_or s 37 0 - 32)) m
  tick_waits =
      let k = said_by s in
      let b = get_or s 37 0 / 32 - 1 in
      let back = bytes_back s bs h in
      let busy : k.busy ≡ suc b = said_busy s h ∙ omega (arith, w) in
      let few : b < 4 = omega (arith, brief s h) in
      let z = said_sound s bs h in
      let t = busy_tick k p m o b busy few in
      let v : get_or s 37 0 - 32 ≡ get_or (bytes_of k) 37 0 - 32 = ap (λ (l : List ℕ). get_or l 37 0 - 32) (sym back) in
      let one_less = waited_bytes k (get_or s 37 0 - 32) b z.count busy v in
      let small : (with_busy k b).busy ≤ 4 = left_busy k b few in
      tick_passed s p m o h (sym (ap (λ x. number_of x.answer) t))
      (ap (λ (l : List ℕ). set l 37 (get_or s 37 0 - 32)) (sym back) ∙ one_less ∙ sym (ap (λ x. x.bytes) (written (with_busy k b) s small (long s h)))
      ∙ sym (ap (λ x. (write_of x.core s).bytes) t))
      (sym (ap (λ x. x.bytes) t))

-- ---- a check's numbers and a run's
-- a run answers 1 to 5, or 22 to 24
no_check : (x : ℕ) → TickNumber x → of_check x ≡ false
no_check x (inl h) = rw (lt-leb 7 x (omega (arith, h)))
no_check x (inr h) = rw (le-leb 7 x (omega (arith, h)), lt-leb x 9 (omega (arith, h)))

step_answers : (r s : Bool) (t : Tick) (x : Run) → TickNumber (number_of t.answer) → of_check x.answer ≡ false → of_check (step r s t x).answer ≡ false
step_answers true s t x h i = no_check (number_of t.answer) h
step_answers false true t x h i = no_check (number_of t.answer) h
step_answers false false t x h i = i

run_answers : (b : ℕ) (k : Core) (p m : List ℕ) (o : Offer) → of_check (run_of b k p m o).answer ≡ false
unfolding ran
run_answers zero k p m o = refl
run_answers (suc b) k p m o =
    let t = tick_of k p m o in
    step_answers (refuses t.answer) (stops t.answer) t (run_of b t.core p t.bytes o) (ticks_answer_tick_numbers k p m o) (run_answers b t.core p t.bytes o)

-- a refused read's number is a check's
read_answers : (u v w : Bool) (k : Core) → (let r = pick u (pick v (refused_read 8) (pick w (record { refusal = 0; core = k }) (refused_read 9))) (refused_read 7) in
    eqb r.refusal 0 ≡ false → of_check r.refusal ≡ true)
read_answers false v w k h = refl
read_answers true true w k h = refl
read_answers true false false k h = refl
read_answers true false true k h = clash h

module _ (s p m : List ℕ) (o : Offer) (b : ℕ) where
  pub run_in_refused : eqb (read_of s).refusal 0 ≡ false → run_in s p m o b ≡ record { answer = (read_of s).refusal; count = 0; snapshot = s; bytes = m }
  run_in_refused e = rw e

  pub run_in_passed : eqb (read_of s).refusal 0 ≡ true
      → run_in s p m o b ≡ (let r = run_over b s p m o in record { answer = r.answer; count = r.count; snapshot = (write_of r.core s).bytes; bytes = r.bytes })
  run_in_passed e = rw e

  -- so the answer tells whether a check refused
  told_by : (t : Bool) → eqb (read_of s).refusal 0 ≡ t → of_check (run_in s p m o b).answer ≡ not t
  told_by true e = ap (λ r. of_check r.answer) (run_in_passed e) ∙ run_answers b (said_by s) p m o
  told_by false e = ap (λ r. of_check r.answer) (run_in_refused e) ∙ read_answers (eqb (length s) 38) (ltb 4 (get_or s 37 0 / 32)) (eqb (get_or s 37 0 % 4) 0) (core_of s) e

  pub check_told : of_check (run_in s p m o b).answer ≡ not (eqb (read_of s).refusal 0)
  check_told = told_by (eqb (read_of s).refusal 0) refl
