-- The table at the C interface, and what its calls leave in the snapshot.
-- Assumes nothing.
use mathlib.Core.Path.{◌≡◌, refl, sym, ap, subst, ◌∙◌}
use mathlib.Core.Logic.{◌↔◌, ◌⊎◌, inl, inr}
use mathlib.Core.Bool.{Bool, true, false, not, ◌&&◌}
use mathlib.Core.List.{List, [], ◌∷◌, ◌++◌}
use Prim.Native.Nat.{ℕ, zero, suc, ◌+◌, ◌/◌, ◌%◌, ◌≤◌, ◌<◌}
use native.Mathlib.Omega.{arith}
use borrow.Author.Tests.{ltb-false, le-ltb, ne_eqb}
use lib.Dec.{eqb, ltb}
use lib.ListN.{get_or}
use Rattle.basis.proofs.Choice.{clash, test}
use Rattle.basis.specs.Bytes.{Bytes}
use Rattle.cores.specs.declared.Core.{Core}
use Rattle.tick.specs.Offer.{Offer}
use Rattle.tick.specs.declared.Answer.{Answer}
use Rattle.tick.specs.declared.Answer.TheVariants.{Refused, Waited, Entered, Ran, Sleep, Watchdog, Undefined, Break, End}
use Rattle.tick.specs.Tick.{Tick, number_of, refuses, stops, tick_of}
use Rattle.tick.proofs.Steps.{refused_keeps}
use Rattle.run.specs.Run.{Run, ran, run_of, goes_on}
use Rattle.run.proofs.Unroll.{step}
use Rattle.snapshot.specs.Snapshot.{SnapshotRead}
use Rattle.snapshot.specs.Snapshot.{bytes_of, core_of, write_of, read_of}
use Rattle.snapshot.proofs.Fields.{pc_read, busy_read}
use Rattle.snapshot.proofs.RoundTrips.{bytes_back}
use Rattle.host.specs.Host.{Told, told, told_ticks, offer_of, avr_tick_of, avr_run_of}
use Rattle.invariants.specs.Ticks.{TickNumber}
use Rattle.invariants.proofs.Ticks.{ticks_answer_tick_numbers, ticks_leave_busy_at_most_4}
use Rattle.table.specs.Table.{rows, ExactlyWhen, holding}
use Rattle.table.specs.Calls.{of38, readable, only_if, check_rows, TickCallsByTheTable, RefusedTickCallsChangeNothing, RunCallsByTheTable, TickCallsWriteTheNextCore, RunCallsWriteTheLastCore}
use Rattle.table.proofs.Calls.{by_checks, runs_by_the_table}
use Rattle.table.proofs.Table.{Fits, exactly, shown, fits_the_table}

always : (l : List (ℕ × Bool)) → only_if true l ≡ l
always [] = refl
always ((n, c) ∷ l) = ap (λ (r : List (ℕ × Bool)). (n, c) ∷ r) (always l)

-- a number that no check gives, by rows l where every check passes
module _ (s : List ℕ) (offer a : ℕ) (l : List (ℕ × Bool)) where
  behind : eqb a 10 ≡ false → eqb a 7 ≡ false → eqb a 8 ≡ false → eqb a 9 ≡ false → Fits a l
      → Fits a ((10, false) ∷ (7, false) ∷ (8, false) ∷ (9, false) ∷ only_if true l)
  behind t f g h r = let z : 0 + (0 + (0 + (0 + holding l))) ≡ holding l = omega arith in rw (always l, t, f, g, h, z) r

  by_tests : (o w b z : Bool) → o ≡ false → w ≡ true → b ≡ false → z ≡ true → Fits a ((10, false) ∷ (7, false) ∷ (8, false) ∷ (9, false) ∷ only_if true l)
      → Fits a ((10, o) ∷ (only_if (not o) ((7, not w) ∷ (8, w && b) ∷ (9, (w && not b) && not z) ∷ []) ++ only_if (not o && ((w && not b) && z)) l))
  by_tests true w b z p q r u t = clash p
  by_tests false false b z p q r u t = clash (sym q)
  by_tests false true true z p q r u t = clash r
  by_tests false true false false p q r u t = clash (sym u)
  by_tests false true false true p q r u t = t

  passed : ltb 65536 offer ≡ false → of38 s ≡ true → ltb 4 (get_or s 37 0 / 32) ≡ false → eqb (get_or s 37 0 % 4) 0 ≡ true
      → Fits a ((10, false) ∷ (7, false) ∷ (8, false) ∷ (9, false) ∷ only_if true l) → Fits a (check_rows s offer l)
  passed o w b z t = by_tests (ltb 65536 offer) (of38 s) (ltb 4 (get_or s 37 0 / 32)) (eqb (get_or s 37 0 % 4) 0) o w b z t

-- a core that was read waits for 4 ticks at most
not_busy : (s : List ℕ) → ltb 4 (get_or s 37 0 / 32) ≡ false → (core_of s).busy ≤ 4
not_busy s b = rw (busy_read s) (ltb-false 4 (get_or s 37 0 / 32) b)

-- a call that passes every check
module _ (s p m : List ℕ) (offer : ℕ) where
  abbrev core : Core
  core = core_of s

  abbrev number : ℕ
  number = number_of (tick_of core p m (offer_of offer)).answer

  called : ltb 65536 offer ≡ false → of38 s ≡ true → ltb 4 (get_or s 37 0 / 32) ≡ false → eqb (get_or s 37 0 % 4) 0 ≡ true
      → avr_tick_of s p m offer ≡ told number (write_of (tick_of core p m (offer_of offer)).core s).bytes (tick_of core p m (offer_of offer)).bytes
  unfolding avr_tick_of
  called o w b z = let r : read_of s ≡ record { refusal = 0; core = core } = rw (w, b, z) refl in rw (o, r) refl

  module _ (h : Bytes s) where
    -- none of the checks' numbers is a tick's
    above : (n : ℕ) → 5 < n → n < 16 → eqb number n ≡ false
    above n g l =
        ne_eqb number n (λ e. elim (ticks_answer_tick_numbers core p m (offer_of offer)) [ inl t ↦ omega arith | inr t ↦ omega arith ])

    pc_lt : core.pc < 65536
    pc_lt = rw (pc_read s) (omega (arith, h.byte_lt 33, h.byte_lt 34))

    -- what was read is written back
    unchanged : of38 s ≡ true → ltb 4 (get_or s 37 0 / 32) ≡ false → eqb (get_or s 37 0 % 4) 0 ≡ true → (write_of core s).bytes ≡ s
    unchanged w b z =
        let r : read_of s ≡ record { refusal = 0; core = core } = rw (w, b, z) refl in
        let back : bytes_of (read_of s).core ≡ s = bytes_back s h (ap (λ (x : SnapshotRead). x.refusal) r) in
        rw (w, le-ltb 4 core.busy (not_busy s b)) (sym (ap (λ (x : SnapshotRead). bytes_of x.core) r) ∙ back)

    fits_tick_call : Fits (avr_tick_of s p m offer).number (check_rows s offer (rows core p m (offer_of offer)))
    unfolding avr_tick_of
    fits_tick_call =
        test (ltb 65536 offer) (λ o. rw o tt)
        λ o. by_checks s (λ w. rw (o, w) tt) (λ w b. rw (o, w, b) tt) (λ w b z. rw (o, w, b, z) tt)
        λ w b z.
        let l = rows core p m (offer_of offer) in
        let n : (avr_tick_of s p m offer).number ≡ number = ap (λ (c : Told). c.number) (called o w b z) in
        let t = behind s offer number l (above 10 (omega arith) (omega arith)) (above 7 (omega arith) (omega arith)) (above 8 (omega arith) (omega arith)) (above 9 (omega arith) (omega arith)) (fits_the_table core p m (offer_of offer) pc_lt) in
        subst (λ (a : ℕ). Fits a (check_rows s offer l)) (sym n) (passed s offer number l o w b z t)

pub tick_calls_by_the_table : TickCallsByTheTable
tick_calls_by_the_table s p m offer h =
    shown (avr_tick_of s p m offer).number (check_rows s offer (rows (core_of s) p m (offer_of offer))) (fits_tick_call s p m offer h)

-- an answer below 16 is refused
below_16 : (a : Answer) → number_of a < 16 → refuses a ≡ true
below_16 (Refused n) h = refl
below_16 Waited h = absurd (omega arith)
below_16 Entered h = absurd (omega arith)
below_16 Ran h = absurd (omega arith)
below_16 Sleep h = absurd (omega arith)
below_16 Watchdog h = absurd (omega arith)
below_16 Undefined h = absurd (omega arith)
below_16 Break h = absurd (omega arith)
below_16 End h = absurd (omega arith)

pub refused_tick_calls_change_nothing : RefusedTickCallsChangeNothing
unfolding avr_tick_of
refused_tick_calls_change_nothing s p m offer h =
    test (ltb 65536 offer) (λ o. rw o (λ l. refl))
    λ o. by_checks s (λ w. rw (o, w) (λ l. refl)) (λ w b. rw (o, w, b) (λ l. refl)) (λ w b z. rw (o, w, b, z) (λ l. refl))
    λ w b z. rw (called s p m offer o w b z) (tick_refused w b z)
  where
    tick_refused : of38 s ≡ true → ltb 4 (get_or s 37 0 / 32) ≡ false → eqb (get_or s 37 0 % 4) 0 ≡ true → number s p m offer < 16
        → told (number s p m offer) (write_of (tick_of (core_of s) p m (offer_of offer)).core s).bytes (tick_of (core_of s) p m (offer_of offer)).bytes
        ≡ told (number s p m offer) s m
    tick_refused w b z l =
        let a = (tick_of (core_of s) p m (offer_of offer)).answer in
        let (k, d) = refused_keeps (core_of s) p m (offer_of offer) (below_16 a l) in
        cc (ap (λ (j : Core). (write_of j s).bytes) k ∙ unchanged s p m offer h w b z, d)

-- a run's number: 24, or a tick's
run_number : (budget : ℕ) (k : Core) (p m : List ℕ) (o : Offer) → ((run_of budget k p m o).answer ≡ 24) ⊎ TickNumber (run_of budget k p m o).answer
unfolding ran
run_number zero k p m o = inl refl
run_number (suc b) k p m o =
    let t = tick_of k p m o in
    last (refuses t.answer) (stops t.answer) t (run_of b t.core p t.bytes o) (ticks_answer_tick_numbers k p m o)
    (run_number b t.core p t.bytes o)
  where
    last : (r s : Bool) (t : Tick) (x : Run) → TickNumber (number_of t.answer) → (x.answer ≡ 24) ⊎ TickNumber x.answer
        → ((step r s t x).answer ≡ 24) ⊎ TickNumber (step r s t x).answer
    last true s t x n e = inr n
    last false true t x n e = inr n
    last false false t x n e = e

numbers : (a n : ℕ) → (a ≡ n → ⊥) → (a ≡ n) ↔ (false ≡ true)
numbers a n h = (λ e. absurd (h e), λ e. clash (sym e))

module _ (s p m : List ℕ) (offer budget ticks : ℕ) where
  abbrev the_run : Run
  the_run = run_of budget (core_of s) p m (offer_of offer)

  abbrev run_rows : List (ℕ × Bool)
  run_rows = check_rows s offer ((24, goes_on budget (core_of s) p m (offer_of offer)) ∷ [])

  -- none of the checks' numbers is a run's
  run_above : (n : ℕ) → 5 < n → n < 16 → (the_run.answer ≡ n) ↔ (false ≡ true)
  run_above n g l =
      numbers the_run.answer n
      (λ e. elim (run_number budget (core_of s) p m (offer_of offer)) [
        | inl t ↦ omega arith
        | inr t ↦ elim t [ inl u ↦ omega arith | inr u ↦ omega arith ]
      ])

  run_exactly : ExactlyWhen (avr_run_of s p m offer budget ticks).number run_rows
  unfolding avr_run_of
  run_exactly =
      let refused = exactly (avr_run_of s p m offer budget ticks).number run_rows in
      test (ltb 65536 offer) (λ o. refused (rw o tt))
      λ o. by_checks s (λ w. refused (rw (o, w) tt)) (λ w b. refused (rw (o, w, b) tt)) (λ w b z. refused (rw (o, w, b, z) tt))
      λ w b z.
      let r : read_of s ≡ record { refusal = 0; core = core_of s } = rw (w, b, z) refl in
      let n : (avr_run_of s p m offer budget ticks).number ≡ the_run.answer = rw (o, r) refl in
      subst (λ (a : ℕ). ExactlyWhen a run_rows) (sym n)
      (rw (o, w, b, z) (
        run_above 10 (omega arith) (omega arith),
        (
          run_above 7 (omega arith) (omega arith),
          (
            run_above 8 (omega arith) (omega arith),
            (run_above 9 (omega arith) (omega arith), ((runs_by_the_table budget (core_of s) p m (offer_of offer)).0, tt)),
          ),
        ),
      ))

  run_refused : (not (ltb 65536 offer) && readable s) ≡ false → avr_run_of s p m offer budget ticks ≡ told_ticks (avr_run_of s p m offer budget ticks).number s m ticks
  unfolding avr_run_of
  run_refused =
      test (ltb 65536 offer) (λ o. rw o (λ f. refl))
      λ o. by_checks s (λ w. rw (o, w) (λ f. refl)) (λ w b. rw (o, w, b) (λ f. refl)) (λ w b z. rw (o, w, b, z) (λ f. refl))
      λ w b z. let t : readable s ≡ true = rw (w, b, z) refl in rw (o, t) clash

pub run_calls_by_the_table : RunCallsByTheTable
run_calls_by_the_table s p m offer budget ticks = (run_exactly s p m offer budget ticks, run_refused s p m offer budget ticks)

-- ---- the snapshot afterwards
written : (k : Core) (s : List ℕ) → of38 s ≡ true → k.busy ≤ 4 → (write_of k s).bytes ≡ bytes_of k
written k s w h = rw (w, le-ltb 4 k.busy h)

pub tick_calls_write_the_next_core : TickCallsWriteTheNextCore
unfolding avr_tick_of
tick_calls_write_the_next_core s p m offer =
    test (ltb 65536 offer) (λ o. rw o (λ l. absurd (omega arith)))
    λ o. by_checks s (λ w. rw (o, w) (λ l. absurd (omega arith))) (λ w b. rw (o, w, b) (λ l. absurd (omega arith))) (λ w b z. rw (o, w, b, z) (λ l. absurd (omega arith)))
    λ w b z l.
    let t = tick_of (core_of s) p m (offer_of offer) in
    let low = ticks_leave_busy_at_most_4 (core_of s) p m (offer_of offer) (inr (not_busy s b)) in
    called s p m offer o w b z ∙ ap (λ (x : List ℕ). told (number_of t.answer) x t.bytes) (written t.core s w low)

runs_leave_busy : (budget : ℕ) (k : Core) (p m : List ℕ) (o : Offer) → k.busy ≤ 4 → (run_of budget k p m o).core.busy ≤ 4
unfolding ran
runs_leave_busy zero k p m o h = h
runs_leave_busy (suc b) k p m o h =
    let t = tick_of k p m o in
    let low = ticks_leave_busy_at_most_4 k p m o (inr h) in
    last (refuses t.answer) (stops t.answer) t (run_of b t.core p t.bytes o) low (runs_leave_busy b t.core p t.bytes o low)
  where
    last : (r s : Bool) (t : Tick) (x : Run) → t.core.busy ≤ 4 → x.core.busy ≤ 4 → (step r s t x).core.busy ≤ 4
    last true s t x h g = h
    last false true t x h g = h
    last false false t x h g = g

pub run_calls_write_the_last_core : RunCallsWriteTheLastCore
unfolding avr_run_of
run_calls_write_the_last_core s p m offer budget ticks =
    test (ltb 65536 offer) (λ o. rw o (λ f. clash (sym f)))
    λ o. by_checks s (λ w. rw (o, w) (λ f. clash (sym f))) (λ w b. rw (o, w, b) (λ f. clash (sym f))) (λ w b z. rw (o, w, b, z) (λ f. clash (sym f)))
    λ w b z f.
    let x = run_of budget (core_of s) p m (offer_of offer) in
    let r : read_of s ≡ record { refusal = 0; core = core_of s } = rw (w, b, z) refl in
    let low = runs_leave_busy budget (core_of s) p m (offer_of offer) (not_busy s b) in
    rw (o, r) (ap (λ (y : List ℕ). told_ticks x.answer y x.bytes x.count) (written x.core s w low))
