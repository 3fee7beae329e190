-- A record of a schedule is entered at one of the next eight ticks.
-- Assumes nothing.
use mathlib.Core.Path.{◌≡◌, refl, sym, ap, subst, ◌∙◌}
use mathlib.Core.Logic.{◌⊎◌, inl, inr}
use mathlib.Core.Bool.{Bool, true, false, not, ◌&&◌}
use mathlib.Core.List.{List}
use Prim.Native.Nat.{ℕ, zero, suc, ◌+◌, ◌/◌, ◌≤◌, ◌<◌}
use native.Mathlib.Nat.{add-zero, zero-add, not-suc-le-zero}
use native.Mathlib.Omega.{arith}
use lib.Dec.{eqb, leb, ltb}
use lib.ListN.{get_or, drop, length}
use lib.Seq.{get_or-drop}
use borrow.Author.Tests.{le-leb, leb-true, leb-false, le-ltb, ltb-true, ltb-false, eqb-true, eqb-false}
use Rattle.basis.proofs.Choice.{test, cases}
use Rattle.cores.specs.declared.Core.{Core}
use Rattle.tick.specs.Tick.{Tick, refuses, stops, tick_of}
use Rattle.tick.specs.Offer.{Offer}
use Rattle.tick.specs.declared.Answer.TheVariants.{Entered}
use Rattle.run.specs.Lent.{offers}
use Rattle.schedule.specs.Schedule.{record_at, records_from}
use Rattle.schedule.specs.Laws.{after_by, tick_by, offered_at, x, number_at}
use Rattle.schedule.specs.Laws as laws
use Rattle.schedule.proofs.Laws.{schedules_are_ticks}
use Rattle.latency.specs.Entry.{offers_there, there, Waiting, ScheduleEntersWithinEight, AtMostSevenLate}
use Rattle.latency.proofs.Entry.{always, goes_before, entry_within_eight}
use Rattle.latency.proofs.Runs.{Ends, counted}

-- ---- a record that is due and not entered before a tick: some vector is offered at it
-- a number that is 0, or not below the tick, is of no entry before it
unentered : (n tick : ℕ) → (n ≡ 0) ⊎ (tick ≤ n) → (ltb 0 n && ltb n tick) ≡ false
unentered n tick (inl z) = rw z
unentered n tick (inr l) = rw (le-ltb n tick l) (by (ltb 0 n))
  where
    by : (b : Bool) → (b && false) ≡ false
    by true = refl
    by false = refl

some_offered : (l : List ℕ) (from many : ℕ) (e : List ℕ) (tick i : ℕ) → i < many → (record_at l (from + i)).tick ≤ tick → (get_or e i 0 ≡ 0) ⊎ (tick ≤ get_or e i 0)
    → offers (offered_at (records_from l from many) e tick) ≡ true
some_offered l from zero e tick i g d u = absurd (not-suc-le-zero g)
some_offered l from (suc many) e tick zero g d u =
    let same : from + 0 ≡ from = add-zero from in
    let here : (record_at l from).tick ≤ tick = subst (λ (n : ℕ). (record_at l n).tick ≤ tick) same d in
    rw (le-leb (record_at l from).tick tick here, unentered (get_or e 0 0) tick u)
some_offered l from (suc many) e tick (suc i) g d u =
    let same : from + suc i ≡ suc from + i = omega arith in
    let one_more : 1 + i ≡ suc i = omega arith in
    let next : get_or (drop 1 e) i 0 ≡ get_or e (suc i) 0 = get_or-drop 1 e i 0 ∙ ap (λ (n : ℕ). get_or e n 0) one_more in
    let rest = some_offered l (suc from) many (drop 1 e) tick i (omega (arith, g)) (subst (λ (n : ℕ). (record_at l n).tick ≤ tick) same d) (subst (λ (n : ℕ). (n ≡ 0) ⊎ (tick ≤ n)) (sym next) u) in
    cases (λ (o : Offer). offers o ≡ true) (leb (record_at l from).tick tick && not (ltb 0 (get_or e 0 0) && ltb (get_or e 0 0) tick)) _ _ (λ _. refl) (λ _. rest)

-- ---- the ticks from `at` on are ticks of the whole
module _ (v : ℕ → Offer) (k : Core) (p m : List ℕ) (at : ℕ) where
  abbrev from_there : ℕ → Offer
  from_there tick = v (at + tick)

  abbrev core : Core
  core = (after_by v k p m at).0

  abbrev bytes : List ℕ
  bytes = (after_by v k p m at).1

  same_after : (j : ℕ) → after_by from_there core p bytes j ≡ after_by v k p m (at + j)
  unfolding after_by
  same_after zero = let same : at + 0 ≡ at = add-zero at in ap (λ (n : ℕ). after_by v k p m n) (sym same)
  same_after (suc j) =
      let same : at + suc j ≡ suc (at + j) = omega arith in
      ap (λ (s : Core × List ℕ). let t = tick_of s.0 p s.1 (v (at + suc j)) in (t.core, t.bytes)) (same_after j)
      ∙ ap (λ (n : ℕ). let s = after_by v k p m (at + j) in let t = tick_of s.0 p s.1 (v n) in (t.core, t.bytes)) same ∙ ap (λ (n : ℕ). after_by v k p m n) (sym same)

  same_tick : (j : ℕ) → tick_by from_there core p bytes j ≡ tick_by v k p m (at + j)
  same_tick j =
      let same : at + suc j ≡ suc (at + j) = omega arith in
      ap (λ (s : Core × List ℕ). tick_of s.0 p s.1 (v (at + suc j))) (same_after j) ∙ ap (λ (n : ℕ). let s = after_by v k p m (at + j) in tick_of s.0 p s.1 (v n)) same

-- ---- the record is entered in time: if it were not, a vector would be offered at each of the eight ticks, and the entry that then comes is its own or a later one's
module _ (b : ℕ) (k : Core) (p m l : List ℕ) (at i : ℕ) (w : Waiting b k p m l at i) where
  abbrev v : ℕ → Offer
  v = laws.offers b k p m l

  abbrev number : ℕ → ℕ
  number = number_at b k p m l

  abbrev run_count : ℕ
  run_count = (x b k p m l).run.count

  ends : Ends v k p m b run_count
  ends =
      elim (schedules_are_ticks b k p m l w.rises).ends [
        | inl z ↦ inl z.count
        | inr (inl z) ↦ inr (inl z.refused)
        | inr (inr z) ↦ inr (inr (z.others, (z.count, z.stopped)))
      ]

  -- an entry from there on is the record's own, or comes behind it
  not_later : (j : ℕ) → j < run_count → at ≤ j → (tick_by v k p m j).answer ≡ Entered → (0 < number i) × (number i ≤ suc j)
  not_later j in_run from entered =
      let single = schedules_are_ticks b k p m l w.rises in
      let (which, (of_list, is)) = single.only j in_run entered in
      test (ltb which i)
      (λ y. absurd (omega (arith, (w.others which (ltb-true which i y)).1, is)))
      (λ y. test (eqb which i)
      (λ z. let same : number i ≡ suc j = subst (λ (n : ℕ). number n ≡ suc j) (eqb-true which i z) is in (omega (arith, same), omega (arith, same)))
      (λ z. let (some, lower) = single.rise i which (omega (arith, ltb-false which i y, eqb-false which i z)) (omega (arith, is)) in (some, omega (arith, lower, is))))

  late_is_absurd : (number i ≡ 0) ⊎ (at + 8 < number i) → ⊥
  late_is_absurd late =
      let (k', m') = there b k p m l at in
      let v' = offers_there b k p m l at in
      let due : (j : ℕ) → (record_at l (0 + i)).tick ≤ at + suc j = λ j. subst (λ (n : ℕ). (record_at l n).tick ≤ at + suc j) (sym (zero-add i)) (omega (arith, w.due)) in
      let offered : (j : ℕ) → j < 8 → offers (v' (suc j)) ≡ true = λ j g.
      some_offered l 0 (length l / 5) (x b k p m l).entries (at + suc j) i w.of_list (due j) (elim late [ inl z ↦ inl z | inr z ↦ inr (omega (arith, z, g)) ]) in
      let always_offered = always v' k' p m' 8 (λ j. offers (v' (suc j))) offered in
      let e = entry_within_eight v' k' p m' w.waits always_offered in
      let behind = e.behind in
      let enters_there : (tick_by v k p m (at + behind)).answer ≡ Entered = ap (λ (t : Tick). t.answer) (sym (same_tick v k p m at behind)) ∙ e.answer in
      let goes : (j : ℕ) → j < behind → (refuses (tick_by v k p m (at + j)).answer ≡ false) × (stops (tick_by v k p m (at + j)).answer ≡ false) =
      λ j g. subst (λ (t : Tick). (refuses t.answer ≡ false) × (stops t.answer ≡ false)) (same_tick v k p m at j) (goes_before v' k' p m' w.waits always_offered behind e.in_time e.first j g) in
      let in_run = counted v k p m at behind enters_there goes b run_count (inr w.reached) (omega (arith, w.in_budget, e.in_time)) ends in
      let (some, low) = not_later (at + behind) in_run (omega arith) enters_there in
      elim late [ inl z ↦ omega (arith, z, some) | inr z ↦ omega (arith, z, low, e.in_time) ]

  in_time : (number i ≡ 0) ⊎ (at < number i) → (at < number i) × (number i ≤ at + 8)
  in_time (inl z) = absurd (late_is_absurd (inl z))
  in_time (inr z) =
      test (leb (number i) (at + 8)) (λ y. (z, leb-true (number i) (at + 8) y)) (λ y. absurd (late_is_absurd (inr (leb-false (number i) (at + 8) y))))

  -- a record is entered when it is due, or not at all
  not_before : (record_at l i).tick ≡ suc at → (number i ≡ 0) ⊎ (at < number i)
  not_before e =
      elim ((schedules_are_ticks b k p m l w.rises).each i w.of_list) [ inl z ↦ inl z | inr (behind, entry) ↦ inr (omega (arith, e, entry.due, entry.number)) ]

pub schedule_enters_within_eight : ScheduleEntersWithinEight
schedule_enters_within_eight = in_time

pub at_most_seven_late : AtMostSevenLate
at_most_seven_late b k p m l at i e w =
    let (above, below) = in_time b k p m l at i w (not_before b k p m l at i w e) in (omega (arith, e, above), omega (arith, e, below))
