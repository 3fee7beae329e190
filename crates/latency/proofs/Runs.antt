-- The entry in a run: the run counts its tick.
-- Assumes nothing.
use mathlib.Core.Path.{◌≡◌, refl, sym, ap, subst, ◌∙◌}
use mathlib.Core.Logic.{◌⊎◌, inl, inr}
use mathlib.Core.Bool.{Bool, true, false, not, ◌&&◌}
use mathlib.Core.List.{List}
use Prim.Native.Nat.{ℕ, zero, suc, ◌+◌, ◌-◌, ◌≤◌, ◌<◌}
use native.Mathlib.Nat.{zero-add}
use native.Mathlib.Omega.{arith}
use lib.Dec.{eqb, ltb}
use borrow.Author.Tests.{ltb-true, ltb-false, eqb-true, eqb-false}
use Rattle.basis.proofs.Choice.{clash, test}
use Rattle.cores.specs.declared.Core.{Core}
use Rattle.tick.specs.Tick.{Tick, number_of, refuses, stops, tick_of}
use Rattle.tick.specs.Offer.{Offer}
use Rattle.std.specs.Prelude.{Some}
use Rattle.tick.specs.declared.Answer.TheVariants.{Entered}
use Rattle.run.specs.Run.{Run, ran, run_of, after_ticks, tick_after, goes_on}
use Rattle.run.specs.Lent.{offers}
use Rattle.run.proofs.Ticks.{runs_are_ticks}
use Rattle.run.proofs.Unroll.{step}
use Rattle.schedule.specs.Laws.{after_by, tick_by}
use Rattle.latency.specs.Entry.{RunsEnterWithinEight}
use Rattle.latency.proofs.Ticks.{enters}
use Rattle.latency.proofs.Entry.{always, goes_before, entry_within_eight}

-- ---- ticks with one offer held, numbered as a run numbers them
module _ (p : List ℕ) (o : Offer) where
  abbrev one_offer : ℕ → Offer
  one_offer tick = o

  -- behind a first tick
  shifted : (j : ℕ) (k : Core) (m : List ℕ) → let t = tick_of k p m o in after_by one_offer t.core p t.bytes j ≡ after_by one_offer k p m (suc j)
  unfolding after_by
  shifted zero k m = refl
  shifted (suc j) k m = ap (λ (s : Core × List ℕ). let t = tick_of s.0 p s.1 o in (t.core, t.bytes)) (shifted j k m)

  same_after : (j : ℕ) (k : Core) (m : List ℕ) → after_ticks j k p m o ≡ after_by one_offer k p m j
  unfolding after_by
  same_after zero k m = refl
  same_after (suc j) k m = let t = tick_of k p m o in same_after j t.core t.bytes ∙ shifted j k m

  same_tick : (j : ℕ) (k : Core) (m : List ℕ) → tick_after j k p m o ≡ tick_by one_offer k p m j
  unfolding after_by
  same_tick zero k m = refl
  same_tick (suc j) k m = let t = tick_of k p m o in same_tick j t.core t.bytes ∙ ap (λ (s : Core × List ℕ). tick_of s.0 p s.1 o) (shifted j k m)

-- ---- a run counts the entry's tick: it does all its ticks, or ends behind it
module _ (v : ℕ → Offer) (k : Core) (p m : List ℕ) where
  -- how a run of b ticks ends, at so many counted
  abbrev pub Ends : ℕ → ℕ → Type 0
  Ends b count = (count ≡ b) ⊎ ((refuses (tick_by v k p m count).answer ≡ true) ⊎ ((others : ℕ) × ((count ≡ suc others) × (stops (tick_by v k p m others).answer ≡ true))))

  -- ticks from `at` on, the one behind `behind` more being the entry, and none before it refused, break or end
  module _ (at behind : ℕ) (enters_there : (tick_by v k p m (at + behind)).answer ≡ Entered)
      (goes : (j : ℕ) → j < behind → (refuses (tick_by v k p m (at + j)).answer ≡ false) × (stops (tick_by v k p m (at + j)).answer ≡ false)) where
    not_refused : (n : ℕ) → at ≤ n → n ≤ at + behind → refuses (tick_by v k p m n).answer ≡ false
    not_refused n g h =
        test (eqb n (at + behind))
        (λ e. subst (λ (i : ℕ). refuses (tick_by v k p m i).answer ≡ false) (sym (eqb-true n (at + behind) e)) (ap refuses enters_there))
        (λ e. let there : at + (n - at) ≡ n = omega (arith, g) in
        subst (λ (i : ℕ). refuses (tick_by v k p m i).answer ≡ false) there (goes (n - at) (omega (arith, g, h, eqb-false n (at + behind) e))).0)

    not_stopped : (n : ℕ) → at ≤ n → n < at + behind → stops (tick_by v k p m n).answer ≡ false
    not_stopped n g h =
        let there : at + (n - at) ≡ n = omega (arith, g) in
        subst (λ (i : ℕ). stops (tick_by v k p m i).answer ≡ false) there (goes (n - at) (omega (arith, g, h))).1

    pub counted : (b count : ℕ) → (at ≡ 0) ⊎ (at < count) → at + behind < b → Ends b count → at + behind < count
    counted b count low room (inl e) = omega (arith, e, room)
    counted b count low room (inr (inl r)) =
        let from : at ≤ count = elim low [ inl z ↦ omega (arith, z) | inr z ↦ omega (arith, z) ] in
        test (ltb (at + behind) count) (ltb-true (at + behind) count)
        (λ e. clash (sym r ∙ not_refused count from (ltb-false (at + behind) count e)))
    counted b count low room (inr (inr (others, (is, s)))) =
        let from : at ≤ others = elim low [ inl z ↦ omega (arith, z) | inr z ↦ omega (arith, z, is) ] in
        test (ltb (at + behind) count) (ltb-true (at + behind) count)
        (λ e. clash (sym s ∙ not_stopped others from (omega (arith, is, ltb-false (at + behind) count e))))

-- ---- a run that does all its ticks
all_done : (b : ℕ) (r s rest : Bool) (t : Tick) (x : Run) → (not r && not s && rest) ≡ true
    → (rest ≡ true → (x.answer ≡ 24) × (x.count ≡ b)) → ((step r s t x).answer ≡ 24) × ((step r s t x).count ≡ suc b)
all_done b true s rest t x h g = clash (sym h)
all_done b false true rest t x h g = clash (sym h)
all_done b false false rest t x h g = ((g h).0, omega (arith, (g h).1))

counts : (b : ℕ) (k : Core) (p m : List ℕ) (o : Offer) → goes_on b k p m o ≡ true → ((run_of b k p m o).answer ≡ 24) × ((run_of b k p m o).count ≡ b)
unfolding ran
counts zero k p m o h = (refl, refl)
counts (suc b) k p m o h =
    let t = tick_of k p m o in
    all_done b (refuses t.answer) (stops t.answer) (goes_on b t.core p t.bytes o) t (run_of b t.core p t.bytes o) h (counts b t.core p t.bytes o)

-- ---- in a run
pub runs_enter_within_eight : RunsEnterWithinEight
unfolding after_by
runs_enter_within_eight b room k p m vector w =
    let o = Some vector in
    let v = one_offer p o in
    let offered = always v k p m 8 (λ j. offers (v (suc j))) (λ j l. refl) in
    let e = entry_within_eight v k p m w offered in
    let at = e.behind in
    let core = after_by v k p m at in
    let does = enters core.0 p core.1 o (ap (λ a. eqb (number_of a) 17) e.answer) in
    let r = run_of b k p m o in
    let ends = (runs_are_ticks b k p m o).1 in
    let ended : Ends v k p m b r.count = elim ends [
      | inl z ↦ inl z.count
      | inr (inl z) ↦ inr (inl (ap (λ t. refuses t.answer) (sym (same_tick p o r.count k m)) ∙ z.refused))
      | inr (inr z) ↦ inr (inr (z.others, (z.count, ap (λ t. stops t.answer) (sym (same_tick p o z.others k m)) ∙ z.stopped)))
    ] in
    let there = subst (λ (j : ℕ). (tick_by v k p m j).answer ≡ Entered) (sym (zero-add at)) e.answer in
    let before_it : (j : ℕ) → j < at → (refuses (tick_by v k p m (0 + j)).answer ≡ false) × (stops (tick_by v k p m (0 + j)).answer ≡ false) =
    λ j l. subst (λ (i : ℕ). (refuses (tick_by v k p m i).answer ≡ false) × (stops (tick_by v k p m i).answer ≡ false)) (sym (zero-add j)) (goes_before v k p m w offered at e.in_time e.first j l) in
    record {
      behind = at;
      in_time = e.in_time;
      in_run = omega (arith, counted v k p m 0 at there before_it b r.count (inl refl) (omega (arith, e.in_time, room)) ended);
      answer = ap (λ t. t.answer) (same_tick p o at k m) ∙ e.answer;
      clear = ap (λ (s : Core × List ℕ). s.0.in_service) (same_after p o at k m) ∙ does.clear;
      counts = counts b k p m o;
      set = ap (λ (s : Core × List ℕ). s.0.in_service) (same_after p o (suc at) k m) ∙ does.set;
    }
