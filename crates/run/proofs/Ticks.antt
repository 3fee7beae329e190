-- A run is ticks one after another.
-- Assumes nothing.
use Rattle.std.proofs.Common.{◌≡◌, ℕ, zero, suc, ◌+◌, Bool, true, false, ◌⊎◌, List, refl, inl, inr, arith}
use Rattle.cores.specs.declared.Core.{Core}
use Rattle.tick.specs.Offer.{Offer}
use Rattle.tick.specs.Tick.{Tick, refuses, stops, tick_of}
use Rattle.tick.proofs.Steps.{refused_keeps}
use Rattle.run.specs.Run.{Run, after, ran, run_of, after_ticks, Spent, RefusedNext, StoppedLast, RunsAreTicks}
use Rattle.run.proofs.Unroll.{step}

-- a first tick, and the rest of a run that is ticks one after another
module _ (k : Core) (p m : List ℕ) (o : Offer) where
  abbrev first : Tick
  first = tick_of k p m o

  stands : (r s : Bool) (x : Run) → (r ≡ true → (first.core ≡ k) × (first.bytes ≡ m))
      → (x.core, x.bytes) ≡ after_ticks x.count first.core p first.bytes o
      → ((step r s first x).core, (step r s first x).bytes) ≡ after_ticks (step r s first x).count k p m o
  stands true s x h i = let (g, d) = h refl in cc (g, d)
  stands false true x h i = refl
  stands false false x h i = let z : 1 + x.count ≡ suc x.count = omega arith in rw z i

  abbrev Ended : ℕ → Run → Type 0
  Ended b r = Spent b k p m o r ⊎ (RefusedNext b k p m o r ⊎ StoppedLast b k p m o r)

  abbrev EndedNext : ℕ → Run → Type 0
  EndedNext b x =
      Spent b first.core p first.bytes o x ⊎ (RefusedNext b first.core p first.bytes o x ⊎ StoppedLast b first.core p first.bytes o x)

  module _ (x : Run) (b : ℕ) (e : refuses first.answer ≡ false) (f : stops first.answer ≡ false) where
    one_more : 1 + x.count ≡ suc x.count
    one_more = omega arith

    later : EndedNext b x → Ended (suc b) (after 1 x)
    later (inl s) = inl (record { answer = s.answer; count = omega (arith, s.count); before = rw (e, f) s.before })
    later (inr (inl s)) =
        inr (inl (record {
          in_budget = omega (arith, s.in_budget);
          before = rw (one_more, e, f) s.before;
          refused = rw one_more s.refused;
          answer = rw one_more s.answer;
        }))
    later (inr (inr s)) =
        inr (inr (record {
          others = suc s.others;
          count = omega (arith, s.count);
          in_budget = omega (arith, s.in_budget);
          before = rw (e, f) s.before;
          stopped = s.stopped;
          answer = s.answer;
        }))

  ended_by : (r s : Bool) (x : Run) (b : ℕ) → refuses first.answer ≡ r → stops first.answer ≡ s → EndedNext b x → Ended (suc b) (step r s first x)
  ended_by true s x b e f i = inr (inl (record { in_budget = omega arith; before = refl; refused = e; answer = refl }))
  ended_by false true x b e f i = inr (inr (record { others = 0; count = refl; in_budget = omega arith; before = refl; stopped = f; answer = refl }))
  ended_by false false x b e f i = later x b e f i

pub runs_are_ticks : RunsAreTicks
unfolding ran
runs_are_ticks zero k p m o = (refl, inl (record { answer = refl; count = refl; before = refl }))
runs_are_ticks (suc b) k p m o =
    let t = tick_of k p m o in
    let x = run_of b t.core p t.bytes o in
    let (s, e) = runs_are_ticks b t.core p t.bytes o in (
      stands k p m o (refuses t.answer) (stops t.answer) x (refused_keeps k p m o) s,
      ended_by k p m o (refuses t.answer) (stops t.answer) x b refl refl e,
    )
