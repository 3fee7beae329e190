-- 01, 'Runs': "A run takes one held offer and a budget. It stops at the budget, break, end or a refusal, answers 24, 22, 23 or that refusal, and reports
-- the number of ticks done; break and end count, a refused tick doesn't. Core and data stand as after the last done tick."
-- k is a core, p a program, m the bytes of data, o an offer, t what a tick gives, r what a run gives.
use Rattle.std.specs.Prelude.{◌≡◌, ℕ, zero, suc, ◌+◌, ◌<◌, ◌≤◌, Bool, true, false, not, ◌&&◌, ◌⊎◌, List, ◌≢◌, ◌==◌}
use Rattle.basis.specs.Pick.{pick}
use Rattle.instruction.specs.Decode.{decode_of}
use Rattle.instruction.specs.declared.Instruction.{Instruction}
use Rattle.cores.specs.declared.Core.{Core}
use Rattle.tick.specs.Tick.{Tick, number_of, refuses, stops, ticked, tick_of}
use Rattle.tick.specs.Offer.{Offer}
use Rattle.tick.specs.declared.Answer.{Answer}
use Rattle.tick.specs.declared.Answer.TheVariants as answer
use Rattle.run.specs.declared.Ended.{Ended}
use Rattle.run.specs.declared.Ended.TheVariants.{Budget, Break, End, Refused}
use Rattle.run.specs.declared.Ran as code

-- what a run gives: an answer's number, the count of ticks done, a core and the bytes of data
pub record Run : Type 0 where
  pub answer : ℕ
  pub count : ℕ
  pub core : Core
  pub bytes : List ℕ

-- "answers 24, 22, 23 or that refusal": the number of each end
abbrev pub ended_number : Ended → ℕ
ended_number Budget = 24
ended_number Break = 22
ended_number End = 23
ended_number (Refused n) = n

-- and the end that the code says by a number
abbrev pub ended_of : ℕ → Ended
ended_of n = pick (n == 24) Budget (pick (n == 22) Break (pick (n == 23) End (Refused n)))

-- by a run's last tick
abbrev pub ended_by : Answer → Ended
ended_by (answer.Refused n) = Refused n
ended_by answer.Waited = Budget
ended_by answer.Entered = Budget
ended_by answer.Ran = Budget
ended_by answer.Sleep = Budget
ended_by answer.Watchdog = Budget
ended_by answer.Undefined = Budget
ended_by answer.Break = Break
ended_by answer.End = End

-- what the code hands back, and the lent data, are those
pub record Runs (r : Run) (back : code.Ran) (m : List ℕ) : Type 0 where
  pub answer : back.ended ≡ ended_of r.answer
  pub count : back.ticks ≡ r.count
  pub core : back.core ≡ r.core
  pub bytes : m ≡ r.bytes

-- "a run did all its ticks, none of them break, end or refused"
abbrev pub spent : Core → List ℕ → Run
spent k m = record { answer = 24; count = 0; core = k; bytes = m }

-- ended by a tick, after so many ticks done
abbrev pub ended : ℕ → Tick → Run
ended ticks t = record { answer = number_of t.answer; count = ticks; core = t.core; bytes = t.bytes }

-- so many ticks more were done before it
abbrev pub after : ℕ → Run → Run
after ticks r = record { answer = r.answer; count = ticks + r.count; core = r.core; bytes = r.bytes }

-- "Budget 0 answers 24 and reports 0, for every core." Otherwise a tick, and the rest of the run with one less
module _ (decode : ℕ → ℕ → Instruction) where
  unfoldable pub ran : ℕ → Core → List ℕ → List ℕ → Offer → Run
  ran zero k p m o = spent k m
  ran (suc budget) k p m o =
      let t = ticked decode k p m o in
      elim (refuses t.answer) [
        | true ↦ ended 0 t
        | false ↦ elim (stops t.answer) [ true ↦ ended 1 t | false ↦ after 1 (ran budget t.core p t.bytes o) ]
      ]

-- the run, by 01's decode
abbrev pub run_of : ℕ → Core → List ℕ → List ℕ → Offer → Run
run_of budget k p m o = ran decode_of budget k p m o

-- ---- the theorem, proved in proofs/Ends.antt: the code's end has the number that it was said by
abbrev pub EndsHaveTheirNumbers : Type 0
EndsHaveTheirNumbers = (n : ℕ) → ended_number (ended_of n) ≡ n

-- ---- the theorem, proved in proofs/Larger.antt
-- "A run that answered anything but 24 answers the same under any larger budget": with the same count, core and data
abbrev pub SameUnderLargerBudget : Type 0
SameUnderLargerBudget =
    (budget larger : ℕ) → budget ≤ larger → (k : Core) (p m : List ℕ) (o : Offer)
    → ((run_of budget k p m o).answer ≢ 24) → run_of larger k p m o ≡ run_of budget k p m o

-- ---- the theorem, proved in proofs/Ticks.antt: "A run equals such ticks one after another, as 01 defines it, its count included" (demand 2)
-- core and data after so many ticks, and the tick behind them
abbrev pub after_ticks : ℕ → Core → List ℕ → List ℕ → Offer → Core × List ℕ
after_ticks zero k p m o = (k, m)
after_ticks (suc ticks) k p m o = let t = tick_of k p m o in after_ticks ticks t.core p t.bytes o

abbrev pub tick_after : ℕ → Core → List ℕ → List ℕ → Offer → Tick
tick_after zero k p m o = tick_of k p m o
tick_after (suc ticks) k p m o = let t = tick_of k p m o in tick_after ticks t.core p t.bytes o

-- none of so many ticks is refused, break or end
abbrev pub goes_on : ℕ → Core → List ℕ → List ℕ → Offer → Bool
goes_on zero k p m o = true
goes_on (suc ticks) k p m o =
    let t = tick_of k p m o in
    not (refuses t.answer) && not (stops t.answer) && goes_on ticks t.core p t.bytes o

-- run r of that budget did all its ticks, and none of them ends a run; or the tick behind its last was refused; or its last one was break or end
module _ (budget : ℕ) (k : Core) (p m : List ℕ) (o : Offer) (r : Run) where
  pub record Spent : Type 0 where
    pub answer : r.answer ≡ 24
    pub count : r.count ≡ budget
    pub before : goes_on budget k p m o ≡ true

  pub record RefusedNext : Type 0 where
    pub in_budget : r.count < budget
    pub before : goes_on r.count k p m o ≡ true
    pub refused : refuses (tick_after r.count k p m o).answer ≡ true
    pub answer : r.answer ≡ number_of (tick_after r.count k p m o).answer

  pub record StoppedLast : Type 0 where
    pub others : ℕ
    pub count : r.count ≡ suc others
    pub in_budget : others < budget
    pub before : goes_on others k p m o ≡ true
    pub stopped : stops (tick_after others k p m o).answer ≡ true
    pub answer : r.answer ≡ number_of (tick_after others k p m o).answer

abbrev pub RunsAreTicks : Type 0
RunsAreTicks =
    (budget : ℕ) (k : Core) (p m : List ℕ) (o : Offer)
    → let r = run_of budget k p m o in
    ((r.core, r.bytes) ≡ after_ticks r.count k p m o)
    × (Spent budget k p m o r ⊎ (RefusedNext budget k p m o r ⊎ StoppedLast budget k p m o r))
