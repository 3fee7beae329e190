-- What is known of a scheduled run: that it equals single ticks with its offers, and its numbers.
-- k is a core, p a program, m the bytes of data, l the bytes of a list, i the number of a record, from 0, d a record, ds are records, e are numbers, one a record, and n is one of them; v is what is
-- offered by the tick's number, from 1, j a number of ticks done, b a budget, t what a tick gives, r what a run gives, x what a scheduled run gives.
use Rattle.std.specs.Prelude.{◌≡◌, ◌⊎◌, Bool, true, false, not, ◌&&◌, List, [], ◌∷◌, ◌++◌, ℕ, zero, suc, ◌+◌, ◌/◌, ◌≤◌, ◌<◌, eqb, leb, ltb, get_or, drop, length}
use Rattle.basis.specs.Pick.{pick}
use Rattle.basis.specs.Bit.{one}
use Rattle.cores.specs.declared.Core.{Core}
use Rattle.tick.specs.Tick.{Tick, number_of, refuses, stops, tick_of}
use Rattle.tick.specs.Offer.{Offer}
use Rattle.std.specs.Prelude.{Some, None}
use Rattle.tick.specs.declared.Answer.TheVariants.{Entered}
use Rattle.run.specs.Run.{Run, run_of}
use Rattle.schedule.specs.Schedule.{Record, record_at, records_of, rising, refusal_of, Scheduled, scheduled, schedule_of}

-- ---- single ticks
module _ (v : ℕ → Offer) (k : Core) (p m : List ℕ) where
  -- core and data after so many ticks
  unfoldable pub after_by : ℕ → Core × List ℕ
  after_by zero = (k, m)
  after_by (suc j) = let t = tick_of (after_by j).0 p (after_by j).1 (v (suc j)) in (t.core, t.bytes)

  -- the tick behind so many, which is number j + 1
  abbrev pub tick_by : ℕ → Tick
  tick_by j = tick_of (after_by j).0 p (after_by j).1 (v (suc j))

  -- none of so many is refused, break or end
  abbrev pub GoesOnBy : ℕ → Type 0
  GoesOnBy many = (j : ℕ) → j < many → (refuses (tick_by j).answer ≡ false) × (stops (tick_by j).answer ≡ false)

  -- run r of that budget did all its ticks; or the tick behind its last was refused; or its last one was break or end
  pub record SpentBy (b : ℕ) (r : Run) : Type 0 where
    pub answer : r.answer ≡ 24
    pub count : r.count ≡ b
    pub before : GoesOnBy b

  pub record RefusedBy (b : ℕ) (r : Run) : Type 0 where
    pub in_budget : r.count < b
    pub before : GoesOnBy r.count
    pub refused : refuses (tick_by r.count).answer ≡ true
    pub answer : r.answer ≡ number_of (tick_by r.count).answer

  pub record StoppedBy (b : ℕ) (r : Run) : Type 0 where
    pub others : ℕ
    pub count : r.count ≡ suc others
    pub in_budget : others < b
    pub before : GoesOnBy others
    pub stopped : stops (tick_by others).answer ≡ true
    pub answer : r.answer ≡ number_of (tick_by others).answer

  -- the tick behind so many enters
  abbrev pub enters_by : ℕ → Bool
  enters_by j = eqb (number_of (tick_by j).answer) 17

-- of how many of the first j ticks something holds
abbrev pub how_many : (ℕ → Bool) → ℕ → ℕ
how_many holds zero = 0
how_many holds (suc j) = how_many holds j + one (holds j)

-- ---- the offers
-- "At every tick the earliest record that is due and not yet entered is offered": by the numbers, a record was entered before a tick where its number is not 0 and is lower
abbrev pub offered_at : List Record → List ℕ → ℕ → Offer
offered_at [] e tick = None
offered_at (d ∷ ds) e tick =
    pick (leb d.tick tick && not (ltb 0 (get_or e 0 0) && ltb (get_or e 0 0) tick)) (Some d.vector) (offered_at ds (drop 1 e) tick)

-- how many of the numbers are not 0
abbrev pub entered_in : List ℕ → ℕ
entered_in [] = 0
entered_in (n ∷ e) = one (ltb 0 n) + entered_in e

-- ---- the theorem, proved in proofs/Laws.antt: "It equals single ticks with those offers."
module _ (b : ℕ) (k : Core) (p m l : List ℕ) where
  abbrev pub x : Scheduled
  x = scheduled b 0 k p m (records_of l)

  -- the number of record i
  abbrev pub number_at : ℕ → ℕ
  number_at i = get_or x.entries i 0

  abbrev pub offers : ℕ → Offer
  offers tick = offered_at (records_of l) x.entries tick

  -- record i was entered at tick `behind` + 1: it was due, its vector was offered, and the tick answered entered
  pub record EntryAt (i behind : ℕ) : Type 0 where
    pub number : number_at i ≡ suc behind
    pub in_run : behind < x.run.count
    pub due : (record_at l i).tick ≤ suc behind
    pub offered : offers (suc behind) ≡ Some (record_at l i).vector
    pub answer : (tick_by offers k p m behind).answer ≡ Entered

  pub record SingleTicks : Type 0 where
    -- core, data, answer and count
    pub stands : (x.run.core, x.run.bytes) ≡ after_by offers k p m x.run.count
    pub ends : SpentBy offers k p m b x.run ⊎ (RefusedBy offers k p m b x.run ⊎ StoppedBy offers k p m b x.run)
    -- a number a record: the tick of its entry, or 0
    pub numbers : length x.entries ≡ length l / 5
    pub each : (i : ℕ) → i < length l / 5 → (number_at i ≡ 0) ⊎ ((behind : ℕ) × EntryAt i behind)
    -- 0 exactly where none came: each entry of the run is a record's
    pub only : (j : ℕ) → j < x.run.count → (tick_by offers k p m j).answer ≡ Entered → (i : ℕ) × ((i < length l / 5) × (number_at i ≡ suc j))
    pub as_many : how_many (enters_by offers k p m) x.run.count ≡ entered_in x.entries
    -- entries rise, in the list's order
    pub rise : (i later : ℕ) → i < later → 0 < number_at later → (0 < number_at i) × (number_at i < number_at later)

abbrev pub SchedulesAreTicks : Type 0
SchedulesAreTicks = (b : ℕ) (k : Core) (p m l : List ℕ) → rising 0 (records_of l) ≡ true → SingleTicks b k p m l

-- ---- the output: a record's number, and "numbers past the last record keep what they held"
abbrev pub NumbersWritten : Type 0
NumbersWritten =
    (b : ℕ) (k : Core) (p m l e : List ℕ) → refusal_of l (length e) ≡ 0
    → let numbers = (schedule_of b k p m l e).numbers in
    (length numbers ≡ length e) × ((i : ℕ) → (i < length l / 5 → get_or numbers i 0 ≡ number_at b k p m l i) × (length l / 5 ≤ i → get_or numbers i 0 ≡ get_or e i 0))

-- ---- an empty list is a plain run with no offer
abbrev pub EmptyListIsARun : Type 0
EmptyListIsARun = (b : ℕ) (k : Core) (p m e : List ℕ) → schedule_of b k p m [] e ≡ record { run = run_of b k p m None; numbers = e }

-- ---- a larger budget changes no run that ended by itself
abbrev pub SameScheduleUnderLargerBudget : Type 0
SameScheduleUnderLargerBudget =
    (b larger : ℕ) → b ≤ larger → (k : Core) (p m l e : List ℕ) → ((schedule_of b k p m l e).run.answer ≡ 24 → ⊥) → schedule_of larger k p m l e ≡ schedule_of b k p m l e

-- ---- a run in steps
-- the numbers of the records that were entered, which come first
unfoldable pub entered_of : List ℕ → List ℕ
entered_of [] = []
entered_of (n ∷ e) = pick (eqb n 0) [] (n ∷ entered_of e)

-- a scheduled run taken up where x ended, with the records that x did not enter: all its numbers
abbrev pub taken_up : Scheduled → ℕ → List ℕ → List Record → Scheduled
taken_up x left p ds =
    let e = entered_of x.entries in
    let y = scheduled left x.run.count x.run.core p x.run.bytes (drop (length e) ds) in
    record { run = y.run; entries = e ++ y.entries }

-- the theorem, proved in proofs/InSteps.antt: taken up where its budget had ended, it is the run that the whole budget gives
abbrev pub RunsInSteps : Type 0
RunsInSteps =
    (j left done : ℕ) (k : Core) (p m : List ℕ) (ds : List Record) → (scheduled j done k p m ds).run.answer ≡ 24
    → scheduled (j + left) done k p m ds ≡ taken_up (scheduled j done k p m ds) left p ds
