-- 02, W6: "The sampling group needs a figure. From a core with busy at most 3, not in service, with a vector offered at every tick and I set before every tick, the entry comes at or before the
-- eighth tick, provided no tick refuses or stops, no RETI runs meanwhile and, under the chip rule, no BSET 7 does. .. The ticks are those that the run reports."
-- k is a core, p a program, m the bytes of data, v what is offered by the tick's number, from 1, j a number of ticks done, so that the next is number j + 1, o an offer, b a budget, l the bytes of a
-- list, i the number of a record, from 0.
use Rattle.std.specs.Prelude.{◌≡◌, ◌⊎◌, Bool, true, false, not, ◌&&◌, ◌||◌, List, [], ◌∷◌, ℕ, zero, suc, ◌+◌, ◌/◌, ◌≤◌, ◌<◌, leb, ltb, length, Some}
use Rattle.basis.specs.Pick.{pick}
use Rattle.instruction.specs.Code.{one_of, is_sei}
use Rattle.instruction.specs.Decode.{decode_of}
use Rattle.instruction.specs.declared.Instruction.{Instruction}
use Rattle.instruction.specs.declared.Instruction.TheVariants.{RETI}
use Rattle.cores.specs.declared.Core.{Core}
use Rattle.cores.specs.State.{flag}
use Rattle.cores.specs.Flow.{op_at}
use Rattle.tick.specs.Tick.{number_of, refuses, stops}
use Rattle.tick.specs.Offer.{Offer}
use Rattle.tick.specs.declared.Answer.TheVariants.{Entered}
use Rattle.run.specs.Run.{run_of, after_ticks, tick_after, goes_on}
use Rattle.run.specs.Lent.{offers}
use Rattle.schedule.specs.Schedule.{record_at, records_of, rising}
use Rattle.schedule.specs.Laws.{after_by, tick_by, enters_by, how_many, x, number_at}
use Rattle.schedule.specs.Laws as laws

-- ---- the premises, of the first eight ticks
module _ (v : ℕ → Offer) (k : Core) (p m : List ℕ) where
  -- this holds of each of so many ticks that comes before the entry, so where no tick up to it entered
  abbrev pub before : ℕ → (ℕ → Bool) → Bool
  before zero holds = true
  before (suc j) holds = before j holds && (ltb 0 (how_many (enters_by v k p m) (suc j)) || holds j)

  -- the core before the tick behind j; the number of its answer; the instruction that it executes, if its number is one of 18 to 22
  abbrev pub core_at : ℕ → Core
  core_at j = (after_by v k p m j).0

  abbrev pub answer_at : ℕ → ℕ
  answer_at j = number_of (tick_by v k p m j).answer

  abbrev pub runs : (Instruction → Bool) → ℕ → Bool
  runs which j = leb 18 (answer_at j) && leb (answer_at j) 22 && which (op_at decode_of p (core_at j).pc)

  -- "busy at most 3"
  abbrev pub busy_at_most3 : Bool
  busy_at_most3 = leb k.busy 3

  -- "not in service"
  abbrev pub not_in_service : Bool
  not_in_service = not k.in_service

  -- "a vector offered at every tick": any vectors
  abbrev pub vector_offered : Bool
  vector_offered = before 8 (λ j. offers (v (suc j)))

  -- "I set before every tick"
  abbrev pub i_set : Bool
  i_set = before 8 (λ j. flag (core_at j) 7)

  -- "no tick refuses or stops"
  abbrev pub none_ends : Bool
  none_ends = before 8 (λ j. not (refuses (tick_by v k p m j).answer) && not (stops (tick_by v k p m j).answer))

  -- "no RETI runs meanwhile"
  abbrev pub has_no_reti : Bool
  has_no_reti = before 8 (λ j. not (runs (one_of (RETI ∷ [])) j))

  -- "and, under the chip rule, no BSET 7 does"
  abbrev pub has_no_sei : Bool
  has_no_sei = before 8 (λ j. not (k.chip && runs is_sei j))

  -- all but the offers
  pub record Waits : Type 0 where
    pub brief : busy_at_most3 ≡ true
    pub outside : not_in_service ≡ true
    pub enabled : i_set ≡ true
    pub goes_on : none_ends ≡ true
    pub no_reti : has_no_reti ≡ true
    pub no_sei : has_no_sei ≡ true

  -- ---- the entry: at tick number `behind` + 1, and at none before
  pub record EntryBy (figure : ℕ) : Type 0 where
    pub behind : ℕ
    pub in_time : suc behind ≤ figure
    pub answer : (tick_by v k p m behind).answer ≡ Entered
    pub first : how_many (enters_by v k p m) behind ≡ 0

-- "the entry comes at or before the eighth tick"
abbrev pub EntryWithinEight : Type 0
EntryWithinEight = (v : ℕ → Offer) (k : Core) (p m : List ℕ) → Waits v k p m → vector_offered v k p m ≡ true → EntryBy v k p m 8

-- more exactly: behind the waits, where inhibit is clear, and else behind one instruction more and its waits, three at most
abbrev pub EntryBehindTheWaits : Type 0
EntryBehindTheWaits =
    (v : ℕ → Offer) (k : Core) (p m : List ℕ) → Waits v k p m → vector_offered v k p m ≡ true → EntryBy v k p m (1 + k.busy + pick k.inhibit 4 0)

-- ---- "The ticks are those that the run reports": a run with offer o held, of eight ticks or more
module _ (b : ℕ) (k : Core) (p m : List ℕ) (o : Offer) where
  pub record RunEnters : Type 0 where
    pub behind : ℕ
    pub in_time : suc behind ≤ 8
    -- it is one of the ticks that the run counts
    pub in_run : behind < (run_of b k p m o).count
    pub answer : (tick_after behind k p m o).answer ≡ Entered
    -- and sets in-service
    pub clear : (after_ticks behind k p m o).0.in_service ≡ false
    pub set : (after_ticks (suc behind) k p m o).0.in_service ≡ true
    -- and where none of its ticks is refused, break or end, the run counts them all
    pub counts : goes_on b k p m o ≡ true → ((run_of b k p m o).answer ≡ 24) × ((run_of b k p m o).count ≡ b)

abbrev pub RunsEnterWithinEight : Type 0
RunsEnterWithinEight =
    (b : ℕ) → 8 ≤ b → (k : Core) (p m : List ℕ) (vector : ℕ) → Waits (λ _. Some vector) k p m → RunEnters b k p m (Some vector)

-- ---- W5's run by a schedule, with list l, from `at` ticks done on
module _ (b : ℕ) (k : Core) (p m l : List ℕ) (at : ℕ) where
  -- what is offered from there on; core and data there
  abbrev pub offers_there : ℕ → Offer
  offers_there tick = laws.offers b k p m l (at + tick)

  abbrev pub there : Core × List ℕ
  there = after_by (laws.offers b k p m l) k p m at

  -- record i of the list waits
  pub record Waiting (i : ℕ) : Type 0 where
    pub rises : rising 0 (records_of l) ≡ true
    pub of_list : i < length l / 5
    -- the run does the next tick, and its budget has eight
    pub reached : at < (x b k p m l).run.count
    pub in_budget : at + 8 ≤ b
    -- at the next tick the record is due, and those before it are entered
    pub due : (record_at l i).tick ≤ suc at
    pub others : (earlier : ℕ) → earlier < i → (0 < number_at b k p m l earlier) × (number_at b k p m l earlier ≤ at)
    -- and the premises hold from there
    pub waits : Waits offers_there there.0 p there.1

-- not entered yet, it is entered at one of the next eight ticks
abbrev pub ScheduleEntersWithinEight : Type 0
ScheduleEntersWithinEight =
    (b : ℕ) (k : Core) (p m l : List ℕ) (at i : ℕ) → Waiting b k p m l at i → (number_at b k p m l i ≡ 0) ⊎ (at < number_at b k p m l i)
    → (at < number_at b k p m l i) × (number_at b k p m l i ≤ at + 8)

-- in the desk's words: an entry is at most seven ticks later than due. It waits from its own tick on, which is number `at` + 1
abbrev pub AtMostSevenLate : Type 0
AtMostSevenLate =
    (b : ℕ) (k : Core) (p m l : List ℕ) (at i : ℕ) → (record_at l i).tick ≡ suc at → Waiting b k p m l at i
    → ((record_at l i).tick ≤ number_at b k p m l i) × (number_at b k p m l i ≤ (record_at l i).tick + 7)
