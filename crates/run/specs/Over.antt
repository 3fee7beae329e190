-- Runs over a snapshot. s are the bytes of a snapshot, p is a program, m the bytes of data, o an offer, b a budget; s' and m' are what the code leaves of s and m.
use Rattle.std.specs.Prelude.{◌≡◌, ℕ, ◌-◌, ◌<◌, ◌≤◌, Bool, ◌&&◌, ◌⊎◌, List, Result, Ok, Err, ◌==◌, nat_le, nat_lt}
use Rattle.basis.specs.Pick.{pick}
use Rattle.cores.specs.declared.Core.{Core}
use Rattle.tick.specs.Tick.{Tick, number_of, tick_of}
use Rattle.tick.specs.Offer.{Offer}
use Rattle.tick.specs.declared.Answer.{Answer}
use Rattle.tick.specs.declared.Answer.TheVariants.{Refused, Waited, Entered, Ran, Sleep, Watchdog, Undefined, Break, End}
use Rattle.snapshot.specs.Snapshot.{read_of, write_of, unreadable_number}
use Rattle.snapshot.specs.declared.Unreadable.{Unreadable}
use Rattle.snapshot.specs.declared.Unreadable.TheVariants.{Length, Busy, Spare}
use Rattle.run.specs.Run.{Run, after, run_of, ended_number, ended_of}
use Rattle.run.specs.Lent.{offers}
use Rattle.run.specs.declared.over.Last.{Last}
use Rattle.run.specs.declared.over.Over.{Over}

-- the core that the bytes say, its tick and its run
abbrev pub said_by : List ℕ → Core
said_by s = (read_of s).core

abbrev pub tick_over : List ℕ → List ℕ → List ℕ → Offer → Tick
tick_over s p m o = tick_of (said_by s) p m o

-- a whole tick
pub record TickedOver (s p m : List ℕ) (o : Offer) (a : Answer) (s' m' : List ℕ) : Type 0 where
  pub answer : a ≡ (tick_over s p m o).answer
  pub snapshot : s' ≡ (write_of (tick_over s p m o).core s).bytes
  pub bytes : m' ≡ (tick_over s p m o).bytes

-- the rest of a run that has done so many of its ticks
abbrev pub rest_over : ℕ → ℕ → List ℕ → List ℕ → List ℕ → Offer → Run
rest_over b done s p m o = after done (run_of (b - done) (said_by s) p m o)

-- the rest of the run from where a stretch ended is the rest from where it began
pub record Stretches (s p m : List ℕ) (on : Bool) (at b done : ℕ) (s' m' : List ℕ) : Type 0 where
  pub read : (read_of s').refusal ≡ 0
  pub onward : at ≤ done
  pub bounded : done ≤ b
  pub rest : (o : Offer) → offers o ≡ on → rest_over b at s p m o ≡ rest_over b done s' p m' o
  pub first : (o : Offer) → offers o ≡ on → (said_by s).busy ≡ 0 → ((done ≡ at) × ((said_by s' ≡ said_by s) × (m' ≡ m))) ⊎ ((at < done) × ((tick_over s p m o).answer ≡ Ran))

abbrev pub run_over : ℕ → List ℕ → List ℕ → List ℕ → Offer → Run
run_over b s p m o = run_of b (said_by s) p m o

-- a run's number by its last tick's: "24, 22, 23 or that refusal"
abbrev pub last_number : ℕ → ℕ
last_number n = pick (nat_lt n 16) n (pick (n == 22) 22 (pick (n == 23) 23 24))

-- a run, with the number of its last tick
pub record Advances (s p m : List ℕ) (o : Offer) (b : ℕ) (a : Last) (s' m' : List ℕ) : Type 0 where
  pub answer : last_number a.answer ≡ (run_over b s p m o).answer
  pub count : a.ticks ≡ (run_over b s p m o).count
  pub snapshot : s' ≡ (write_of (run_over b s p m o).core s).bytes
  pub bytes : m' ≡ (run_over b s p m o).bytes
  pub one : b ≡ 1 → (said_by s).busy ≡ 0 → a.answer ≡ number_of (tick_over s p m o).answer

-- ---- the calls: checks 7, 8 and 9 first, and "a refused call changes no core, no byte of data"
-- the check of a number, and x where none refuses
abbrev pub unreadable_of : ℕ → Unreadable
unreadable_of n = pick (n == 7) Length (pick (n == 8) Busy Spare)

abbrev pub passed : {A : Type 0} → ℕ → A → Result A Unreadable
passed n x = pick (n == 0) (Ok x) (Err (unreadable_of n))

-- an answer by its number in 01's table
abbrev pub answered : ℕ → Answer
answered n =
    pick (nat_lt n 16) (Refused n)
    (pick (n == 16) Waited (pick (n == 17) Entered (pick (n == 18) Ran (pick (n == 19) Sleep (pick (n == 20) Watchdog (pick (n == 21) Undefined (pick (n == 22) Break End)))))))

-- a tick: "The next core is written into the same snapshot; the answer's number is returned."
pub record TickIn : Type 0 where
  pub number : ℕ
  pub snapshot : List ℕ
  pub bytes : List ℕ

abbrev pub tick_in : List ℕ → List ℕ → List ℕ → Offer → TickIn
tick_in s p m o =
    let t = tick_over s p m o in
    pick ((read_of s).refusal == 0) (record { number = number_of t.answer; snapshot = (write_of t.core s).bytes; bytes = t.bytes })
    (record { number = (read_of s).refusal; snapshot = s; bytes = m })

-- the number of what the code hands back
abbrev pub said_tick : Result Answer Unreadable → ℕ
said_tick (Ok a) = number_of a
said_tick (Err e) = unreadable_number e

pub record TicksIn (t : TickIn) (n : ℕ) (s m : List ℕ) : Type 0 where
  pub number : n ≡ t.number
  pub snapshot : s ≡ t.snapshot
  pub bytes : m ≡ t.bytes

-- a run, and its count; 0 where a check refuses
pub record RunIn : Type 0 where
  pub answer : ℕ
  pub count : ℕ
  pub snapshot : List ℕ
  pub bytes : List ℕ

abbrev pub run_in : List ℕ → List ℕ → List ℕ → Offer → ℕ → RunIn
run_in s p m o b =
    let r = run_over b s p m o in
    pick ((read_of s).refusal == 0) (record { answer = r.answer; count = r.count; snapshot = (write_of r.core s).bytes; bytes = r.bytes })
    (record { answer = (read_of s).refusal; count = 0; snapshot = s; bytes = m })

-- a run as the code hands it back
abbrev pub over_of : Run → Over
over_of r = record { ended = ended_of r.answer; ticks = r.count }

-- and the number and the count of that, or of a check
abbrev pub said_run : Result Over Unreadable → ℕ
said_run (Ok a) = ended_number a.ended
said_run (Err e) = unreadable_number e

abbrev pub said_count : Result Over Unreadable → ℕ
said_count (Ok a) = a.ticks
said_count (Err e) = 0

pub record RunsIn (r : RunIn) (a n : ℕ) (s m : List ℕ) : Type 0 where
  pub answer : a ≡ r.answer
  pub count : n ≡ r.count
  pub snapshot : s ≡ r.snapshot
  pub bytes : m ≡ r.bytes

-- the numbers of the checks 7, 8 and 9, which no run answers
abbrev pub of_check : ℕ → Bool
of_check n = nat_le 7 n && nat_le n 9
