-- A scheduled run, a record at a time. s are the bytes of a snapshot, p is a program, m the bytes of data, l the bytes of a list, e the numbers lent for output, b a budget, done a number of
-- ticks done, d a record, ds are the records behind it, a is what the code hands back; s', m' and e' are what it leaves of s, m and e.
use Rattle.std.specs.Prelude.{◌≡◌, true, List, ◌∷◌, ℕ, suc, ◌-◌, ◌≤◌, ◌<◌, ltb, Result, Ok, Err, IfErr}
use Rattle.basis.specs.Pick.{pick}
use Rattle.snapshot.specs.Snapshot.{read_of}
use Rattle.run.specs.Run.{Run, ended_number, ended_of}
use Rattle.run.specs.Over.{said_by}
use Rattle.run.specs.declared.over.Over.{Over}
use Rattle.schedule.specs.Schedule.{Record, records_of, rising, Scheduled, stopped, noted, scheduled, numbers_of}

-- the rest of a scheduled run that has done so many of its ticks
abbrev pub rest_from : ℕ → ℕ → List ℕ → List ℕ → List ℕ → List Record → Scheduled
rest_from b done s p m ds = scheduled (b - done) done (said_by s) p m ds

-- a run's answer and its count
pub record Told : Type 0 where
  pub answer : ℕ
  pub ticks : ℕ

abbrev pub told : Over → Told
told a = record { answer = ended_number a.ended; ticks = a.ticks }

-- its end is the one of its number
abbrev pub Plain : Over → Type 0
Plain a = a.ended ≡ ended_of (ended_number a.ended)

-- the run that an answer and a count, a snapshot and data say
abbrev pub said_run : Told → List ℕ → List ℕ → Run
said_run a s m = record { answer = a.answer; count = a.ticks; core = said_by s; bytes = m }

-- how many ticks are left before a record is due, at most what is left of the budget
abbrev pub until_of : ℕ → ℕ → ℕ → ℕ
until_of tick done b = pick (ltb b tick) (b - done) (tick - 1 - done)

-- where the code is done with record d: it was entered at that tick and the rest follows, or the run is over
abbrev pub served_by : Result ℕ Over → ℕ → List ℕ → List ℕ → List ℕ → Record → List Record → Scheduled
served_by (Ok tick) b s p m d ds = noted tick (rest_from b tick s p m ds)
served_by (Err a) b s p m d ds = stopped (said_run (told a) s m) (d ∷ ds)

abbrev pub ticks_by : Result ℕ Over → ℕ
ticks_by (Ok tick) = tick
ticks_by (Err a) = a.ticks

pub record Serves (s p m : List ℕ) (d : Record) (done b : ℕ) (a : Result ℕ Over) (s' m' : List ℕ) : Type 0 where
  pub read : (read_of s').refusal ≡ 0
  pub onward : done ≤ ticks_by a
  pub bounded : ticks_by a ≤ b
  pub plain : IfErr a Plain
  pub rest : (ds : List Record) → rising d.tick ds ≡ true → rest_from b done s p m (d ∷ ds) ≡ served_by a b s' p m' d ds

-- with a record due at the next tick, if there is one left, whatever tick it says
abbrev pub Waits : List ℕ → List ℕ → List ℕ → ℕ → ℕ → ℕ → Result ℕ Over → List ℕ → List ℕ → Type 0
Waits s p m vector done b a s' m' = (tick : ℕ) → (done < b → tick ≤ suc done) → Serves s p m (record { tick = tick; vector = vector }) done b a s' m'

-- the whole list
pub record Follows (s p m l : List ℕ) (done b : ℕ) (e : List ℕ) (a : Over) (s' m' e' : List ℕ) : Type 0 where
  pub read : (read_of s').refusal ≡ 0
  pub plain : Plain a
  pub run : said_run (told a) s' m' ≡ (rest_from b done s p m (records_of l)).run
  pub numbers : e' ≡ numbers_of (rest_from b done s p m (records_of l)).entries e
