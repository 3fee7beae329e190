-- 02, W5: "Field staff give us the ticks at which the sample timer fired. We want a run driven by such a list."
-- l are the bytes of a list, i is the number of a record, from 0, d a record, ds are records, in a run those not yet entered; k is a core, p a program, m the bytes of data, s the bytes of a
-- snapshot, e the numbers lent for output, t what a tick gives, r what a run gives, x what a scheduled run gives, n a number of 01's table or 02's.
use Rattle.std.specs.Prelude.{◌≡◌, Bool, true, false, ◌&&◌, ◌||◌, List, [], ◌∷◌, ◌++◌, ℕ, zero, suc, ◌+◌, ◌*◌, ◌/◌, ◌%◌, eqb, leb, ltb, get_or, drop, length, replicate, Result, Ok, Err, ◌==◌}
use Rattle.basis.specs.Pick.{pick}
use Rattle.cores.specs.declared.Core.{Core}
use Rattle.tick.specs.Tick.{number_of, refuses, stops, tick_of}
use Rattle.tick.specs.Offer.{Offer}
use Rattle.std.specs.Prelude.{Some, None}
use Rattle.snapshot.specs.Snapshot.{read_of, write_of, unreadable_number}
use Rattle.run.specs.Run.{Run, ended, ended_of}
use Rattle.run.specs.Over.{RunIn, said_by, unreadable_of}
use Rattle.run.specs.declared.Ran.{Ran}
use Rattle.run.specs.declared.over.Over.{Over}
use Rattle.schedule.specs.declared.list.Unlisted.{Unlisted}
use Rattle.schedule.specs.declared.list.Unlisted.TheVariants.{Whole, Rising, Room}
use Rattle.schedule.specs.declared.Refused.{Refused}
use Rattle.schedule.specs.declared.Refused.TheVariants as refused
-- ---- the list
-- "Each record is 40 bits, most significant first: tick number 24 bits, vector 16 bits"
pub use Rattle.schedule.specs.declared.list.Record.{Record}

-- record number i
abbrev pub record_at : List ℕ → ℕ → Record
record_at l i =
    record {
      tick = get_or l (5 * i) 0 * 65536 + get_or l (5 * i + 1) 0 * 256 + get_or l (5 * i + 2) 0;
      vector = get_or l (5 * i + 3) 0 * 256 + get_or l (5 * i + 4) 0;
    }

-- so many records, from number i on
abbrev pub records_from : List ℕ → ℕ → ℕ → List Record
records_from l i zero = []
records_from l i (suc many) = record_at l i ∷ records_from l (suc i) many

abbrev pub records_of : List ℕ → List Record
records_of l = records_from l 0 (length l / 5)

-- "ticks start at 1 and strictly rise": the first is above `last`, 0 for the whole list, and each above the one before
abbrev pub rising : ℕ → List Record → Bool
rising last [] = true
rising last (d ∷ ds) = ltb last d.tick && rising d.tick ds

-- "Refusals: 30 list not whole records, 31 ticks zero or not rising, 32 output shorter than the number of records; in that order"; 0 is none
abbrev pub refusal_of : List ℕ → ℕ → ℕ
refusal_of l room = pick (eqb (length l % 5) 0) (pick (rising 0 (records_of l)) (pick (ltb room (length l / 5)) 32 0) 31) 30

-- the number of each refusal, and of what the code's check hands back
abbrev pub unlisted_number : Unlisted → ℕ
unlisted_number Whole = 30
unlisted_number Rising = 31
unlisted_number Room = 32

abbrev pub said_check : Result Unit Unlisted → ℕ
said_check (Ok x) = 0
said_check (Err e) = unlisted_number e

-- the check of a number, and x where none refuses
abbrev pub unlisted_of : ℕ → Unlisted
unlisted_of n = pick (eqb n 30) Whole (pick (eqb n 31) Rising Room)

abbrev pub listed : {A : Type 0} → ℕ → A → Result A Unlisted
listed n x = pick (n == 0) (Ok x) (Err (unlisted_of n))

-- ---- the run
-- "At every tick the earliest record that is due and not yet entered is offered." It is due at its tick and at every later one
abbrev pub offered : ℕ → List Record → Offer
offered tick [] = None
offered tick (d ∷ ds) = pick (leb d.tick tick) (Some d.vector) (offered tick ds)

-- what a scheduled run gives: answer, count, core and data as a run does, and "per record, the tick of its entry, or 0 where the run stopped before one"
pub record Scheduled : Type 0 where
  pub run : Run
  pub entries : List ℕ

-- it stops, and none of ds was entered
abbrev pub stopped : Run → List Record → Scheduled
stopped r ds = record { run = r; entries = replicate (length ds) 0 }

-- the first record not yet entered was entered at that tick
abbrev pub noted : ℕ → Scheduled → Scheduled
noted tick x = record { run = x.run; entries = tick ∷ x.entries }

-- "The run takes a budget and stops as a plain run does": with so many ticks left and `done` of them done, so that the next is number `done` + 1; 17 is entered.
-- Records are entered in their order, so those not yet entered are the rest of the list
unfoldable pub scheduled : ℕ → ℕ → Core → List ℕ → List ℕ → List Record → Scheduled
scheduled zero done k p m ds = stopped (record { answer = 24; count = done; core = k; bytes = m }) ds
scheduled (suc left) done k p m ds =
    let t = tick_of k p m (offered (suc done) ds) in
    elim (refuses t.answer) [
      | true ↦ stopped (ended done t) ds
      | false ↦ elim (stops t.answer) [
        | true ↦ stopped (ended (suc done) t) ds
        | false ↦ elim (eqb (number_of t.answer) 17) [
          | true ↦ noted (suc done) (scheduled left (suc done) t.core p t.bytes (drop 1 ds))
          | false ↦ scheduled left (suc done) t.core p t.bytes ds
        ]
      ]
    ]

-- ---- the call
-- "a lent buffer of 32-bit numbers receives" the entries; "numbers past the last record keep what they held"
abbrev pub numbers_of : List ℕ → List ℕ → List ℕ
numbers_of entries e = entries ++ drop (length entries) e

pub record Schedule : Type 0 where
  pub run : Run
  pub numbers : List ℕ

-- by a check: "nothing run", and nothing changed
abbrev pub schedule_of : ℕ → Core → List ℕ → List ℕ → List ℕ → List ℕ → Schedule
schedule_of budget k p m l e =
    let x = scheduled budget 0 k p m (records_of l) in
    let refusal = refusal_of l (length e) in
    pick (eqb refusal 0) (record { run = x.run; numbers = numbers_of x.entries e })
    (record { run = record { answer = refusal; count = 0; core = k; bytes = m }; numbers = e })

-- a run as the code hands it back
abbrev pub ran_of : Run → Ran
ran_of r = record { ended = ended_of r.answer; ticks = r.count; core = r.core }

-- over a snapshot: 7, 8 and 9 before the rest
abbrev pub refusal_in : List ℕ → List ℕ → ℕ → ℕ
refusal_in s l room = pick (eqb (read_of s).refusal 0) (refusal_of l room) (read_of s).refusal

pub record ScheduleIn : Type 0 where
  pub run : RunIn
  pub numbers : List ℕ

-- where `done` ticks of the run are done already, so many are left, and l has the records not yet entered
abbrev pub schedule_from : List ℕ → List ℕ → List ℕ → List ℕ → ℕ → ℕ → List ℕ → ScheduleIn
schedule_from s p m l done left e =
    let x = scheduled left done (said_by s) p m (records_of l) in
    let r = x.run in
    let refusal = refusal_in s l (length e) in
    pick (eqb refusal 0)
    (record { run = record { answer = r.answer; count = r.count; snapshot = (write_of r.core s).bytes; bytes = r.bytes }; numbers = numbers_of x.entries e })
    (record { run = record { answer = refusal; count = done; snapshot = s; bytes = m }; numbers = e })

abbrev pub schedule_in : List ℕ → List ℕ → List ℕ → List ℕ → ℕ → List ℕ → ScheduleIn
schedule_in s p m l budget e = schedule_from s p m l 0 budget e

-- as the code hands it back: the refusal of a number, and x where none refuses
abbrev pub refused_number : Refused → ℕ
refused_number (refused.Unreadable e) = unreadable_number e
refused_number (refused.Unlisted e) = unlisted_number e

abbrev pub started : {A : Type 0} → ℕ → A → Result A Refused
started n x = pick (n == 0) (Ok x) (Err (pick (leb 30 n) (refused.Unlisted (unlisted_of n)) (refused.Unreadable (unreadable_of n))))

abbrev pub over_of : RunIn → Over
over_of r = record { ended = ended_of r.answer; ticks = r.count }

-- ---- the theorems, proved in proofs/Refusals.antt: what the code names as the reason has the number of the check that refused
abbrev pub ListsRefusedByNumber : Type 0
ListsRefusedByNumber = (l : List ℕ) (room : ℕ) (x : Ran) (e : Unlisted) → Err e ≡ listed (refusal_of l room) x → unlisted_number e ≡ refusal_of l room

abbrev pub StartsRefusedByNumber : Type 0
StartsRefusedByNumber = (s l : List ℕ) (room : ℕ) (x : Over) (e : Refused) → Err e ≡ started (refusal_in s l room) x → refused_number e ≡ refusal_in s l room

-- the numbers of the checks, 7 to 9 and 30 to 32, which no run answers
abbrev pub of_check : ℕ → Bool
of_check n = (leb 7 n && leb n 9) || leb 30 n
