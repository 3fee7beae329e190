-- Demand 3 by an interrupt schedule (02, W5): a run by a list through a stretch of the register-only list ends as the plain run does, under the demand's premises, and the records entered
-- say how many handlers there were.
-- p is a program, s core and data at the start, l the bytes of a list, n how many instructions the stretch has, x what the scheduled run gives, v what it is offered, from tick 0; t, r, long and short
-- are numbers of ticks.
use Rattle.std.specs.Prelude.{◌≡◌, true, List, [], ◌∷◌, ℕ, suc, ◌+◌, ◌<◌}
use Rattle.cores.specs.State.{reg}
use Rattle.std.specs.Prelude.{None}
use Rattle.run.specs.Run.{Run, run_of}
use Rattle.schedule.specs.Schedule.{records_of, rising, Scheduled, scheduled}
use Rattle.schedule.specs.Laws.{how_many, offers, entered_in}
use Rattle.interrupts.specs.Handlers.{First, FirstReti, handler_ticks}
use Rattle.interrupts.specs.Interrupts.{State, Offers, enters, returns, Ended, Restored, Begins, NoTrace}
use Rattle.interrupts.specs.Stamps.{program, start}

-- a run by the list with a budget of `long` ticks
module _ (p : List ℕ) (s : State) (l : List ℕ) (long : ℕ) where
  abbrev pub x : Scheduled
  x = scheduled long 0 s.core p s.bytes (records_of l)

  -- "At every tick the earliest record that is due and not yet entered is offered"; tick t is number t + 1
  abbrev pub v : Offers
  v t = offers long s.core p s.bytes l (suc t)

  -- the plain run of so many ticks
  abbrev pub plain : ℕ → Run
  plain short = run_of short s.core p s.bytes None

  -- what is assumed: the list's ticks rise; the run did all its ticks, so that none was refused or stopped it, and is at the end with the last of them; each handler gets to its first RETI
  -- with registers and SREG as before its entry, SP two lower and its return bytes intact
  pub record AssumedOf (n : ℕ) : Type 0 where
    pub begins : Begins p s n
    pub rises : rising 0 (records_of l) ≡ true
    pub spent : x.run.answer ≡ 24
    pub first : First (Ended p s n v) long
    pub restored : (t r : ℕ) → r < long → enters p s v t ≡ true → FirstReti (returns p s v) t r → Restored p s v t r

  -- what is promised, of the plain run that ends there after so many ticks
  pub record EndsAlike (n short : ℕ) : Type 0 where
    pub plain_spent : (plain short).answer ≡ 24
    pub same_regs : x.run.core.regs ≡ (plain short).core.regs
    pub same_sreg : x.run.core.sreg ≡ (plain short).core.sreg
    pub same_sp : x.run.core.sp ≡ (plain short).core.sp
    pub same_pc : x.run.core.pc ≡ (plain short).core.pc
    pub plain_wrote : (plain short).bytes ≡ s.bytes
    -- it took the handlers' ticks more; as many ticks enter, each a handler, as records were entered
    pub ticks : x.run.count ≡ (plain short).count + handler_ticks (enters p s v) (returns p s v) long
    pub entered : how_many (enters p s v) long ≡ entered_in x.entries
    -- and whatever else demand 3 says of the two
    pub no_trace : NoTrace p s n v long short

abbrev pub SchedulesLeaveNoTrace : Type 0
SchedulesLeaveNoTrace = (p : List ℕ) (s : State) (l : List ℕ) (n long : ℕ) → AssumedOf p s l long n → (short : ℕ) × EndsAlike p s l long n short

-- ---- at work: the two time stamps of `Stamps`, with the careful handler's vector, 4, in a list of one record at tick 2, between CP and CPC
abbrev pub one_record : List ℕ
one_record = 0 ∷ 0 ∷ 2 ∷ 0 ∷ 4 ∷ []

-- what is assumed is met, and so is what is promised, by a plain run of 3 ticks; the record was entered at its tick, and 13:00 is the earlier
pub record StampsByASchedule : Type 0 where
  pub assumed : AssumedOf program start one_record 26 3
  pub alike : EndsAlike program start one_record 26 3 3
  pub number : (x program start one_record 26).entries ≡ 2 ∷ []
  pub earlier : reg (x program start one_record 26).run.core 20 ≡ 0xFF
