-- DEMAND 3: interrupts leave no trace.
--
-- A logger compares two time stamps of two bytes each: CP on the low bytes, then CPC on the high ones, which goes on from the flags that CP left. If an
-- interrupt comes between the two and one flag is changed when it is over, the earlier stamp passes for the later. Promised is that no interrupt does
-- that, wherever it comes, as long as each handler puts back what it touched.
--
-- The stretch is n consecutive words of program, from where PC stands, each an instruction of 01's register-only list, ending at PC 65,535 or before.
-- The core is neither busy nor in service at its start; all else is as it may be: registers, SREG, SP, data, inhibit set or clear, and the rule, source or chip.
-- Instructions of the stretch may set and clear any flag, I too; under chip SEI also sets inhibit, which puts an entry off.
-- Two runs begin there. One is offered what one likes, at each tick a vector or none. The plain run is offered none. A run is at the end when PC stands
-- behind the stretch and the core is neither busy nor in service; the two are there first after `long` and after `short` ticks.
--
-- Assumed is, of the run with offers and up to its end: no tick is refused; and each handler gets to its first RETI with registers and SREG as they were
-- before its entry, SP two lower, and the two return bytes as the entry left them. What it does on the way is its own affair: it may push, call, loop,
-- store, and run words of the stretch.
--
-- Promised is: both runs get to the end, with the same registers, SREG, SP and PC. `long` is `short` and the handlers' ticks, each handler's counted from its entry
-- to the third wait after its RETI. Only handlers wrote data, their entries being theirs; the plain run wrote none, only waited and ran, and took at
-- most two ticks an instruction.
--
-- p is a program, s core and data, o an offer, v what is offered at each tick, n how many instructions the stretch has; t, r and u are numbers of ticks.
use Rattle.std.specs.Prelude.{◌≡◌, ◌⊎◌, ◌↔◌, Bool, true, false, ◌&&◌, List, ℕ, suc, ◌+◌, ◌*◌, ◌-◌, ◌≤◌, ◌<◌, eqb, get_or, None}
use Rattle.instruction.specs.Decode.{decode_of}
use Rattle.memory.specs.Memory.{has_word_of}
use Rattle.cores.specs.declared.Core.{Core}
use Rattle.cores.specs.Flow.{op_at}
use Rattle.tick.specs.Offer.{Offer}
use Rattle.tick.specs.Tick.{Tick, tick_of, number_of}
use Rattle.interrupts.specs.RegisterOnly.{register_only, kind_of, is_return}
use Rattle.interrupts.specs.Handlers.{iterated, First, NotYet, FirstReti, OfHandler, counted_at, handler_ticks}

-- ---- the stretch
-- the words at PC `start` and on, below `finish`, are in program and on the list
pub record Stretch (p : List ℕ) (start finish : ℕ) : Type 0 where
  pub ends : finish ≤ 65535
  pub there : (x : ℕ) → start ≤ x → x < finish → has_word_of p x ≡ true
  pub list : (x : ℕ) → start ≤ x → x < finish → kind_of (op_at decode_of p x) ≡ register_only

-- ---- a run of program p: core and data, tick by tick
pub record State : Type 0 where
  pub core : Core
  pub bytes : List ℕ

abbrev pub tick_at : List ℕ → Offer → State → Tick
tick_at p o s = tick_of s.core p s.bytes o

abbrev pub next : List ℕ → Offer → State → State
next p o s = let made = tick_at p o s in record { core = made.core; bytes = made.bytes }

-- what is offered, by the tick's number
abbrev pub Offers : Type 0
Offers = ℕ → Offer

abbrev pub no_offers : Offers
no_offers t = None

-- registers and SREG
pub record Kept : Type 0 where
  pub regs : List ℕ
  pub sreg : ℕ

abbrev pub kept : State → Kept
kept s = record { regs = s.core.regs; sreg = s.core.sreg }

abbrev pub pc : State → ℕ
pc s = s.core.pc

abbrev pub sp : State → ℕ
sp s = s.core.sp

-- the data byte at an address
abbrev pub byte_at : State → ℕ → ℕ
byte_at s at = get_or s.bytes at 0

-- PC e, not busy and not in service
pub record AtEnd (e : ℕ) (s : State) : Type 0 where
  pub there : pc s ≡ e
  pub ready : s.core.busy ≡ 0
  pub free : s.core.in_service ≡ false

module _ (p : List ℕ) (s : State) where
  -- under the offers v, the state before tick j, so after j ticks
  abbrev pub after : Offers → ℕ → State
  after v j = iterated (λ t. next p (v t)) s j

  -- the number of tick t's answer, as 01's table has it: below 16 where it is refused
  abbrev pub number_at : Offers → ℕ → ℕ
  number_at v t = number_of (tick_at p (v t) (after v t)).answer

  -- tick t enters
  abbrev pub enters : Offers → ℕ → Bool
  enters v t = eqb (number_at v t) 17

  -- tick t executes RETI: it answers ran, and RETI stands at PC
  abbrev pub returns : Offers → ℕ → Bool
  returns v t = eqb (number_at v t) 18 && is_return (kind_of (op_at decode_of p (pc (after v t))))

  -- after j ticks the run is at the end of the stretch of n instructions
  abbrev pub Ended : ℕ → Offers → ℕ → Type 0
  Ended n v j = AtEnd (pc s + n) (after v j)

  -- ---- what is assumed
  -- before tick r registers and SREG are as before the entry at tick t, SP is two lower, and the return bytes are as the entry left them
  pub record Restored (v : Offers) (t r : ℕ) : Type 0 where
    pub same : kept (after v r) ≡ kept (after v t)
    pub lower : sp (after v r) + 2 ≡ sp (after v t)
    pub low : byte_at (after v r) (sp (after v t)) ≡ byte_at (after v (suc t)) (sp (after v t))
    pub high : byte_at (after v r) (sp (after v t) - 1) ≡ byte_at (after v (suc t)) (sp (after v t) - 1)

  -- the handler entered at tick t gets to its first RETI so
  pub record Handled (v : Offers) (t : ℕ) : Type 0 where
    pub at : ℕ
    pub reti : FirstReti (returns v) t at
    pub restored : Restored v t at

  -- the stretch, and the core at its start
  pub record Begins (n : ℕ) : Type 0 where
    pub stretch : Stretch p (pc s) (pc s + n)
    pub ready : s.core.busy ≡ 0
    pub free : s.core.in_service ≡ false

  -- of ticks up to the end: none is refused, and handlers get to their RETI. That the end is reached is not assumed
  pub record Assumed (n : ℕ) (v : Offers) : Type 0 where
    pub begins : Begins n
    pub allowed : (t : ℕ) → NotYet (Ended n v) t → 16 ≤ number_at v t
    pub handled : (t : ℕ) → NotYet (Ended n v) t → enters v t ≡ true → Handled v t

  -- the same where the end is known to be reached first after so many ticks: that handlers get to their RETI is not assumed
  pub record AssumedTo (n : ℕ) (v : Offers) (long : ℕ) : Type 0 where
    pub begins : Begins n
    pub first : First (Ended n v) long
    pub allowed : (t : ℕ) → t < long → 16 ≤ number_at v t
    pub restored : (t r : ℕ) → r < long → enters v t ≡ true → FirstReti (returns v) t r → Restored v t r

  -- ---- what is promised: so many ticks under the offers v, long, and so many under none, short
  pub record NoTrace (n : ℕ) (v : Offers) (long short : ℕ) : Type 0 where
    pub first : First (Ended n v) long
    pub plain_first : First (Ended n no_offers) short
    pub same_kept : kept (after v long) ≡ kept (after no_offers short)
    pub same_sp : sp (after v long) ≡ sp (after no_offers short)
    pub same_pc : pc (after v long) ≡ pc (after no_offers short)
    pub ticks : long ≡ short + handler_ticks (enters v) (returns v) long
    -- what is counted is the handlers' ticks
    pub counts : (t : ℕ) → t < long → (counted_at (enters v) (returns v) t ≡ 1) ↔ OfHandler (enters v) (returns v) t
    -- a tick that is no handler's writes no data
    pub wrote : (t : ℕ) → t < long → ¬ (OfHandler (enters v) (returns v) t) → (after v (suc t)).bytes ≡ (after v t).bytes
    pub plain_wrote : (u : ℕ) → u ≤ short → (after no_offers u).bytes ≡ s.bytes
    -- each answer of the plain run is waited or ran
    pub plain_goes : (u : ℕ) → u < short → (number_at no_offers u ≡ 16) ⊎ (number_at no_offers u ≡ 18)
    pub plain_bound : short ≤ 2 * n

-- ---- THE DEMAND, in two forms, for every program, core, data, stretch and offers
-- both runs get to the end, and there is no trace
abbrev pub InterruptsLeaveNoTrace : Type 0
InterruptsLeaveNoTrace = (p : List ℕ) (s : State) (n : ℕ) (v : Offers) → Assumed p s n v → (long : ℕ) × (short : ℕ) × NoTrace p s n v long short

-- a run that gets to the end after so many ticks shows no trace there, whatever comes later
abbrev pub NoTraceAtTheEnd : Type 0
NoTraceAtTheEnd = (p : List ℕ) (s : State) (n : ℕ) (v : Offers) (long : ℕ) → AssumedTo p s n v long → (short : ℕ) × NoTrace p s n v long short

-- ---- 02, W2: "demand 3 holds under each, and its two runs use the same choice". A run keeps the rule of the core that it begins with, and both begin with the same core
abbrev pub RunsKeepTheRule : Type 0
RunsKeepTheRule = (p : List ℕ) (s : State) (v : Offers) (j : ℕ) → (after p s v j).core.chip ≡ s.core.chip

-- ---- and the third wait after a RETI is at the third tick after it, where the count of a handler's ticks ends
abbrev pub ThreeWaitsAfterReti : Type 0
ThreeWaitsAfterReti =
    (p : List ℕ) (s : State) (v : Offers) (t : ℕ)
    → returns p s v t ≡ true
    → (number_at p s v (t + 1) ≡ 16) × (number_at p s v (t + 2) ≡ 16) × (number_at p s v (t + 3) ≡ 16)
