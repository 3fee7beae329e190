-- Demand 3 for any machine that is ticked: the laws that it is shown from, and what is shown. No tick of this project is spoken of here, and nobody has to
-- believe this file: `Interrupts` says all that is promised of `tick_of`. A tick that changes proves the laws again and nothing else.
use Rattle.std.specs.Prelude.{◌≡◌, ◌↔◌, Bool, true, false, List, ℕ, suc, ◌+◌, ◌*◌, ◌-◌, ◌/◌, ◌%◌, ◌≤◌, ◌<◌, get_or}
use Rattle.interrupts.specs.Handlers.{iterated, First, NotYet, FirstReti, OfHandler, counted_at, handler_ticks}

-- a machine, with the views that the demand speaks of
pub record Machine : Type 1 where
  -- core and data
  pub State : Type 0
  pub Offer : Type 0
  -- registers and SREG
  pub Kept : Type 0
  pub Rule : Type 0
  -- no vector
  pub none : Offer
  pub tick : Offer → State → State
  -- a tick is not refused; it is one of the plain run's: it waits or runs
  pub Allowed : Offer → State → Type 0
  pub Plain : Offer → State → Type 0
  -- it enters; it executes RETI
  pub enters : Offer → State → Bool
  pub returns : Offer → State → Bool
  pub kept : State → Kept
  pub pc : State → ℕ
  pub sp : State → ℕ
  pub busy : State → ℕ
  pub inhibit : State → Bool
  pub service : State → Bool
  pub rule : State → Rule
  pub bytes : State → List ℕ

module _ (M : Machine) where
  open M use {State, Offer, Kept, Rule, none, tick, Allowed, Plain, enters, returns, kept, pc, sp, busy, inhibit, service, rule, bytes}

  -- ---- a run from s under the offers v
  abbrev pub after : (ℕ → Offer) → State → ℕ → State
  after v s j = iterated (λ t. tick (v t)) s j

  abbrev pub enters_at : (ℕ → Offer) → State → ℕ → Bool
  enters_at v s t = enters (v t) (after v s t)

  abbrev pub returns_at : (ℕ → Offer) → State → ℕ → Bool
  returns_at v s t = returns (v t) (after v s t)

  -- no vector offered at any tick
  abbrev pub quiet : ℕ → Offer
  quiet t = none

  -- ---- the demand, as `Interrupts` words it
  pub record AtEnd (e : ℕ) (s : State) : Type 0 where
    pub there : pc s ≡ e
    pub ready : busy s ≡ 0
    pub free : service s ≡ false

  abbrev pub Ended : (ℕ → Offer) → State → ℕ → ℕ → Type 0
  Ended v s n j = AtEnd (pc s + n) (after v s j)

  pub record Restored (v : ℕ → Offer) (s : State) (t r : ℕ) : Type 0 where
    pub same : kept (after v s r) ≡ kept (after v s t)
    pub lower : sp (after v s r) + 2 ≡ sp (after v s t)
    pub low : get_or (bytes (after v s r)) (sp (after v s t)) 0 ≡ get_or (bytes (after v s (suc t))) (sp (after v s t)) 0
    pub high : get_or (bytes (after v s r)) (sp (after v s t) - 1) 0 ≡ get_or (bytes (after v s (suc t))) (sp (after v s t) - 1) 0

  pub record Handled (v : ℕ → Offer) (s : State) (t : ℕ) : Type 0 where
    pub at : ℕ
    pub reti : FirstReti (returns_at v s) t at
    pub restored : Restored v s t at

  pub record Transparent (v : ℕ → Offer) (s : State) (n J I : ℕ) : Type 0 where
    pub first : First (Ended v s n) J
    pub plain_first : First (Ended quiet s n) I
    pub same_kept : kept (after v s J) ≡ kept (after quiet s I)
    pub same_sp : sp (after v s J) ≡ sp (after quiet s I)
    pub same_pc : pc (after v s J) ≡ pc (after quiet s I)
    pub ticks : J ≡ I + handler_ticks (enters_at v s) (returns_at v s) J
    pub counts : (t : ℕ) → t < J → (counted_at (enters_at v s) (returns_at v s) t ≡ 1) ↔ OfHandler (enters_at v s) (returns_at v s) t
    pub wrote : (t : ℕ) → t < J → ¬ (OfHandler (enters_at v s) (returns_at v s) t) → bytes (after v s (suc t)) ≡ bytes (after v s t)
    pub plain_wrote : (u : ℕ) → u ≤ I → bytes (after quiet s u) ≡ bytes s
    pub plain_goes : (u : ℕ) → u < I → Plain none (after quiet s u)
    pub plain_bound : I ≤ 2 * n

  -- ---- the laws, of a tick that takes s to a
  -- a busy tick only waits, and b waits are left
  pub record Waits (s a : State) (b : ℕ) : Type 0 where
    pub kept' : kept a ≡ kept s
    pub sp' : sp a ≡ sp s
    pub pc' : pc a ≡ pc s
    pub busy' : busy a ≡ b
    pub inhibit' : inhibit a ≡ inhibit s
    pub service' : service a ≡ service s
    pub bytes' : bytes a ≡ bytes s

  -- an instruction of the stretch: registers and SREG become k, b waits follow, and nothing else is touched but PC and inhibit
  pub record Runs (s a : State) (k : Kept) (b : ℕ) : Type 0 where
    pub kept' : kept a ≡ k
    pub sp' : sp a ≡ sp s
    pub pc' : pc a ≡ suc (pc s)
    pub busy' : busy a ≡ b
    pub service' : service a ≡ service s
    pub bytes' : bytes a ≡ bytes s

  -- an entry sets in-service, and stores the low byte of PC at SP and the high byte below
  pub record Enters (s a : State) : Type 0 where
    pub service' : service a ≡ true
    pub low : sp s < 65536 → get_or (bytes a) (sp s) 0 ≡ pc s % 256
    pub high : sp s < 65536 → get_or (bytes a) (sp s - 1) 0 ≡ pc s / 256

  -- a RETI goes back by those bytes, clears in-service and sets inhibit, and three waits follow
  pub record Returns (s a : State) : Type 0 where
    pub room : sp s < 65534
    pub kept' : kept a ≡ kept s
    pub sp' : sp a ≡ sp s + 2
    pub pc' : pc a ≡ get_or (bytes s) (sp s + 1) 0 * 256 + get_or (bytes s) (sp s + 2) 0
    pub busy' : busy a ≡ 3
    pub inhibit' : inhibit a ≡ true
    pub service' : service a ≡ false

  -- at an instruction of the stretch
  pub record InStretch (start finish : ℕ) (s : State) : Type 0 where
    pub above : start ≤ pc s
    pub below : pc s < finish
    pub ready : busy s ≡ 0
    pub free : service s ≡ false

  pub record Laws (start finish : ℕ) : Type 0 where
    -- what the instruction at a PC of the stretch does to registers and SREG under a rule, and the waits after it
    pub does : Rule → ℕ → Kept → Kept
    pub cost : Rule → ℕ → ℕ
    pub cheap : (c : Rule) (x : ℕ) → start ≤ x → x < finish → cost c x ≤ 1
    -- no tick changes the rule
    pub ruled : (o : Offer) (s : State) → rule (tick o s) ≡ rule s
    pub wait : (o : Offer) (s : State) (b : ℕ) → busy s ≡ suc b → b < 4 → (Plain o s) × (enters o s ≡ false) × Waits s (tick o s) b
    -- with no offer the stretch runs; with any, it does the same at a tick that does not enter
    pub calm : (s : State) → InStretch start finish s → (Plain none s) × (Allowed none s) × (enters none s ≡ false)
    pub run : (o : Offer) (s : State) → InStretch start finish s → Allowed o s → enters o s ≡ false → Runs s (tick o s) (does (rule s) (pc s) (kept s)) (cost (rule s) (pc s))
    pub enter : (o : Offer) (s : State) → enters o s ≡ true → Enters s (tick o s)
    -- nothing enters while inhibit is set, or in service
    pub inhibited : (o : Offer) (s : State) → inhibit s ≡ true → enters o s ≡ false
    pub serving : (o : Offer) (s : State) → service s ≡ true → enters o s ≡ false
    -- only RETI clears in-service
    pub serve : (o : Offer) (s : State) → service s ≡ true → returns o s ≡ false → service (tick o s) ≡ true
    pub reti : (o : Offer) (s : State) → returns o s ≡ true → Returns s (tick o s)

  -- ---- what the proof is given: a run, and what is assumed of it
  pub record Given : Type 0 where
    pub v : ℕ → Offer
    pub s : State
    pub n : ℕ
    pub laws : Laws (pc s) (pc s + n)
    pub allowed : (t : ℕ) → NotYet (Ended v s n) t → Allowed (v t) (after v s t)
    pub handled : (t : ℕ) → NotYet (Ended v s n) t → enters_at v s t ≡ true → Handled v s t
