-- What every tick keeps. The program is only read: `tick_of` takes it and gives none back.
use Rattle.std.specs.Prelude.{◌≡◌, ◌⊎◌, List, ℕ, ◌≤◌, ◌<◌, Some, None}
use Rattle.basis.specs.Bytes.{Bytes}
use Rattle.cores.specs.declared.Core.{Core}
use Rattle.cores.specs.State.{Sound}
use Rattle.tick.specs.Offer.{Offer}
use Rattle.tick.specs.declared.Answer.TheVariants.{Refused}
use Rattle.tick.specs.Tick.{Tick, tick_of, number_of}
use Rattle.invariants.specs.Instructions.{InRange}

-- "An offer is a vector 0 to 65,535, or none."
abbrev pub Offered : Offer → Type 0
Offered (Some v) = v < 65536
Offered None = Unit {0}

-- the numbers that a tick can answer with: refusals 1 to 5, and waited to end
abbrev pub TickNumber : ℕ → Type 0
TickNumber n = ((1 ≤ n) × (n ≤ 5)) ⊎ ((16 ≤ n) × (n ≤ 23))

-- from a core and bytes by their types, core and data after a tick are so too, and data has its length
abbrev pub TicksStayInRange : Type 0
TicksStayInRange =
    (k : Core) (p m : List ℕ) (o : Offer) → Sound k → Bytes p → Bytes m → Offered o → InRange (tick_of k p m o).core (tick_of k p m o).bytes m

-- "A refused call changes no core, no byte of data": of any core whatever
abbrev pub RefusedTicksChangeNothing : Type 0
RefusedTicksChangeNothing =
    (k : Core) (p m : List ℕ) (o : Offer) (n : ℕ) → (tick_of k p m o).answer ≡ Refused n → ((tick_of k p m o).core ≡ k) × ((tick_of k p m o).bytes ≡ m)

-- of any core whatever
abbrev pub TicksAnswerTickNumbers : Type 0
TicksAnswerTickNumbers = (k : Core) (p m : List ℕ) (o : Offer) → TickNumber (number_of (tick_of k p m o).answer)

-- a tick from core k that is not refused leaves a busy of at most 4, whatever k's was; and so does any tick from a busy of at most 4
abbrev pub Brief : Core → Tick → Type 0
Brief k t = (16 ≤ number_of t.answer) ⊎ (k.busy ≤ 4) → t.core.busy ≤ 4

abbrev pub TicksLeaveBusyAtMost4 : Type 0
TicksLeaveBusyAtMost4 = (k : Core) (p m : List ℕ) (o : Offer) → Brief k (tick_of k p m o)
