-- Demand 2, the Rust. The Rust's tick (specs/Tick.antt) returns a bool, or it panics.
-- 02, W2: "From here on demand 2 means the Rust under source": of cores with rule source.
-- Where it returns, 01's tick is not refused, leaves the same core (registers, SREG, PC, SP, busy, inhibit and in-service) and the same data, and answers break
-- or end exactly where the bool is false. Where it panics, 01's tick is refused with one of 1 to 4.
-- So over all cores by their types with rule source and busy at most 4, all programs, data and offers, a tick is refused exactly where a debug build panics.
-- With busy above 4 the Rust would wait on and 01 refuses with 5: `Sound` has busy at most 4.
-- Of the answer two things are compared, since the Rust has no more: refused or not, and stops or not. Which number it is of 1 to 4, and which of waited,
-- entered, ran, sleep, watchdog, undefined, break and end, is 01's table's (crates/table/specs/Table.antt).
-- k and j are cores, p is a program, m the bytes of data, o an offer, t 01's tick; the Rust returns b and leaves u; back is what the code hands back, and
-- left the bytes that it leaves in data.
use Rattle.std.specs.Prelude.{◌≡◌, Bool, true, false, not, List, ℕ, ◌≤◌}
use Rattle.basis.specs.Bytes.{Bytes}
use Rattle.cores.specs.declared.Core.{Core}
use Rattle.cores.specs.State.{Sound}
use Rattle.tick.specs.Offer.{Offer}
use Rattle.tick.specs.declared.Answer.{Answer}
use Rattle.tick.specs.declared.Ticked.{Ticked}
use Rattle.tick.specs.Tick.{Tick, gives, number_of, refuses, stops, tick_of, Ticks, in_place}
use Rattle.source.specs.Monad.{Self, Outcome, panic, ok}
use Rattle.source.specs.Tick.{tick}

-- the Rust returned b and left u
pub record Agrees (t : Tick) (b : Bool) (u : Self) : Type 0 where
  pub not_refused : refuses t.answer ≡ false
  pub bool : b ≡ not (stops t.answer)
  pub core : t.core ≡ u.core
  pub bytes : t.bytes ≡ u.ds

-- the Rust panicked
pub record Refuses (t : Tick) : Type 0 where
  pub refused : refuses t.answer ≡ true
  pub from_1 : 1 ≤ number_of t.answer
  pub to_4 : number_of t.answer ≤ 4

abbrev pub Matches : Tick → Outcome Bool → Type 0
Matches t panic = Refuses t
Matches t (ok b u) = Agrees t b u

-- the Rust's `self` with core k, program p, data m and what is offered
abbrev pub self_of : Core → List ℕ → List ℕ → Offer → Self
self_of k p m o = record { core = k; ds = m; progmem = p; pending = o }

-- ---- the theorem, proved in proofs/Source.antt
abbrev pub EqualsTheRust : Type 0
EqualsTheRust = (k : Core) (p m : List ℕ) (o : Offer) → k.chip ≡ false → Sound k → Bytes p → Bytes m → Matches (tick_of k p m o) (tick (self_of k p m o))

-- and in one line: "refused exactly where it panics"
abbrev pub panics : Outcome Bool → Bool
panics panic = true
panics (ok b u) = false

abbrev pub RefusedExactlyWhereItPanics : Type 0
RefusedExactlyWhereItPanics = (k : Core) (p m : List ℕ) (o : Offer) → k.chip ≡ false → Sound k → Bytes p → Bytes m → refuses (tick_of k p m o).answer ≡ panics (tick (self_of k p m o))

-- ---- of the code that runs: whatever meets the contract of `tick`, or of `tick_in_place` (an answer handed back, core j left behind the reference), is the
-- Rust's tick
abbrev pub CodeEqualsTheRust : Type 0
CodeEqualsTheRust =
    (k : Core) (p m : List ℕ) (o : Offer) (back : Ticked) (left : List ℕ) → k.chip ≡ false → Sound k → Bytes p → Bytes m →
    Ticks (tick_of k p m o) back left → Matches (gives back.answer back.core left) (tick (self_of k p m o))

abbrev pub InPlaceEqualsTheRust : Type 0
InPlaceEqualsTheRust =
    (k : Core) (p m : List ℕ) (o : Offer) (answer : Answer) (j : Core) (left : List ℕ) → k.chip ≡ false → Sound k → Bytes p → Bytes m →
    Ticks (tick_of k p m o) (in_place answer j) left → Matches (gives answer j left) (tick (self_of k p m o))
