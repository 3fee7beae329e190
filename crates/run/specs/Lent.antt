-- A stretch of a run over lent registers. b is a budget, at a tick counted from the start of the run, k a core, which waits no longer but where its busy is said, p a program, m the bytes of data,
-- o an offer; rs are the bytes of lent registers, g is what the code hands back.
use Rattle.std.specs.Prelude.{◌≡◌, ℕ, ◌+◌, ◌-◌, ◌<◌, ◌≤◌, Bool, ◌⊎◌, List, nat_lt, is_some}
use Rattle.basis.specs.Pick.{pick}
use Rattle.cores.specs.declared.Core.{Core}
use Rattle.cores.specs.State.{with_busy}
use Rattle.tick.specs.Tick.{gives, tick_of}
use Rattle.tick.specs.Offer.{Offer}
use Rattle.tick.specs.declared.Answer.TheVariants.{Ran}
use Rattle.effects.specs.Parts.{stood, cored}
use Rattle.run.specs.Run.{Run, after, run_of}
use Rattle.run.specs.declared.go.Gone.{Gone}

abbrev pub offers : Offer → Bool
offers o = is_some o

-- what a run of b ticks gives, where k waits no longer at the tick `at`; where the budget ends before, k still waits
abbrev pub rest_of : ℕ → ℕ → Core → List ℕ → List ℕ → Offer → Run
rest_of b at k p m o = pick (nat_lt at b) (after at (run_of (b - at) k p m o)) (record { answer = 24; count = b; core = with_busy k (at - b); bytes = m })

-- ---- the theorems, proved in proofs/Waits.antt and proofs/Onward.antt
-- waits at once are that many ticks of a run, counted
abbrev pub WaitsAtOnce : Type 0
WaitsAtOnce =
    (n b done : ℕ) (k : Core) (p m : List ℕ) (o : Offer) → k.busy ≡ n → n ≤ 4 → done ≤ b
    → after done (run_of (b - done) k p m o) ≡ rest_of b (done + n) (with_busy k 0) p m o

-- behind a tick that ran from k to k', and its waits, what remains is the rest of the same run
abbrev pub RanGoesOn : Type 0
RanGoesOn =
    (b at : ℕ) (k k' : Core) (p m m' : List ℕ) (o : Offer) → at < b → tick_of k p m o ≡ gives Ran k' m' → k'.busy ≤ 4
    → rest_of b at k p m o ≡ rest_of b (at + k'.busy + 1) (with_busy k' 0) p m' o

-- ---- the loop
-- the core that a stretch left, when its waits are over
abbrev pub went_to : List ℕ → Gone → Bool → Core
went_to rs g chip = cored rs (stood g.pc g.sp g.sreg 0 g.inhibit g.in_service) chip

-- the rest of the run from where a stretch ended is the rest from where it began
pub record Goes (k : Core) (at : ℕ) (p m : List ℕ) (offered chip : Bool) (b : ℕ) (g : Gone) (rs' m' : List ℕ) : Type 0 where
  pub onward : at ≤ g.at
  pub bounded : at ≤ b + 4 → g.at ≤ b + 4
  pub rest : (o : Offer) → offers o ≡ offered → rest_of b at k p m o ≡ rest_of b g.at (went_to rs' g chip) p m' o
  pub first : (o : Offer) → offers o ≡ offered → ((g.at ≡ at) × ((went_to rs' g chip ≡ k) × (m' ≡ m))) ⊎ ((at < g.at) × ((tick_of k p m o).answer ≡ Ran))
