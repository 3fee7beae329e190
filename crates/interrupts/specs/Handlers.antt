-- Which ticks of a run are a handler's. 01: "A handler's ticks run from its entry tick to the third wait after its RETI."
-- A run is seen here by two facts of each tick, by its number: that it enters, and that it executes RETI.
use Rattle.std.specs.Prelude.{◌≡◌, Bool, true, false, ℕ, zero, suc, ◌+◌, ◌≤◌, ◌<◌}

-- the state before tick j, so after j ticks: s is the one before tick 0, and tick t makes the next by `step t`
unfoldable pub iterated : {A : Type 0} → (ℕ → A → A) → A → ℕ → A
iterated step s zero = s
iterated step s (suc j) = step j (iterated step s j)

-- j is the first number that P holds of
pub record First (P : ℕ → Type 0) (j : ℕ) : Type 0 where
  pub reached : P j
  pub not_before : (u : ℕ) → u < j → ¬ (P u)

-- P holds of no number up to t
abbrev pub NotYet : (ℕ → Type 0) → ℕ → Type 0
NotYet P t = (u : ℕ) → u ≤ t → ¬ (P u)

-- tick r is the first after tick t that executes RETI
pub record FirstReti (returns : ℕ → Bool) (t r : ℕ) : Type 0 where
  pub later : t < r
  pub here : returns r ≡ true
  pub not_between : (u : ℕ) → t < u → u < r → returns u ≡ false

-- tick t is a handler's: "from its entry tick to the third wait after its RETI", which is at the third tick after it
pub record OfHandler (enters returns : ℕ → Bool) (t : ℕ) : Type 0 where
  pub entry : ℕ
  pub reti : ℕ
  pub entered : enters entry ≡ true
  pub first : FirstReti returns entry reti
  pub from : entry ≤ t
  pub to : t ≤ reti + 3

-- ---- the same ticks, counted by walking the run
-- where a tick stands: in the stretch, in a handler, or with so many waits left after its RETI
pub data Place : Type 0 where
  stretch : Place
  handler : Place
  waits3 : Place
  waits2 : Place
  waits1 : Place

-- the place after a tick, from whether it enters and whether it executes RETI
unfoldable pub walk : Place → Bool → Bool → Place
walk stretch true r = handler
walk stretch false r = stretch
walk handler e true = waits3
walk handler e false = handler
walk waits3 e r = waits2
walk waits2 e r = waits1
walk waits1 e r = stretch

-- 1 for a handler's tick, else 0, from its place and whether it enters
unfoldable pub counted : Place → Bool → ℕ
counted stretch true = 1
counted stretch false = 0
counted handler e = 1
counted waits3 e = 1
counted waits2 e = 1
counted waits1 e = 1

module _ (enters returns : ℕ → Bool) where
  -- the place of tick j
  unfoldable pub place_at : ℕ → Place
  place_at zero = stretch
  place_at (suc j) = walk (place_at j) (enters j) (returns j)

  abbrev pub counted_at : ℕ → ℕ
  counted_at t = counted (place_at t) (enters t)

  -- how many of the first j ticks are handlers'
  unfoldable pub handler_ticks : ℕ → ℕ
  handler_ticks zero = 0
  handler_ticks (suc j) = handler_ticks j + counted_at j
