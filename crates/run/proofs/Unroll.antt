-- One tick of a run that has done n of its b ticks.
-- Assumes nothing.
use Rattle.std.proofs.Common.{◌≡◌, ℕ, suc, ◌+◌, ◌-◌, ◌<◌, ◌≤◌, Bool, true, false, List, refl, add-zero, add_assoc, zero-add, arith}
use native.Mathlib.Nat.{sub-zero}
use Rattle.cores.specs.declared.Core.{Core}
use Rattle.tick.specs.Tick.{Tick, refuses, stops, tick_of}
use Rattle.tick.specs.Offer.{Offer}
use Rattle.run.specs.Run.{Run, ended, after, ran, run_of}

-- what a tick makes of the rest of its run
abbrev pub step : Bool → Bool → Tick → Run → Run
step r s t x = elim r [ true ↦ ended 0 t | false ↦ elim s [ true ↦ ended 1 t | false ↦ after 1 x ] ]

pub once : (b : ℕ) (k : Core) (p m : List ℕ) (o : Offer)
    → run_of (suc b) k p m o ≡ (let t = tick_of k p m o in step (refuses t.answer) (stops t.answer) t (run_of b t.core p t.bytes o))
unfolding ran
once b k p m o = refl

less_one : (b n : ℕ) → n < b → b - n ≡ suc (b - (n + 1))
less_one b n h = omega arith

-- the count of a run that is not begun
pub begun : (b : ℕ) (k : Core) (p m : List ℕ) (o : Offer) → run_of b k p m o ≡ after 0 (run_of (b - 0) k p m o)
begun b k p m o = rw (sub-zero, zero-add)

module _ (b n : ℕ) (k : Core) (p m : List ℕ) (o : Offer) where
  pub unroll_spent : b ≤ n → after n (run_of (b - n) k p m o) ≡ record { answer = 24; count = n; core = k; bytes = m }
  unfolding ran
  unroll_spent h = let z : b - n ≡ 0 = omega arith in rw (z, add-zero)

  module _ (h : n < b) where
    pub unroll_refused : refuses (tick_of k p m o).answer ≡ true → after n (run_of (b - n) k p m o) ≡ ended n (tick_of k p m o)
    unroll_refused e = rw (less_one b n h, once (b - (n + 1)) k p m o, e, add-zero)

    pub unroll_stopped : refuses (tick_of k p m o).answer ≡ false → stops (tick_of k p m o).answer ≡ true → after n (run_of (b - n) k p m o) ≡ ended (n + 1) (tick_of k p m o)
    unroll_stopped e f = rw (less_one b n h, once (b - (n + 1)) k p m o, e, f)

    pub unroll_on : refuses (tick_of k p m o).answer ≡ false → stops (tick_of k p m o).answer ≡ false
        → after n (run_of (b - n) k p m o) ≡ after (n + 1) (run_of (b - (n + 1)) (tick_of k p m o).core p (tick_of k p m o).bytes o)
    unroll_on e f = rw (less_one b n h, once (b - (n + 1)) k p m o, e, f, add_assoc)
