-- A core that waits: the ticks of its busy count are waits, and nothing else changes in them.
-- Assumes nothing.
use Rattle.std.proofs.Common.{◌≡◌, ℕ, zero, suc, ◌+◌, ◌-◌, ◌<◌, ◌≤◌, ltb, List, refl, ap, ◌∙◌, add-zero, arith, ltb-false, ltb-true, le-ltb}
use Rattle.basis.proofs.Choice.{test}
use Rattle.cores.specs.declared.Core.{Core}
use Rattle.cores.specs.State.{with_busy}
use Rattle.tick.specs.Tick.{refuses, stops}
use Rattle.tick.specs.Offer.{Offer}
use Rattle.tick.proofs.Steps.{busy_tick}
use Rattle.run.specs.Run.{after, run_of}
use Rattle.run.specs.Lent.{rest_of, WaitsAtOnce}
use Rattle.run.proofs.Unroll.{unroll_spent, unroll_on}

-- busy made so twice is busy made so once, and busy made what it was is the core
busy_again : (k : Core) (x y : ℕ) → with_busy (with_busy k x) y ≡ with_busy k y
unfolding with_busy
busy_again k x y = refl

pub busy_kept : (k : Core) (n : ℕ) → k.busy ≡ n → with_busy k n ≡ k
unfolding with_busy
busy_kept k n e = rw (← e)

now_busy : (k : Core) (n : ℕ) → (with_busy k n).busy ≡ n
unfolding with_busy
now_busy k n = refl

module _ (p m : List ℕ) (o : Offer) where
  -- the budget is spent: the core still waits
  waits_on : (n b done : ℕ) (k : Core) → k.busy ≡ n → b ≤ done → done ≤ b → after done (run_of (b - done) k p m o) ≡ rest_of b (done + n) (with_busy k 0) p m o
  waits_on n b done k e h l =
      let all : done ≡ b = omega arith in
      let more : done + n - b ≡ n = omega arith in
      unroll_spent b done k p m o h
      ∙ rw (le-ltb (done + n) b (omega arith), more, busy_again k 0 n, busy_kept k n e, all)

  -- one wait, and the rest
  waits_one : (n b done : ℕ) (k : Core) → k.busy ≡ suc n → suc n ≤ 4 → done < b
      → after done (run_of (b - done) k p m o) ≡ after (done + 1) (run_of (b - (done + 1)) (with_busy k n) p m o)
  waits_one n b done k e l h =
      let t = busy_tick k p m o n e (omega arith) in
      unroll_on b done k p m o h (ap (λ x. refuses x.answer) t) (ap (λ x. stops x.answer) t) ∙ rw t

  waits : (n b done : ℕ) (k : Core) → k.busy ≡ n → n ≤ 4 → done ≤ b → after done (run_of (b - done) k p m o) ≡ rest_of b (done + n) (with_busy k 0) p m o
  waits zero b done k e l d =
      test (ltb done b)
      (λ h. rw (add-zero, h, busy_kept k 0 e))
      (λ h. waits_on 0 b done k e (ltb-false done b h) d)
  waits (suc n) b done k e l d =
      test (ltb done b)
      (λ h. let more : done + 1 + n ≡ done + suc n = omega arith in
      let begun : done < b = ltb-true done b h in
      waits_one n b done k e l begun
      ∙ waits n b (done + 1) (with_busy k n) (now_busy k n) (omega arith) (omega arith)
      ∙ rw (more, busy_again k n 0))
      (λ h. waits_on (suc n) b done k e (ltb-false done b h) d)

pub waits_out : WaitsAtOnce
waits_out n b done k p m o e l d = waits p m o n b done k e l d
