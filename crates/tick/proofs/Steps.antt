-- The tick by its branches, with any decoder: what holds of each, where its tests are so, holds of every tick.
-- Assumes nothing.
use mathlib.Core.Path.{◌≡◌, refl, sym, ◌∙◌}
use mathlib.Core.Bool.{true, false}
use mathlib.Core.List.{List}
use Prim.Native.Nat.{ℕ, suc, ◌+◌, ◌-◌, ◌≤◌, ◌<◌}
use native.Mathlib.Omega.{arith}
use borrow.Author.Tests.{lt-ltb, le-ltb, ltb-true, ltb-false, eqb-true, eqb-false}
use lib.Dec.{eqb, ltb}
use Rattle.basis.proofs.Choice.{clash, cases, either}
use Rattle.instruction.specs.Decode.{decode_of}
use Rattle.instruction.specs.declared.Instruction.{Instruction}
use Rattle.cores.specs.Flow.{op_at}
use Rattle.cores.specs.declared.Core.{Core}
use Rattle.cores.specs.State.{flag, with_pc, with_busy, with_inhibit}
use Rattle.execute.specs.declared.Done.{Done}
use Rattle.execute.specs.declared.Done.TheVariants as done
use Rattle.execute.specs.Needs.{Needs, refusal, push_needs, needs, fetched, with_fetch}
use Rattle.execute.specs.Execute.{Executed, executed}
use Rattle.tick.specs.Tick.{Tick, refuses, answer_of, gives, decided, due, entry, executed_tick, stepped, enters_or_steps, ticked, tick_of}
use Rattle.tick.specs.Offer.{Offer}
use Rattle.std.specs.Prelude.{Some, None}
use Rattle.tick.specs.declared.Answer.TheVariants.{Refused, Waited, Entered, End}

-- ---- a step that is refused, by one of 1 to 4, or done
pub refusal_le : (n : Needs) → refusal n ≤ 4
refusal_le n =
    let P : ℕ → Type 0 = λ x. x ≤ 4 in
    let to_2 = either P n.room _ 2 (either P n.stack _ 3 (either P n.bytes 0 4 (omega arith) (omega arith)) (omega arith)) (omega arith) in
    either P n.program _ 1 to_2 (omega arith)

module _ (P : Tick → Type 0) (n : Needs) (k : Core) (m : List ℕ) (t : Tick) where
  pub every_decided : ((r : ℕ) → 1 ≤ r → r ≤ 4 → P (gives (Refused r) k m)) → (refusal n ≡ 0 → P t) → P (decided n k m t)
  every_decided refuse go =
      cases P (eqb (refusal n) 0) t (gives (Refused (refusal n)) k m) (λ e. go (eqb-true (refusal n) 0 e))
      λ e. let z = eqb-false (refusal n) 0 e in refuse (refusal n) (omega arith) (refusal_le n)

-- an executed instruction is not refused
pub done_refuses_not : (d : Done) → refuses (answer_of d) ≡ false
done_refuses_not done.Ran = refl
done_refuses_not done.Sleep = refl
done_refuses_not done.Watchdog = refl
done_refuses_not done.Undefined = refl
done_refuses_not done.Break = refl

-- ---- what is due: the offer, or nothing where inhibit or in-service is set
pub every_due : (P : Offer → Type 0) (k : Core) (o : Offer) → P None → (k.inhibit ≡ false → k.in_service ≡ false → P o) → P (due k o)
every_due P k o none some =
    cases P k.inhibit _ _ (λ i. none)
    λ i. cases P (flag k 7) _ _ (λ f. cases P k.in_service _ _ (λ s. none) (some i)) (λ f. none)

-- ---- a tick that waits, and one that does not
pub busy_tick : (k : Core) (p m : List ℕ) (o : Offer) (b : ℕ) → k.busy ≡ suc b → b < 4 → tick_of k p m o ≡ gives Waited (with_busy k b) m
unfolding ticked
busy_tick k p m o b h small =
    let z : suc b - 1 ≡ b = omega arith in
    rw (h, le-ltb 4 (suc b) (omega arith), lt-ltb 0 (suc b) (omega arith), z)

pub free_tick : (k : Core) (p m : List ℕ) (o : Offer) → k.busy ≡ 0 → tick_of k p m o ≡ enters_or_steps decode_of k p m (due k o)
unfolding ticked
free_tick k p m o h = rw h

-- ---- the core that an instruction is executed on
abbrev pub onward : Core → Core
onward k = with_pc (with_inhibit k false) (k.pc + 1)

module _ (decode : ℕ → ℕ → Instruction) where
  -- what the step of the instruction at PC needs, and what it gives
  abbrev pub step_needs : Core → List ℕ → List ℕ → Needs
  step_needs k p m = let op = op_at decode p k.pc in with_fetch (fetched p k.pc op) (needs decode (onward k) op p m)

  abbrev pub performed : Core → List ℕ → List ℕ → Executed
  performed k p m = executed decode (onward k) (op_at decode p k.pc) p m

  module _ (P : Tick → Type 0) (k : Core) (p m : List ℕ) (o : Offer) where
    pub every_tick :
        ((n : ℕ) → 1 ≤ n → n ≤ 5 → P (gives (Refused n) k m))
        → (0 < k.busy → k.busy ≤ 4 → P (gives Waited (with_busy k (k.busy - 1)) m))
        → (k.busy ≡ 0 → (v : ℕ) → due k o ≡ Some v → refusal (push_needs k m) ≡ 0 → P (gives Entered (entry k v m).core (entry k v m).bytes))
        → (k.busy ≡ 0 → due k o ≡ None → k.pc ≡ 65535 → P (gives End (with_inhibit k false) m))
        → (k.busy ≡ 0 → due k o ≡ None → (k.pc ≡ 65535 → ⊥) → refusal (step_needs k p m) ≡ 0 → P (executed_tick (performed k p m)))
        → P (ticked decode k p m o)
    unfolding ticked enters_or_steps stepped with_inhibit
    every_tick refuse wait enter end step =
        cases P (ltb 4 k.busy) _ _ (λ b. refuse 5 (omega arith) (omega arith))
        λ b. cases P (ltb 0 k.busy) _ _ (λ c. wait (ltb-true 0 k.busy c) (ltb-false 4 k.busy b))
        λ c. offered (omega (arith, ltb-false 0 k.busy c)) (due k o) refl
      where
        low : (r : ℕ) → 1 ≤ r → r ≤ 4 → P (gives (Refused r) k m)
        low r g h = refuse r g (omega arith)

        offered : k.busy ≡ 0 → (d : Offer) → due k o ≡ d → P (enters_or_steps decode k p m d)
        offered b (Some v) e = every_decided P (push_needs k m) k m (gives Entered (entry k v m).core (entry k v m).bytes) low (enter b v e)
        offered b None e =
            cases P (eqb k.pc 65535) (gives End (with_inhibit k false) m) _ (λ z. end b e (eqb-true k.pc 65535 z))
            λ z. every_decided P (step_needs k p m) k m (executed_tick (performed k p m)) low (step b e (eqb-false k.pc 65535 z))

-- a refused tick changes nothing
pub refused_keeps : (k : Core) (p m : List ℕ) (o : Offer) → refuses (tick_of k p m o).answer ≡ true → ((tick_of k p m o).core ≡ k) × ((tick_of k p m o).bytes ≡ m)
refused_keeps k p m o =
    every_tick decode_of (λ t. refuses t.answer ≡ true → (t.core ≡ k) × (t.bytes ≡ m)) k p m o
    (λ n g l e. (refl, refl))
    (λ g l e. clash (sym e))
    (λ z v d l e. clash (sym e))
    (λ z d l e. clash (sym e))
    λ z d l r e. clash (sym e ∙ done_refuses_not (performed decode_of k p m).done)
