-- The tick is its two operations in turn: both are one choice after another by the same tests.
-- Assumes nothing.
use mathlib.Core.Path.{◌≡◌, refl, ap, ◌∙◌}
use mathlib.Core.Bool.{Bool, true, false}
use mathlib.Core.List.{List}
use Prim.Native.Nat.{ℕ, ◌+◌, ◌-◌}
use lib.Dec.{eqb, ltb}
use Rattle.basis.specs.Pick.{pick}
use Rattle.instruction.specs.Decode.{decode_of}
use Rattle.instruction.specs.declared.Instruction.{Instruction}
use Rattle.cores.specs.declared.Core.{Core}
use Rattle.cores.specs.Flow.{op_at}
use Rattle.cores.specs.State.{out, Leaves, with_pc, with_busy, with_inhibit}
use Rattle.execute.specs.Needs.{Needs, refusal, push_needs, needs, fetched, with_fetch}
use Rattle.execute.specs.Execute.{behind, executed}
use Rattle.execute.proofs.Answers.{executed-done}
use Rattle.tick.specs.Offer.{Offer}
use Rattle.std.specs.Prelude.{Some, None}
use Rattle.tick.specs.declared.Answer.{Answer}
use Rattle.tick.specs.declared.Answer.TheVariants as answer
use Rattle.tick.specs.declared.Plan.{Plan}
use Rattle.tick.specs.declared.Plan.TheVariants.{Refuse, Wait, Enter, End, Execute}
use Rattle.tick.specs.Tick.{Tick, gives, decided, due, executed_tick, stepped, enters_or_steps, ticked, tick_of}
use Rattle.tick.specs.Plan.{granted, step_plan, entry_or_step, plan_of, answer_to, carried_out, TickIsTheTwoInTurn}

-- a choice and its image, by one test
by_test : {A B : Type 0} (f : A → B) (c : Bool) (x y : A) (u v : B) → (c ≡ true → f x ≡ u) → (c ≡ false → f y ≡ v) → f (pick c x y) ≡ pick c u v
by_test f true x y u v g h = g refl
by_test f false x y u v g h = h refl

module _ (k : Core) (p m : List ℕ) where
  -- what a plan gives: its answer, and what carrying it out leaves
  abbrev in_turn : Plan → Tick
  in_turn plan = gives (answer_to plan) (carried_out k plan p m).core (carried_out k plan p m).bytes

  granted_decided : (n : Needs) (plan : Plan) (t : Tick) → in_turn plan ≡ t → in_turn (granted (refusal n) plan) ≡ decided n k m t
  granted_decided n plan t e = by_test in_turn (eqb (refusal n) 0) plan (Refuse (refusal n)) t (gives (answer.Refused (refusal n)) k m) (λ _. e) (λ _. refl)

  executes : (i : Instruction) → in_turn (Execute i) ≡ executed_tick (executed decode_of (behind k) i p m)
  executes i = rw (executed-done decode_of (behind k) i p m)

  behind_is : eqb k.pc 65535 ≡ false → behind k ≡ with_pc (with_inhibit k false) (k.pc + 1)
  unfolding behind
  behind_is e = rw e

  steps : eqb k.pc 65535 ≡ false → in_turn (step_plan k p m) ≡ stepped decode_of k (with_inhibit k false) p m
  unfolding step_plan stepped with_inhibit
  steps e =
      let i = op_at decode_of p k.pc in
      let needed = with_fetch (fetched p k.pc i) (needs decode_of (behind k) i p m) in
      rw (← behind_is e) (granted_decided needed (Execute i) (executed_tick (executed decode_of (behind k) i p m)) (executes i))

  enters_or_steps_lem : (o : Offer) → in_turn (entry_or_step k p m o) ≡ enters_or_steps decode_of k p m o
  unfolding entry_or_step enters_or_steps
  enters_or_steps_lem (Some v) = granted_decided (push_needs k m) (Enter v) (in_turn (Enter v)) refl
  enters_or_steps_lem None =
      let next = with_inhibit k false in
      by_test in_turn (eqb k.pc 65535) End (step_plan k p m) (gives answer.End next m) (stepped decode_of k next p m) (λ _. refl) steps

  in_turn_lem : (o : Offer) → in_turn (plan_of k p m o) ≡ tick_of k p m o
  unfolding plan_of ticked
  in_turn_lem o =
      let waited = gives answer.Waited (with_busy k (k.busy - 1)) m in
      let plan = entry_or_step k p m (due k o) in
      let rest = enters_or_steps decode_of k p m (due k o) in
      by_test in_turn (ltb 4 k.busy) (Refuse 5) (pick (ltb 0 k.busy) Wait plan) (gives (answer.Refused 5) k m) (pick (ltb 0 k.busy) waited rest) (λ _. refl)
      λ _. by_test in_turn (ltb 0 k.busy) Wait plan waited rest (λ _. refl) λ _. enters_or_steps_lem (due k o)

pub foretold : TickIsTheTwoInTurn
foretold k p m o =
    let e = in_turn_lem k p m o in
    record { answer = ap (λ t. t.answer) e; core = ap (λ t. t.core) e; bytes = ap (λ t. t.bytes) e }

-- what is made of a decided plan is the tick's
module _ (k : Core) (p m : List ℕ) (o : Offer) {plan : Plan} (e : plan ≡ plan_of k p m o) where
  pub answered : {a : Answer} → a ≡ answer_to plan → a ≡ (tick_of k p m o).answer
  answered h = h ∙ ap answer_to e ∙ (foretold k p m o).answer

  pub left : {j : Core} {n : List ℕ} → Leaves (carried_out k plan p m) j n → Leaves (out (tick_of k p m o).core (tick_of k p m o).bytes) j n
  left h =
      let f = foretold k p m o in
      record { core = h.core ∙ ap (λ x. (carried_out k x p m).core) e ∙ f.core; bytes = h.bytes ∙ ap (λ x. (carried_out k x p m).bytes) e ∙ f.bytes }
