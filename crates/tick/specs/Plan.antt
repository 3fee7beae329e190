-- 02, W7: "Make two operations: one tells the answer that the tick would give, reading core, program, data and offer and writing nothing; the other carries it out."
-- k is a core, p a program, m the bytes of data, o an offer, v a vector, n a number of the table, i an instruction.
use Rattle.std.specs.Prelude.{◌≡◌, false, List, ℕ, ◌-◌, eqb, ltb, Some, None, Result, Ok, Err}
use Rattle.basis.specs.Pick.{pick}
use Rattle.instruction.specs.Decode.{decode_of}
use Rattle.cores.specs.declared.Core.{Core}
use Rattle.cores.specs.State.{Out, out, with_busy, with_inhibit}
use Rattle.cores.specs.Flow.{op_at}
use Rattle.execute.specs.Needs.{lack_number, refusal, push_needs, needs, fetched, with_fetch}
use Rattle.execute.specs.Execute.{behind, executed, effect_of, done_of}
use Rattle.execute.specs.declared.lack.Lack.{Lack}
use Rattle.tick.specs.Offer.{Offer}
use Rattle.tick.specs.declared.Answer.{Answer}
use Rattle.tick.specs.declared.Answer.TheVariants as answer
use Rattle.tick.specs.declared.Plan.{Plan}
use Rattle.tick.specs.declared.Plan.TheVariants.{Refuse, Wait, Enter, End, Execute}
use Rattle.tick.specs.Tick.{answer_of, due, entry, tick_of}

-- ---- the first operation
-- what is to be done where nothing is lacking, n being 0; else n, the refusal
abbrev pub granted : ℕ → Plan → Plan
granted n plan = pick (eqb n 0) plan (Refuse n)

-- a plan, or what is lacking, by its number
abbrev pub said_plan : Result Plan Lack → Plan
said_plan (Ok plan) = plan
said_plan (Err l) = Refuse (lack_number l)

-- step 5: "Fetch, decode"
unfoldable pub step_plan : Core → List ℕ → List ℕ → Plan
step_plan k p m =
    let i = op_at decode_of p k.pc in
    granted (refusal (with_fetch (fetched p k.pc i) (needs decode_of (behind k) i p m))) (Execute i)

-- steps 3 to 5, by the vector that is due. "4. PC 65,535: answer end."
unfoldable pub entry_or_step : Core → List ℕ → List ℕ → Offer → Plan
entry_or_step k p m (Some v) = granted (refusal (push_needs k m)) (Enter v)
entry_or_step k p m None = pick (eqb k.pc 65535) End (step_plan k p m)

-- "1. Busy above 4: refusal 5. 2. Busy above 0: it falls by one; answer waited. The offer isn't looked at."
unfoldable pub plan_of : Core → List ℕ → List ℕ → Offer → Plan
plan_of k p m o = pick (ltb 4 k.busy) (Refuse 5) (pick (ltb 0 k.busy) Wait (entry_or_step k p m (due k o)))

-- the answer to a plan
abbrev pub answer_to : Plan → Answer
answer_to (Refuse n) = answer.Refused n
answer_to Wait = answer.Waited
answer_to (Enter v) = answer.Entered
answer_to End = answer.End
answer_to (Execute i) = answer_of (done_of i)

-- ---- the second operation, of any core and any plan: what is asked for is done, whatever the first would have said
abbrev pub carried_out : Core → Plan → List ℕ → List ℕ → Out
-- "A refused call changes no core, no byte of data"
carried_out k (Refuse n) p m = out k m
-- "it falls by one", and from 0 it stays 0
carried_out k Wait p m = out (with_busy k (k.busy - 1)) m
-- step 3: "entry"
carried_out k (Enter v) p m = entry k v m
-- "Only inhibit may have changed."
carried_out k End p m = out (with_inhibit k false) m
-- step 5: "add 1 to PC, execute"
carried_out k (Execute i) p m = effect_of (executed decode_of (behind k) i p m)

-- ---- the theorem, proved in proofs/Foretold.antt: "The foretold answer, refusals included, is always the one then given", and carrying out gives the tick's core and data
pub record Foretold (k : Core) (p m : List ℕ) (o : Offer) : Type 0 where
  pub answer : answer_to (plan_of k p m o) ≡ (tick_of k p m o).answer
  pub core : (carried_out k (plan_of k p m o) p m).core ≡ (tick_of k p m o).core
  pub bytes : (carried_out k (plan_of k p m o) p m).bytes ≡ (tick_of k p m o).bytes

abbrev pub TickIsTheTwoInTurn : Type 0
TickIsTheTwoInTurn = (k : Core) (p m : List ℕ) (o : Offer) → Foretold k p m o
