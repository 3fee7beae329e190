-- 01, 'One tick, in this order'. k is a core, p a program, m the bytes of data, o an offer, v a vector, a an answer, n a number of the table, t what a tick gives.
use Rattle.std.specs.Prelude.{◌≡◌, Bool, true, false, List, ℕ, ◌+◌, ◌-◌, eqb, ltb, Some, None}
use Rattle.basis.specs.Pick.{pick}
use Rattle.instruction.specs.Decode.{decode_of}
use Rattle.instruction.specs.declared.Instruction.{Instruction}
use Rattle.cores.specs.declared.Core.{Core}
use Rattle.cores.specs.State.{Out, out, with_pc, with_busy, with_inhibit, with_service, flag}
use Rattle.cores.specs.Flow.{word_pushed, op_at}
use Rattle.execute.specs.Needs.{Needs, refusal, push_needs, needs, fetched, with_fetch}
use Rattle.execute.specs.Execute.{Executed, executed}
use Rattle.execute.specs.declared.Done.{Done}
use Rattle.execute.specs.declared.Done.TheVariants as done
use Rattle.tick.specs.Offer.{Offer}
use Rattle.tick.specs.declared.Answer.{Answer}
use Rattle.tick.specs.declared.Answer.TheVariants.{Refused, Waited, Entered, Ran, Sleep, Watchdog, Undefined, Break, End}
use Rattle.tick.specs.declared.Ticked.{Ticked}

-- ---- the answers
-- the table's number of each
abbrev pub number_of : Answer → ℕ
number_of (Refused n) = n
number_of Waited = 16
number_of Entered = 17
number_of Ran = 18
number_of Sleep = 19
number_of Watchdog = 20
number_of Undefined = 21
number_of Break = 22
number_of End = 23

abbrev pub refuses : Answer → Bool
refuses (Refused n) = true
refuses Waited = false
refuses Entered = false
refuses Ran = false
refuses Sleep = false
refuses Watchdog = false
refuses Undefined = false
refuses Break = false
refuses End = false

-- "22 23 break, end: the Rust's `false`"
abbrev pub stops : Answer → Bool
stops (Refused n) = false
stops Waited = false
stops Entered = false
stops Ran = false
stops Sleep = false
stops Watchdog = false
stops Undefined = false
stops Break = true
stops End = true

abbrev pub answer_of : Done → Answer
answer_of done.Ran = Ran
answer_of done.Sleep = Sleep
answer_of done.Watchdog = Watchdog
answer_of done.Undefined = Undefined
answer_of done.Break = Break

-- what a tick gives: an answer, a core and the bytes of data
pub record Tick : Type 0 where
  pub answer : Answer
  pub core : Core
  pub bytes : List ℕ

abbrev pub gives : Answer → Core → List ℕ → Tick
gives a k m = record { answer = a; core = k; bytes = m }

-- what the code hands back, and the lent data, are those
pub record Ticks (t : Tick) (r : Ticked) (m : List ℕ) : Type 0 where
  pub answer : r.answer ≡ t.answer
  pub core : r.core ≡ t.core
  pub bytes : m ≡ t.bytes

-- the form in place hands the answer back, and leaves the core behind its reference
abbrev pub in_place : Answer → Core → Ticked
in_place a k = record { answer = a; core = k }

-- ---- the steps
-- "A refused call changes no core, no byte of data": a step that gives t where what it needs is there
abbrev pub decided : Needs → Core → List ℕ → Tick → Tick
decided needed k m t = pick (eqb (refusal needed) 0) t (gives (Refused (refusal needed)) k m)

-- step 3: "Inhibit set: .. no interrupt this tick. Otherwise, if I is set, in-service is clear and a vector is offered: entry."
abbrev pub due : Core → Offer → Offer
due k o = pick k.inhibit None (pick (flag k 7) (pick k.in_service None o) None)

-- "Low byte of PC goes to data at SP, high byte at SP-1; SP falls by 2; PC is the vector; busy 4; in-service set; I kept"
abbrev pub entry : Core → ℕ → List ℕ → Out
entry k v m = let pushed = word_pushed k k.pc m in out (with_service (with_busy (with_pc pushed.core v) 4) true) pushed.bytes

abbrev pub entered : Core → ℕ → List ℕ → Tick
entered k v m = let inside = entry k v m in decided (push_needs k m) k m (gives Entered inside.core inside.bytes)

abbrev pub executed_tick : Executed → Tick
executed_tick x = gives (answer_of x.done) x.core x.bytes

module _ (decode : ℕ → ℕ → Instruction) where
  -- step 5: "Fetch, decode, add 1 to PC, execute." next is k with inhibit clear; k is handed back where the step is refused
  unfoldable pub stepped : Core → Core → List ℕ → List ℕ → Tick
  stepped k next p m =
      let op = op_at decode p next.pc in
      let behind = with_pc next (next.pc + 1) in
      let needed = with_fetch (fetched p next.pc op) (needs decode behind op p m) in
      decided needed k m (executed_tick (executed decode behind op p m))

  -- steps 3 to 5, by the vector that is due. "4. PC 65,535: answer end. Only inhibit may have changed."
  unfoldable pub enters_or_steps : Core → List ℕ → List ℕ → Offer → Tick
  enters_or_steps k p m (Some v) = entered k v m
  enters_or_steps k p m None = let next = with_inhibit k false in pick (eqb k.pc 65535) (gives End next m) (stepped k next p m)

  -- "1. Busy above 4: refusal 5. 2. Busy above 0: it falls by one; answer waited. The offer isn't looked at."
  unfoldable pub ticked : Core → List ℕ → List ℕ → Offer → Tick
  ticked k p m o =
      pick (ltb 4 k.busy) (gives (Refused 5) k m)
      (pick (ltb 0 k.busy) (gives Waited (with_busy k (k.busy - 1)) m) (enters_or_steps k p m (due k o)))

-- the tick, by 01's decode
abbrev pub tick_of : Core → List ℕ → List ℕ → Offer → Tick
tick_of k p m o = ticked decode_of k p m o
