-- One tick of a core that waits for an entry: it enters, or brings the entry nearer.
-- Assumes nothing.
use mathlib.Core.Path.{◌≡◌, refl, sym, ap, ◌∙◌}
use mathlib.Core.Logic.{◌⊎◌, inl, inr}
use mathlib.Core.Bool.{Bool, true, false, ◌&&◌}
use mathlib.Core.List.{List, [], ◌∷◌}
use Prim.Native.Nat.{ℕ, ◌+◌, ◌-◌, ◌≤◌, ◌<◌}
use native.Mathlib.Omega.{arith}
use lib.Dec.{eqb}
use borrow.Author.Tests.{ne_eqb}
use Rattle.basis.specs.Pick.{pick}
use Rattle.basis.proofs.Choice.{clash}
use Rattle.instruction.specs.Code.{one_of, is_sei}
use Rattle.instruction.specs.Decode.{decode_of}
use Rattle.instruction.specs.declared.Instruction.TheVariants.{RETI}
use Rattle.cores.specs.declared.Core.{Core}
use Rattle.cores.specs.State.{flag, with_pc, with_busy, with_inhibit, with_service}
use Rattle.cores.specs.Flow.{op_at}
use Rattle.tick.specs.Tick.{Tick, number_of, refuses, stops, due, tick_of}
use Rattle.tick.specs.Offer.{Offer}
use Rattle.std.specs.Prelude.{Some, None}
use Rattle.tick.specs.declared.Answer.TheVariants.{Entered}
use Rattle.tick.proofs.Steps.{every_tick, every_due, onward, performed}
use Rattle.run.specs.Lent.{offers}
use Rattle.invariants.proofs.Ticks.{done_number, done_enters_not}
use Rattle.invariants.proofs.Waits.{instructions_wait_at_most_3}
use Rattle.invariants.proofs.Controls.{only_reti_and_sei_touch_the_flags, instructions_keep_the_rule}

-- ---- a tick whose number is 17 entered, and set in-service
pub record Enters (k : Core) (t : Tick) : Type 0 where
  pub answer : t.answer ≡ Entered
  pub clear : k.in_service ≡ false
  pub set : t.core.in_service ≡ true

pub enters : (k : Core) (p m : List ℕ) (o : Offer) → eqb (number_of (tick_of k p m o).answer) 17 ≡ true → Enters k (tick_of k p m o)
unfolding with_service
enters k p m o =
    every_tick decode_of (λ t. eqb (number_of t.answer) 17 ≡ true → Enters k t) k p m o
    (λ n g l e. clash (sym e ∙ ne_eqb n 17 (λ z. omega (arith, z))))
    (λ g l e. clash (sym e))
    (λ z v d l e. record { answer = refl; clear = every_due (λ w. w ≡ Some v → k.in_service ≡ false) k o (λ c. clash (sym (ap offers c))) (λ _ s _. s) d; set = refl })
    (λ z d l e. clash (sym e))
    λ z d l r e. clash (sym e ∙ done_enters_not (performed decode_of k p m).done)

-- ---- how many ticks the entry is away at most
abbrev pub away : Core → ℕ
away k = k.busy + pick k.inhibit 4 0

-- a core that waits for an entry
pub record Stands (chip : Bool) (k : Core) : Type 0 where
  pub brief : k.busy ≤ 3
  pub outside : k.in_service ≡ false
  pub rule : k.chip ≡ chip

-- what W6 assumes of a tick, from core k with offer o
pub record Allowed (k : Core) (p : List ℕ) (o : Offer) (t : Tick) : Type 0 where
  pub offered : offers o ≡ true
  pub enabled : flag k 7 ≡ true
  pub goes : (refuses t.answer ≡ false) × (stops t.answer ≡ false)
  pub no_reti : 18 ≤ number_of t.answer → number_of t.answer ≤ 22 → one_of (RETI ∷ []) (op_at decode_of p k.pc) ≡ false
  pub no_sei : 18 ≤ number_of t.answer → number_of t.answer ≤ 22 → (is_sei (op_at decode_of p k.pc) && k.chip) ≡ false

-- it enters; or core k waits on, nearer to the entry
pub record Nearer (chip : Bool) (k next : Core) : Type 0 where
  pub stands : Stands chip next
  pub nearer : away next < away k

-- with I set, no service and an offer, nothing is due only where inhibit is set
inhibited : (k : Core) (o : Offer) → offers o ≡ true → flag k 7 ≡ true → k.in_service ≡ false → due k o ≡ None → k.inhibit ≡ true
inhibited k o f i s = by k.inhibit (flag k 7) k.in_service i s
  where
    by : (on enabled service : Bool) → enabled ≡ true → service ≡ false → pick on None (pick enabled (pick service None o) None) ≡ None → on ≡ true
    by true enabled service i s e = refl
    by false true true i s e = clash s
    by false true false i s e = clash (sym f ∙ ap offers e)
    by false false service i s e = clash (sym i)

module _ (chip : Bool) (k : Core) (p m : List ℕ) (o : Offer) (s : Stands chip k) where
  abbrev Result : Tick → Type 0
  Result t = Allowed k p o t → (t.answer ≡ Entered) ⊎ Nearer chip k t.core

  waited : 0 < k.busy → Nearer chip k (with_busy k (k.busy - 1))
  unfolding with_busy
  waited g = record { stands = record { brief = omega (arith, s.brief); outside = s.outside; rule = s.rule }; nearer = omega arith }

  -- an instruction ran behind inhibit: it is clear now, and the instruction's waits are three at most
  ran : k.busy ≡ 0 → k.inhibit ≡ true → let op = op_at decode_of p k.pc in one_of (RETI ∷ []) op ≡ false → (is_sei op && k.chip) ≡ false
      → Nearer chip k (performed decode_of k p m).core
  unfolding with_pc with_inhibit
  ran z i r e =
      let op = op_at decode_of p k.pc in
      let next = (performed decode_of k p m).core in
      let flags = only_reti_and_sei_touch_the_flags decode_of op (onward k) p m in
      let free : next.inhibit ≡ false = flags.0 ∙ rw (r, e) in
      let low : next.busy ≤ 3 = instructions_wait_at_most_3 decode_of op (onward k) p m 3 (omega arith) (omega (arith, z)) in
      let here : away k ≡ 4 = ap (λ (n : ℕ). n + pick k.inhibit 4 0) z ∙ ap (λ (b : Bool). 0 + pick b 4 0) i in
      let there : away next ≡ next.busy + 0 = ap (λ (b : Bool). next.busy + pick b 4 0) free in
      record {
        stands = record {
          brief = low;
          outside = flags.1 ∙ rw (r, s.outside);
          rule = instructions_keep_the_rule decode_of op (onward k) p m ∙ s.rule;
        };
        nearer = omega (arith, low, here, there);
      }

  pub one_tick : Result (tick_of k p m o)
  unfolding with_inhibit
  one_tick =
      every_tick decode_of Result k p m o
      (λ n g l a. clash a.goes.0)
      (λ g l a. inr (waited g))
      (λ z v d l a. inl refl)
      (λ z d l a. clash a.goes.1)
      λ z d l r a. let (least, most) = done_number (performed decode_of k p m).done in
      inr (ran z (inhibited k o a.offered a.enabled s.outside d) (a.no_reti least most) (a.no_sei least most))
