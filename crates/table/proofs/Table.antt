-- A tick's answer by the table's rows: each step that it can reach, with what it lacks there.
-- Assumes nothing.
use mathlib.Core.Path.{◌≡◌, refl, sym, ap, ◌∙◌}
use mathlib.Core.Logic.{◌↔◌}
use mathlib.Core.Bool.{Bool, true, false, not, ◌&&◌, ◌||◌, beq}
use mathlib.Core.List.{List, [], ◌∷◌}
use Prim.Native.Nat.{ℕ, ◌≤◌, ◌<◌}
use native.Mathlib.Omega.{arith}
use borrow.Author.Tests.{ltb-true, ltb-false, eqb-true, eqb-false, lt-ltb, le-ltb, eq-eqb, ne_eqb}
use lib.Dec.{eqb, ltb, T, eqb→eq}
use Rattle.basis.specs.Pick.{pick}
use Rattle.basis.proofs.Choice.{clash, same, test}
use Rattle.basis.proofs.Both.{both_left, both_right}
use Rattle.instruction.specs.Code.{code}
use Rattle.instruction.specs.Decode.{decode_of}
use Rattle.instruction.specs.declared.Instruction.{Instruction}
use Rattle.instruction.specs.declared.Instruction.TheVariants.{BREAK, SLEEP, UNDEF, WDR}
use Rattle.instruction.proofs.Tests.{each}
use Rattle.cores.specs.declared.Core.{Core}
use Rattle.cores.specs.State.{flag, with_inhibit}
use Rattle.cores.specs.Flow.{op_at}
use Rattle.execute.specs.declared.Done.{Done}
use Rattle.execute.specs.declared.Done.TheVariants as done
use Rattle.execute.specs.Needs.{refusal, push_needs}
use Rattle.execute.specs.Execute.{executed}
use Rattle.tick.specs.Offer.{Offer}
use Rattle.std.specs.Prelude.{Some, None}
use Rattle.tick.specs.Tick.{number_of, due, stepped, enters_or_steps, ticked, tick_of}
use Rattle.tick.proofs.Steps.{onward, step_needs, performed}
use Rattle.table.specs.Steps.{offered, enters, has_all, pushed}
use Rattle.table.specs.Table.{outside_program, past_the_top, off_the_stack, outside_data, rows, ExactlyWhen, holding, Given, AnswersByTheTable}
use Rattle.table.proofs.Needs.{push_stack, pushed_in, needs_told, lacking}

-- ---- the statement as a test
abbrev pub fits : ℕ → List (ℕ × Bool) → Bool
fits a [] = true
fits a ((n, c) ∷ l) = beq (eqb a n) c && fits a l

abbrev pub Fits : ℕ → List (ℕ × Bool) → Type 0
Fits a l = T (fits a l && eqb (holding l) 1)

row : (a n : ℕ) (c : Bool) → T (beq (eqb a n) c) → (a ≡ n) ↔ (c ≡ true)
row a n true t = (λ e. refl, λ e. eqb-true a n (same (eqb a n) true t))
row a n false t = (λ e. clash (sym (eq-eqb a n e) ∙ same (eqb a n) false t), λ e. clash (sym e))

pub exactly : (a : ℕ) (l : List (ℕ × Bool)) → T (fits a l) → ExactlyWhen a l
exactly a [] t = tt
exactly a ((n, c) ∷ l) t = (row a n c (both_left (beq (eqb a n) c) (fits a l) t), exactly a l (both_right (beq (eqb a n) c) (fits a l) t))

-- ---- how an instruction is done, by its form
abbrev slept : Done → Bool
slept done.Ran = false
slept done.Sleep = true
slept done.Watchdog = false
slept done.Undefined = false
slept done.Break = false

abbrev reset : Done → Bool
reset done.Ran = false
reset done.Sleep = false
reset done.Watchdog = true
reset done.Undefined = false
reset done.Break = false

abbrev unknown : Done → Bool
unknown done.Ran = false
unknown done.Sleep = false
unknown done.Watchdog = false
unknown done.Undefined = true
unknown done.Break = false

abbrev broke : Done → Bool
broke done.Ran = false
broke done.Sleep = false
broke done.Watchdog = false
broke done.Undefined = false
broke done.Break = true

abbrev form : Instruction → ℕ
form i = (code i).0

-- ---- step 3: a vector is due, or none
abbrev vector : Bool → Bool → Bool → Offer → Offer
vector i f s o = pick i None (pick f (pick s None o) None)

module _ {X : Type 0} where
  by_due : (i f s : Bool) (o : Offer) → ((v : ℕ) → vector i f s o ≡ Some v → (not i && f && not s && offered o) ≡ true → X)
      → (vector i f s o ≡ None → (not i && f && not s && offered o) ≡ false → X) → X
  by_due true f s o enter stay = stay refl refl
  by_due false false s o enter stay = stay refl refl
  by_due false true true o enter stay = stay refl refl
  by_due false true false (Some v) enter stay = enter v refl refl
  by_due false true false None enter stay = stay refl refl

-- ---- the steps
module _ (k : Core) (p m : List ℕ) (o : Offer) where
  too_busy_lem : 4 < k.busy → Fits (number_of (tick_of k p m o).answer) (rows k p m o)
  unfolding ticked
  too_busy_lem h = rw (lt-ltb 4 k.busy h, ne_eqb k.busy 0 (omega arith)) tt

  waiting : 0 < k.busy → k.busy ≤ 4 → Fits (number_of (tick_of k p m o).answer) (rows k p m o)
  unfolding ticked
  waiting g h = rw (le-ltb 4 k.busy h, lt-ltb 0 k.busy g, ne_eqb k.busy 0 (omega arith)) tt

  module _ (z : k.busy ≡ 0) where
    over : ltb 4 k.busy ≡ false
    over = le-ltb 4 k.busy (omega arith)

    none : ltb 0 k.busy ≡ false
    none = le-ltb 0 k.busy (omega arith)

    calm : eqb k.busy 0 ≡ true
    calm = eq-eqb k.busy 0 z

    -- an entry, which may lack two things
    entering : (v : ℕ) → due k o ≡ Some v → enters k o ≡ true → Fits (number_of (tick_of k p m o).answer) (rows k p m o)
    unfolding ticked enters_or_steps
    entering v d e =
        test (ltb k.sp 2) (λ s. rw (e, s, over, none, calm, d, rw s at entry_refusal) tt)
        λ s. test (has_all m (pushed k)) (λ b. rw (e, s, b, over, none, calm, d, rw (s, b) at entry_refusal) tt)
        λ b. rw (e, s, b, over, none, calm, d, rw (s, b) at entry_refusal) tt
      where
        entry_refusal : refusal (push_needs k m) ≡ pick (not (ltb k.sp 2 || false)) (pick (not (not (has_all m (pushed k)))) 0 4) 3
        entry_refusal = cc (push_stack k.sp, pushed_in m k.sp)

    -- the end
    ending : due k o ≡ None → enters k o ≡ false → k.pc ≡ 65535 → Fits (number_of (tick_of k p m o).answer) (rows k p m o)
    unfolding ticked enters_or_steps
    ending d e h = rw (e, over, none, calm, d, eq-eqb k.pc 65535 h) tt

    -- an instruction, which may lack four things and is then done in one of five ways
    module _ (d : due k o ≡ None) (e : enters k o ≡ false) (h : k.pc < 65535) where
      abbrev op : Instruction
      op = op_at decode_of p k.pc

      abbrev how : Done
      how = (performed decode_of k p m).done

      sleeps : eqb (form op) (form SLEEP) ≡ slept how
      sleeps = same _ _ (each (λ i. beq (eqb (form i) (form SLEEP)) (slept (executed decode_of (onward k) i p m).done)) (λ a b. tt) tt op)

      resets : eqb (form op) (form WDR) ≡ reset how
      resets = same _ _ (each (λ i. beq (eqb (form i) (form WDR)) (reset (executed decode_of (onward k) i p m).done)) (λ a b. tt) tt op)

      unknowns : eqb (form op) (form UNDEF) ≡ unknown how
      unknowns = same _ _ (each (λ i. beq (eqb (form i) (form UNDEF)) (unknown (executed decode_of (onward k) i p m).done)) (λ a b. tt) tt op)

      breaks : eqb (form op) (form BREAK) ≡ broke how
      breaks = same _ _ (each (λ i. beq (eqb (form i) (form BREAK)) (broke (executed decode_of (onward k) i p m).done)) (λ a b. tt) tt op)

      top : eqb k.pc 65535 ≡ false
      top = ne_eqb k.pc 65535 (omega arith)

      lacked : refusal (step_needs decode_of k p m) ≡ refusal (lacking k p m op)
      lacked = ap refusal (needs_told k p m h op)

      module _ (a : outside_program k p m op ≡ false) (b : past_the_top k p m op ≡ false) (c : off_the_stack k op ≡ false) (f : outside_data k m op ≡ false) where
        doing : (x : Done) → how ≡ x → Fits (number_of (tick_of k p m o).answer) (rows k p m o)
        unfolding ticked enters_or_steps stepped with_inhibit
        doing done.Ran q = rw (sleeps, resets, unknowns, breaks, e, a, b, c, f, over, none, calm, d, top, rw (a, b, c, f) at lacked, q) tt
        doing done.Sleep q = rw (sleeps, resets, unknowns, breaks, e, a, b, c, f, over, none, calm, d, top, rw (a, b, c, f) at lacked, q) tt
        doing done.Watchdog q = rw (sleeps, resets, unknowns, breaks, e, a, b, c, f, over, none, calm, d, top, rw (a, b, c, f) at lacked, q) tt
        doing done.Undefined q = rw (sleeps, resets, unknowns, breaks, e, a, b, c, f, over, none, calm, d, top, rw (a, b, c, f) at lacked, q) tt
        doing done.Break q = rw (sleeps, resets, unknowns, breaks, e, a, b, c, f, over, none, calm, d, top, rw (a, b, c, f) at lacked, q) tt

      stepping : Fits (number_of (tick_of k p m o).answer) (rows k p m o)
      unfolding ticked enters_or_steps stepped with_inhibit
      stepping =
          test (outside_program k p m op) (λ a. rw (e, a, over, none, calm, d, top, rw a at lacked) tt)
          λ a. test (past_the_top k p m op) (λ b. rw (e, a, b, over, none, calm, d, top, rw (a, b) at lacked) tt)
          λ b. test (off_the_stack k op) (λ c. rw (e, a, b, c, over, none, calm, d, top, rw (a, b, c) at lacked) tt)
          λ c. test (outside_data k m op) (λ f. rw (e, a, b, c, f, over, none, calm, d, top, rw (a, b, c, f) at lacked) tt)
          λ f. doing a b c f how refl

  pub fits_the_table : k.pc < 65536 → Fits (number_of (tick_of k p m o).answer) (rows k p m o)
  fits_the_table h =
      test (ltb 4 k.busy) (λ b. too_busy_lem (ltb-true 4 k.busy b))
      λ b. test (ltb 0 k.busy) (λ c. waiting (ltb-true 0 k.busy c) (ltb-false 4 k.busy b))
      λ c. let z : k.busy ≡ 0 = omega (arith, ltb-false 0 k.busy c) in
      by_due k.inhibit (flag k 7) k.in_service o (λ v d e. entering z v d (rw (calm z) e))
      λ d e. test (eqb k.pc 65535) (λ t. ending z d (rw (calm z) e) (eqb-true k.pc 65535 t))
      λ t. let n = eqb-false k.pc 65535 t in stepping z d (rw (calm z) e) (omega arith)

pub shown : (a : ℕ) (l : List (ℕ × Bool)) → Fits a l → Given a l
shown a l t = (exactly a l (both_left (fits a l) (eqb (holding l) 1) t), eqb→eq (holding l) 1 (both_right (fits a l) (eqb (holding l) 1) t))

pub answers_by_the_table : AnswersByTheTable
answers_by_the_table k p m o h = shown (number_of (tick_of k p m o).answer) (rows k p m o) (fits_the_table k p m o h)
