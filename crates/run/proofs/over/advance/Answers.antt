-- One turn of the loop is that of proofs/Turns.
use Rattle.std.proofs.Common.{refl, sym, ◌∙◌, rules, arith}
use Rattle.run.proofs.Unroll.{begun}
use Rattle.run.proofs.Turns.{in_bytes, turn_spent, turn_refused, turn_ended, turn_on}
use Rattle.run.proofs.over.advance.Goals as goal

pub loop-program-init : goal.loop-program-init
loop-program-init c = record { under = c.requires.1; read = c.requires.0; run = begun _ _ _ _ _; began = λ z. (refl, refl) }

pub stretch-done-requires : goal.stretch-done-requires
stretch-done-requires c = (c.loop-program.invariant.read, c.loop-program.invariant.under)

pub returns-then-done-budget : goal.returns-then-done-budget
returns-then-done-budget c = rw c.number.ensures
    (turn_spent c.requires.0 c.loop-program.invariant c.is_some-on.ensures c.stretch-done.ensures (in_bytes c.type_inv.snapshot) c.if-done-budget.true)

pub returns-then-refuses : goal.returns-then-refuses
returns-then-refuses c =
    rw c.number-number.ensures
    (turn_refused c.requires.0 c.loop-program.invariant c.is_some-on.ensures c.stretch-done.ensures (in_bytes λ i. search rules) (in_bytes c.type_inv.program0) (in_bytes λ i. search rules)
    (search rules) c.whole-answer.ensures c.if-done-budget.false (sym c.refuses.ensures ∙ c.if-refuses.true))

pub returns-then-stops-next : goal.returns-then-stops-next
returns-then-stops-next c =
    rw c.number-number.ensures
    (turn_ended c.requires.0 c.loop-program.invariant c.is_some-on.ensures c.stretch-done.ensures (in_bytes λ i. search rules) (in_bytes c.type_inv.program0) (in_bytes λ i. search rules)
    (search rules) c.whole-answer.ensures c.if-done-budget.false (sym c.refuses.ensures ∙ c.if-refuses.false) (rw (← c.stops.ensures) c.if-stops-next.true))

pub loop-program-smaller : goal.loop-program-smaller
loop-program-smaller c = omega (arith, c.stretch-done.ensures.onward, c.stretch-done.ensures.bounded, c.if-done-budget.false)

pub loop-program-preserved : goal.loop-program-preserved
loop-program-preserved c =
    turn_on c.requires.0 c.loop-program.invariant c.is_some-on.ensures c.stretch-done.ensures (in_bytes λ i. search rules) (in_bytes c.type_inv.program0) (in_bytes λ i. search rules)
    (search rules) c.whole-answer.ensures c.if-done-budget.false (sym c.refuses.ensures ∙ c.if-refuses.false) (rw (← c.stops.ensures) c.if-stops-next.false)
