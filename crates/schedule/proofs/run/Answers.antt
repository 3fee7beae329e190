-- A core through its snapshot.
use Rattle.std.proofs.Common.{◌∙◌, replicate, rules, refl, ap, sym}
use Rattle.snapshot.specs.Snapshot.{said_write}
use Rattle.run.proofs.Through.{is_written, core_sound}
use Rattle.schedule.proofs.Whole.{busy_spent, busy_refused, busy_data, busy_entered, may_follow, ran_back, ran_data, ran_entered}
use Rattle.schedule.proofs.run.Goals as goal

pub returns-then-budget-eq0-clause-value : goal.returns-then-budget-eq0-clause-value
returns-then-budget-eq0-clause-value c =
    let a = c.args in busy_spent a.budget a.core a.program.now a.«data».now a.list.now a.entered.now c.check.ensures c.in_ok-check.was c.write.ensures.refusal c.in-Err.is c.if-budget-eq0.true

pub returns-then-budget-eq0-clause-data_after : goal.returns-then-budget-eq0-clause-data_after
returns-then-budget-eq0-clause-data_after c =
    let a = c.args in busy_data a.budget a.core a.program.now a.«data».now a.list.now a.entered.now c.check.ensures c.in_ok-check.was c.write.ensures.refusal c.in-Err.is

pub returns-then-budget-eq0-clause-entered_after : goal.returns-then-budget-eq0-clause-entered_after
returns-then-budget-eq0-clause-entered_after c =
    let a = c.args in busy_entered a.budget a.core a.program.now a.«data».now a.list.now a.entered.now c.check.ensures c.in_ok-check.was c.write.ensures.refusal c.in-Err.is (c.fill.ensures.after (λ y e. e))

pub returns-else-budget-eq0-clause-value : goal.returns-else-budget-eq0-clause-value
returns-else-budget-eq0-clause-value c =
    let a = c.args in busy_refused a.budget a.core a.program.now a.«data».now a.list.now a.entered.now c.check.ensures c.in_ok-check.was c.write.ensures.refusal c.in-Err.is c.if-budget-eq0.false c.into.ensures

pub returns-else-budget-eq0-clause-data_after : goal.returns-else-budget-eq0-clause-data_after
returns-else-budget-eq0-clause-data_after c =
    let a = c.args in busy_data a.budget a.core a.program.now a.«data».now a.list.now a.entered.now c.check.ensures c.in_ok-check.was c.write.ensures.refusal c.in-Err.is

pub returns-else-budget-eq0-clause-entered_after : goal.returns-else-budget-eq0-clause-entered_after
returns-else-budget-eq0-clause-entered_after c =
    let a = c.args in busy_entered a.budget a.core a.program.now a.«data».now a.list.now a.entered.now c.check.ensures c.in_ok-check.was c.write.ensures.refusal c.in-Err.is (c.fill.ensures.after (λ y e. e))

pub follow-ended-requires : goal.follow-ended-requires
follow-ended-requires c =
    let a = c.args in
    let few = is_written a.core (replicate 38 0) refl (ap said_write (sym c.in_default.is) ∙ c.write.ensures.refusal) in
    let sound = core_sound a.core (search rules) (λ i. search rules) (search rules) (search rules) (search rules) few in
    may_follow a.budget a.core a.program.now a.«data».now a.list.now a.entered.now c.check.ensures c.in_ok-check.was sound c.write.ensures.bytes

pub returns-clause-value : goal.returns-clause-value
returns-clause-value c =
    let a = c.args in
    let few = is_written a.core (replicate 38 0) refl (ap said_write (sym c.in_default.is) ∙ c.write.ensures.refusal) in
    let sound = core_sound a.core (search rules) (λ i. search rules) (search rules) (search rules) (search rules) few in
    ran_back a.budget a.core a.program.now a.«data».now a.list.now a.entered.now c.check.ensures c.in_ok-check.was sound c.write.ensures.bytes c.follow-ended.ensures c.read.ensures c.unwrap-core.ensures

pub returns-clause-data_after : goal.returns-clause-data_after
returns-clause-data_after c =
    let a = c.args in
    let few = is_written a.core (replicate 38 0) refl (ap said_write (sym c.in_default.is) ∙ c.write.ensures.refusal) in
    let sound = core_sound a.core (search rules) (λ i. search rules) (search rules) (search rules) (search rules) few in
    ran_data a.budget a.core a.program.now a.«data».now a.list.now a.entered.now c.check.ensures c.in_ok-check.was sound c.write.ensures.bytes c.follow-ended.ensures

pub returns-clause-entered_after : goal.returns-clause-entered_after
returns-clause-entered_after c =
    let a = c.args in
    let few = is_written a.core (replicate 38 0) refl (ap said_write (sym c.in_default.is) ∙ c.write.ensures.refusal) in
    let sound = core_sound a.core (search rules) (λ i. search rules) (search rules) (search rules) (search rules) few in
    ran_entered a.budget a.core a.program.now a.«data».now a.list.now a.entered.now c.check.ensures c.in_ok-check.was sound c.write.ensures.bytes c.follow-ended.ensures
