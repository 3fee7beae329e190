-- The scheduled run over the snapshot.
use Rattle.std.proofs.Common.{◌≡◌, ◌∙◌, sym, ap, length, eq-eqb, ne_eqb}
use Rattle.basis.specs.Pick.{pick}
use Rattle.run.specs.Run.{ended_number}
use Rattle.run.proofs.Ends.{ends_have_their_numbers}
use Rattle.schedule.specs.Schedule.{refusal_in, schedule_in, over_of}
use Rattle.schedule.proofs.Refusals.{started_ok, started_refused}
use Rattle.host.specs.Schedules.{avr_run_schedule_of}
use Rattle.host.proofs.schedules.avr_run_schedule.Goals as goal

pub returns-in-Ok-clause-tells_ticks : goal.returns-in-Ok-clause-tells_ticks
unfolding avr_run_schedule_of
returns-in-Ok-clause-tells_ticks c =
    let a = c.args in
    let said = c.run_in.ensures in
    let run = (schedule_in a.snapshot.now a.program.now a.«data».now a.list.now a.budget a.entered.now).run in
    let (passed, is) = started_ok (refusal_in a.snapshot.now a.list.now (length a.entered.now)) (over_of run) (sym c.in-Ok.is ∙ said.value) in
    let yes = eq-eqb (refusal_in a.snapshot.now a.list.now (length a.entered.now)) 0 passed in
    record {
      number = c.from.ensures ∙ ap (λ x. ended_number x.ended) is ∙ ends_have_their_numbers run.answer;
      snapshot = said.snapshot_after;
      bytes = said.data_after;
      ticks = ap (λ x. x.ticks) is ∙ sym (ap (λ y. pick y run.count a.ticks.now) yes);
    }

pub returns-in-Err-clause-tells_ticks : goal.returns-in-Err-clause-tells_ticks
unfolding avr_run_schedule_of
returns-in-Err-clause-tells_ticks c =
    let a = c.args in
    let said = c.run_in.ensures in
    let run = (schedule_in a.snapshot.now a.program.now a.«data».now a.list.now a.budget a.entered.now).run in
    let (some, number) = started_refused a.snapshot.now a.list.now (length a.entered.now) (over_of run) (sym c.in-Err.is ∙ said.value) in
    let no = ne_eqb (refusal_in a.snapshot.now a.list.now (length a.entered.now)) 0 some in
    let answer : refusal_in a.snapshot.now a.list.now (length a.entered.now) ≡ run.answer = rw no in
    record {
      number = c.from-in-Err.ensures ∙ number ∙ answer;
      snapshot = said.snapshot_after;
      bytes = said.data_after;
      ticks = sym (ap (λ y. pick y run.count a.ticks.now) no);
    }
