-- Behind the run with no offer.
use Rattle.std.proofs.Common.{arith, rules}
use Rattle.run.proofs.Turns.{in_bytes}
use Rattle.schedule.proofs.Serving.{in_budget, still_read, served_on, served_ended}
use Rattle.schedule.proofs.follow.serve.Goals as goal

pub overflow_add-ticks : goal.overflow_add-ticks
overflow_add-ticks c =
    omega (arith, in_budget c.args.snapshot.now c.args.program.now c.args.«data».now c.requires.0 (in_bytes λ i. search rules) (in_bytes λ i. search rules) (in_bytes λ i. search rules) c.unwrap-ended.ensures c.run_in.ensures.handed_back c.run_in.ensures.left c.args.due c.args.done c.args.budget c.requires.1 c.until-quiet.ensures)

pub wait-requires : goal.wait-requires
wait-requires c = (
  still_read c.args.snapshot.now c.args.program.now c.args.«data».now c.requires.0 (in_bytes λ i. search rules) (in_bytes λ i. search rules) (in_bytes λ i. search rules) c.unwrap-ended.ensures c.run_in.ensures.handed_back c.run_in.ensures.left c.args.due c.args.done c.args.budget c.requires.1 c.until-quiet.ensures,
  in_budget c.args.snapshot.now c.args.program.now c.args.«data».now c.requires.0 (in_bytes λ i. search rules) (in_bytes λ i. search rules) (in_bytes λ i. search rules) c.unwrap-ended.ensures c.run_in.ensures.handed_back c.run_in.ensures.left c.args.due c.args.done c.args.budget c.requires.1 c.until-quiet.ensures,
)

pub returns-in-Budget : goal.returns-in-Budget
returns-in-Budget c =
    served_on c.args.snapshot.now c.args.program.now c.args.«data».now c.requires.0 (in_bytes λ i. search rules) (in_bytes λ i. search rules) (in_bytes λ i. search rules) c.unwrap-ended.ensures c.run_in.ensures.handed_back c.run_in.ensures.left c.args.due c.args.done c.args.budget c.requires.1 c.until-quiet.ensures
    c.in-Budget.is c.wait.ensures

pub returns-in_default : goal.returns-in_default
returns-in_default c =
    served_ended c.args.snapshot.now c.args.program.now c.args.«data».now c.requires.0 (in_bytes λ i. search rules) (in_bytes λ i. search rules) (in_bytes λ i. search rules) c.unwrap-ended.ensures c.run_in.ensures.handed_back c.run_in.ensures.left c.args.due c.args.done c.args.budget c.requires.1 c.until-quiet.ensures
    c.in_default.not-Budget
