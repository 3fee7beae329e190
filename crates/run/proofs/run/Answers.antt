-- A core through its snapshot.
use Rattle.std.proofs.Common.{replicate, refl, sym, ap, ◌∙◌, rules, arith}
use Rattle.snapshot.specs.Snapshot.{said_write}
use Rattle.run.proofs.Turns.{in_bytes}
use Rattle.run.proofs.Through.{runs_none, runs_refused, not_written, is_written, core_sound, run_in_ok, read_in_ok, runs_through}
use Rattle.run.proofs.run.Goals as goal

pub returns-then-budget-eq0 : goal.returns-then-budget-eq0
returns-then-budget-eq0 c = rw c.if-budget-eq0.true (runs_none c.args.core c.args.program.now c.args.«data».now c.args.offer)

pub returns-in-Err : goal.returns-in-Err
returns-in-Err c =
    let a = c.args in
    let (busy, number) = not_written a.core (replicate 38 0) refl c.in-Err.refusal (ap said_write (sym c.in-Err.is) ∙ c.write.ensures.refusal) in
    rw (c.into.ensures, number) (runs_refused a.budget a.core a.program.now a.«data».now a.offer (omega (arith, c.if-budget-eq0.false)) busy)

pub unwrap-over-requires : goal.unwrap-over-requires
unwrap-over-requires c =
    let a = c.args in
    let few = is_written a.core (replicate 38 0) refl (ap said_write (sym c.in_default.is) ∙ c.write.ensures.refusal) in
    let sound = core_sound a.core (search rules) (λ i. search rules) (search rules) (search rules) (search rules) few in
    run_in_ok a.budget a.core (replicate 38 0) _ a.program.now a.«data».now a.offer sound refl c.write.ensures.bytes c.run_in.ensures.handed_back

pub unwrap-core-requires : goal.unwrap-core-requires
unwrap-core-requires c =
    let a = c.args in
    let few = is_written a.core (replicate 38 0) refl (ap said_write (sym c.in_default.is) ∙ c.write.ensures.refusal) in
    let sound = core_sound a.core (search rules) (λ i. search rules) (search rules) (search rules) (search rules) few in
    read_in_ok a.budget a.core (replicate 38 0) _ a.program.now a.«data».now a.offer sound refl c.write.ensures.bytes (in_bytes c.type_inv.program) (in_bytes λ i. search rules) (search rules)
    c.run_in.ensures.left c.read.result c.read.ensures

pub returns : goal.returns
returns c =
    let a = c.args in
    let few = is_written a.core (replicate 38 0) refl (ap said_write (sym c.in_default.is) ∙ c.write.ensures.refusal) in
    let sound = core_sound a.core (search rules) (λ i. search rules) (search rules) (search rules) (search rules) few in
    runs_through a.budget a.core (replicate 38 0) _ a.program.now a.«data».now a.offer sound refl c.write.ensures.bytes (in_bytes c.type_inv.program) (in_bytes λ i. search rules) (search rules)
    c.run_in.ensures.left c.run_in.ensures.handed_back c.unwrap-over.ensures c.read.ensures c.unwrap-core.ensures
