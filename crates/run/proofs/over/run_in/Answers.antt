-- No budget, or a run.
use Rattle.std.proofs.Common.{rules}
use Rattle.run.proofs.Turns.{in_bytes}
use Rattle.run.proofs.Calls.{run_none, run_none_told, run_passed, run_told}
use Rattle.run.proofs.over.run_in.Goals as goal

pub returns-then-budget-eq0-clause-handed_back : goal.returns-then-budget-eq0-clause-handed_back
returns-then-budget-eq0-clause-handed_back c = let a = c.args in rw c.if-budget-eq0.true (run_none_told a.snapshot.now a.program.now a.«data».now a.offer (search rules))

pub returns-then-budget-eq0-clause-left : goal.returns-then-budget-eq0-clause-left
returns-then-budget-eq0-clause-left c = rw c.if-budget-eq0.true (run_none _ _ _ _ (search rules) (in_bytes λ i. search rules))

pub returns-clause-handed_back : goal.returns-clause-handed_back
returns-clause-handed_back c = run_told _ _ _ _ (search rules) c.advance-last.ensures c.ended.ensures

pub returns-clause-left : goal.returns-clause-left
returns-clause-left c = run_passed _ _ _ _ (search rules) c.advance-last.ensures c.ended.ensures
