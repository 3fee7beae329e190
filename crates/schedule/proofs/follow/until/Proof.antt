-- `until`: the three cases of its definition.
-- Assumes nothing.
use native.Mathlib.Omega.{arith}
use mathlib.Core.Path.{◌≡◌}
use Prim.Native.Nat.{◌-◌}
use borrow.Author.Rules.{rules}
use borrow.Author.Tests.{lt-ltb, le-ltb}
use Rattle.schedule.proofs.follow.until.Statement.{statement}
use Rattle.schedule.proofs.follow.until.Tie as tie

returns : tie.Need-returns-then-tick-budget
returns c = let a = c.args in rw (lt-ltb a.budget a.tick c.if-tick-budget.true)

returns_2 : tie.Need-returns-then-tick-done
returns_2 c = let a = c.args in rw (le-ltb a.budget a.tick (omega (arith, c.if-tick-budget.false)))

returns_3 : tie.Need-returns-else-tick-done
returns_3 c =
    let a = c.args in
    let none : a.tick - 1 - a.done ≡ 0 = omega (arith, c.if-tick-done.false) in
    rw (le-ltb a.budget a.tick (omega (arith, c.if-tick-budget.false)), none)

pub until_spec : {M : Type 1} → statement M
until_spec = tie.close (tie.spec (λ c. search rules) returns (λ c. search rules) (λ c. search rules) returns_2 returns_3)
