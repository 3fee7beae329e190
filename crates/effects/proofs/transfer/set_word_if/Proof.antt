-- `set_word_if` is its definition.
-- Assumes nothing.
use Rattle.cores.specs.State.{with_reg, with_regs}
use Rattle.std.proofs.Common.{rules}
use Rattle.effects.proofs.transfer.set_word_if.Statement.{statement}
use Rattle.effects.proofs.transfer.set_word_if.Tie as tie

pub set_word_if_spec : {M : Type 1} → statement M
unfolding with_reg with_regs
set_word_if_spec =
    tie.close
    (tie.spec
    (λ c κs. search rules)
    (λ c. search rules)
    (λ c. rw (c.if-on.true, c.put_word.ensures))
    (λ c. rw c.if-on.false))
