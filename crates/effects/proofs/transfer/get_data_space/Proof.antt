-- `get_data_space`: the three addresses, and the bytes of data elsewhere.
-- Assumes nothing.
use Rattle.cores.proofs.Space.{data_elsewhere}
use Rattle.cores.specs.State.{with_sp}
use Rattle.cores.specs.Transfer.{data_of}
use Rattle.std.proofs.Common.{rules}
use Rattle.effects.proofs.transfer.get_data_space.Statement.{statement}
use Rattle.effects.proofs.transfer.get_data_space.Tie as tie

pub get_data_space_spec : {M : Type 1} → statement M
unfolding data_of with_sp
get_data_space_spec =
    tie.close
    (tie.spec
    (λ c. search rules)
    (λ c. search rules)
    (λ c κs. search rules)
    (λ c. rw c.in-63.is)
    (λ c. rw c.in-62.is)
    (λ c. rw c.in-61.is)
    (λ c. rw (data_elsewhere c.args.address (search rules)) c.read.ensures))
