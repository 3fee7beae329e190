-- `set_data_space`: the three addresses, and the bytes of data elsewhere.
-- Assumes nothing.
use Rattle.std.proofs.Common.{refl, rules}
use Rattle.cores.proofs.Space.{Elsewhere}
use Rattle.effects.proofs.Stores.{sreg_elsewhere, sp_elsewhere, bytes_elsewhere}
use Rattle.effects.proofs.transfer.set_data_space.Statement.{statement}
use Rattle.effects.proofs.transfer.set_data_space.Tie as tie

pub set_data_space_spec : {M : Type 1} → statement M
set_data_space_spec =
    tie.close
    (tie.spec
    (λ c κs. search rules)
    (λ c. search rules)
    (λ c. search rules)
    (λ c κs. search rules)
    (λ c. search rules)
    (λ c. search rules)
    (λ c κs. search rules)
    (λ c κs. search rules)
    (λ c κs. search rules)
    (λ c. rw (c.in-63.is, c.leaves.ensures) (refl, refl))
    (λ c. rw (c.in-62.is, c.leaves-in-62.ensures) (refl, refl))
    (λ c. rw (c.in-61.is, c.leaves-in-61.ensures) (refl, refl))
    (λ c. search rules)
    (λ c. let e : Elsewhere c.args.address = search rules in
    rw (sreg_elsewhere c.args.address e, sp_elsewhere c.args.address e, bytes_elsewhere c.args.address e, c.leaves-in_default.ensures) (refl, c.write.ensures)))
