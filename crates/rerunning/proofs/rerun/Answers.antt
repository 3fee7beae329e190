-- The page began at the buffer's start.
use Rattle.std.proofs.Common.{refl, rules}
use Rattle.page.proofs.Gained.{printed}
use Rattle.rerunning.proofs.rerun.Goals as goal

pub returns : goal.returns
returns c = printed c.put_rerun.ensures refl (search rules)
