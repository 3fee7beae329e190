-- The page began at the buffer's start.
use Rattle.std.proofs.Common.{refl, rules}
use Rattle.page.proofs.Gained.{printed}
use Rattle.listing.proofs.list.Goals as goal

pub returns : goal.returns
returns c = printed c.put_listing.ensures refl (search rules)
