-- A byte in its place, or nothing at the buffer's end.
use Rattle.std.proofs.Common.{refl}
use borrow.Author.Tests.{lt-ltb, le-ltb}
use lib.Seq.{set_out}
use Rattle.page.proofs.Laid.{one_byte}
use Rattle.page.proofs.Page.put_byte.Goals as goal

pub returns-then-self : goal.returns-then-self
returns-then-self c = record { same = refl; puts = record { is = rw (one_byte, lt-ltb _ _ c.if-self.true) } }

pub returns-else-self : goal.returns-else-self
returns-else-self c = record { same = refl; puts = record { is = rw (one_byte, le-ltb _ _ c.if-self.false, set_out _ _ _ c.if-self.false) } }
