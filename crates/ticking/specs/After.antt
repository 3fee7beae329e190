-- 01: "The bench loop lends its one core to be changed at each tick." So many ticks one after another under one held offer, whatever each of them answers.
-- k is a core, p a program, m the bytes of data, o an offer.
use Rattle.std.specs.Prelude.{List, ℕ, zero, suc}
use Rattle.cores.specs.declared.Core.{Core}
use Rattle.tick.specs.Tick.{tick_of}
use Rattle.tick.specs.Offer.{Offer}

-- what the last of them leaves
pub record Left : Type 0 where
  pub core : Core
  pub bytes : List ℕ

unfoldable pub after_of : ℕ → Core → List ℕ → List ℕ → Offer → Left
after_of zero k p m o = record { core = k; bytes = m }
after_of (suc ticks) k p m o = let t = tick_of k p m o in after_of ticks t.core p t.bytes o
