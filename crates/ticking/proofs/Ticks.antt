-- Of so many ticks: none is left, or one is made and one less is left.
use Rattle.std.proofs.Common.{◌≡◌, ℕ, zero, suc, ◌≤◌, List, arith}
use Rattle.cores.specs.declared.Core.{Core}
use Rattle.tick.specs.Offer.{Offer}
use Rattle.tick.specs.Tick.{tick_of}
use Rattle.ticking.specs.After.{Left, after_of}

pub none_left : (i : ℕ) → i ≤ 0 → (k : Core) (p m : List ℕ) (o : Offer) (w : Left) → after_of i k p m o ≡ w → record { core = k; bytes = m } ≡ w
unfolding after_of
none_left zero z k p m o w e = e
none_left (suc i) z k p m o w e = absurd (omega arith)

pub one_less : (i j : ℕ) → i ≡ suc j → (k k' : Core) (p m m' : List ℕ) (o : Offer) (w : Left) → k' ≡ (tick_of k p m o).core → m' ≡ (tick_of k p m o).bytes → after_of i k p m o ≡ w → after_of j k' p m' o ≡ w
unfolding after_of
one_less i j h k k' p m m' o w core bytes e = rw (core, bytes) (rw h at e)
