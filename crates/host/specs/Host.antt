-- 01: "The Rust bench host calls the tick through a C interface: snapshot, program, data, offer as a 32-bit number with 65,536 for none; checks in the
-- order 10, 7, 8, 9, then the tick. The next core is written into the same snapshot; the answer's number is returned."
use Rattle.std.specs.Prelude.{◌≡◌, List, ℕ, eqb, ltb}
use Rattle.basis.specs.Pick.{pick}
use Rattle.tick.specs.Tick.{number_of, tick_of}
use Rattle.tick.specs.Offer.{Offer}
use Rattle.std.specs.Prelude.{Some, None}
use Rattle.run.specs.Run.{run_of}
use Rattle.snapshot.specs.Snapshot.{read_of, write_of}

abbrev pub offer_of : ℕ → Offer
offer_of n = pick (ltb n 65536) (Some n) None

-- ---- a call of the tick: the number returned, the snapshot's bytes, the data's bytes
pub record Told : Type 0 where
  pub number : ℕ
  pub snapshot : List ℕ
  pub bytes : List ℕ

abbrev pub told : ℕ → List ℕ → List ℕ → Told
told n s m = record { number = n; snapshot = s; bytes = m }

unfoldable pub avr_tick_of : List ℕ → List ℕ → List ℕ → ℕ → Told
avr_tick_of s p m offer =
    let r = read_of s in
    let t = tick_of r.core p m (offer_of offer) in
    pick (ltb 65536 offer) (told 10 s m)
    (pick (eqb r.refusal 0) (told (number_of t.answer) (write_of t.core s).bytes t.bytes) (told r.refusal s m))

pub record Tells (t : Told) (n : ℕ) (s m : List ℕ) : Type 0 where
  pub number : n ≡ t.number
  pub snapshot : s ≡ t.snapshot
  pub bytes : m ≡ t.bytes

-- ---- a call of the run: the same, and the count in `ticks`, which a refused call leaves as it was
pub record ToldTicks : Type 0 where
  pub number : ℕ
  pub snapshot : List ℕ
  pub bytes : List ℕ
  pub ticks : ℕ

abbrev pub told_ticks : ℕ → List ℕ → List ℕ → ℕ → ToldTicks
told_ticks n s m c = record { number = n; snapshot = s; bytes = m; ticks = c }

unfoldable pub avr_run_of : List ℕ → List ℕ → List ℕ → ℕ → ℕ → ℕ → ToldTicks
avr_run_of s p m offer budget ticks =
    let r = read_of s in
    let z = run_of budget r.core p m (offer_of offer) in
    pick (ltb 65536 offer) (told_ticks 10 s m ticks)
    (pick (eqb r.refusal 0) (told_ticks z.answer (write_of z.core s).bytes z.bytes z.count) (told_ticks r.refusal s m ticks))

pub record TellsTicks (t : ToldTicks) (n : ℕ) (s m : List ℕ) (c : ℕ) : Type 0 where
  pub number : n ≡ t.number
  pub snapshot : s ≡ t.snapshot
  pub bytes : m ≡ t.bytes
  pub ticks : c ≡ t.ticks
