-- Check 10, then the tick over the snapshot.
use Rattle.std.proofs.Common.{refl, lt-ltb}
use Rattle.host.specs.Host.{avr_tick_of}
use Rattle.host.proofs.Calls.{tells_tick}
use Rattle.host.proofs.avr_tick.Goals as goal

pub returns-then-offer-gt65536 : goal.returns-then-offer-gt65536
unfolding avr_tick_of
returns-then-offer-gt65536 c = rw (lt-ltb _ _ c.if-offer-gt65536.true) (record { number = refl; snapshot = refl; bytes = refl })

pub returns : goal.returns
returns c = tells_tick c.args.snapshot.now c.args.program.now c.args.«data».now c.args.offer c.if-offer-gt65536.false c.offer_of.ensures c.tick_number_in.ensures refl
