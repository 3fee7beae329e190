-- Check 10, then the run over the snapshot.
use Rattle.std.proofs.Common.{refl, lt-ltb}
use Rattle.host.specs.Host.{avr_run_of}
use Rattle.host.proofs.Calls.{tells_run, tells_no_run}
use Rattle.host.proofs.avr_run.Goals as goal

pub returns-then-offer-gt65536 : goal.returns-then-offer-gt65536
unfolding avr_run_of
returns-then-offer-gt65536 c = rw (lt-ltb _ _ c.if-offer-gt65536.true) (record { number = refl; snapshot = refl; bytes = refl; ticks = refl })

pub returns-in-Ok : goal.returns-in-Ok
returns-in-Ok c =
    tells_run c.args.snapshot.now c.args.program.now c.args.«data».now c.args.offer c.if-offer-gt65536.false c.offer_of.ensures c.args.budget c.args.ticks.now
    c.run_in.ensures.handed_back c.run_in.ensures.left c.in-Ok.is c.from.ensures

pub returns-in-Err : goal.returns-in-Err
returns-in-Err c =
    tells_no_run c.args.snapshot.now c.args.program.now c.args.«data».now c.args.offer c.if-offer-gt65536.false c.offer_of.ensures c.args.budget c.args.ticks.now
    c.run_in.ensures.handed_back c.run_in.ensures.left c.in-Err.is c.from-in-Err.ensures
