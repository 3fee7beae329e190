-- The checks in their order, then the tick's answer.
use Rattle.std.proofs.Common.{◌∙◌, ap, refl, lt-ltb}
use Rattle.tick.specs.Tick.{number_of}
use Rattle.host.specs.Host.{avr_tick_of}
use Rattle.host.proofs.Calls.{foretells, foretells_no_tick}
use Rattle.host.proofs.avr_foretell.Goals as goal

pub returns-then-offer-gt65536 : goal.returns-then-offer-gt65536
unfolding avr_tick_of
returns-then-offer-gt65536 c = rw (lt-ltb _ _ c.if-offer-gt65536.true)

pub returns-in-Ok : goal.returns-in-Ok
returns-in-Ok c =
    foretells c.args.snapshot.now c.args.program.now c.args.«data».now c.args.offer c.if-offer-gt65536.false c.offer_of.ensures
    c.read.ensures c.in-Ok.is (c.number.ensures ∙ ap number_of c.foretell.ensures)

pub returns-in-Err : goal.returns-in-Err
returns-in-Err c =
    foretells_no_tick c.args.snapshot.now c.args.program.now c.args.«data».now c.args.offer c.if-offer-gt65536.false refl
    c.read.ensures c.in-Err.is c.from.ensures
