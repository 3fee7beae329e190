-- PC, SP where it changed, SREG and the last byte.
use Rattle.std.proofs.Common.{◌≡◌, get_or, arith, rules, eqb-true, Fits, w8}
use borrow.Author.Tests.{not-false}
use Rattle.run.proofs.Six.{settled}
use Rattle.run.proofs.settling.settle.Goals as goal

pub returns : goal.returns
returns c =
    let a = c.args in
    let low : Fits w8 (get_or a.snapshot.now 36 0) = search rules in
    rw (c.put_word_if.ensures, c.put_word.ensures)
    (settled a.snapshot.now a.sreg a.pc a.sp a.last _ c.requires.snapshot_len
    (λ z. let h : a.sp ≡ a.before = eqb-true a.sp a.before (not-false _ z) in (omega (arith, h, c.requires.before_value, low), omega (arith, h, c.requires.before_value, low))))
