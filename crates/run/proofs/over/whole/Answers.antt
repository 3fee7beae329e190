-- The core that the bytes say, the two operations of the tick, and its core written.
use Rattle.std.proofs.Common.{◌≡◌, ap, ◌∙◌, rules}
use Rattle.cores.specs.declared.Core.{Core}
use Rattle.tick.specs.Tick.{tick_of}
use Rattle.tick.proofs.Foretold.{answered, left}
use Rattle.snapshot.specs.Snapshot.{write_of}
use Rattle.run.specs.Over.{tick_over}
use Rattle.run.proofs.Turns.{in_bytes, core_read, next_written}
use Rattle.run.proofs.over.whole.Goals as goal

pub unwrap-requires : goal.unwrap-requires
unwrap-requires c =
    let a = c.args in
    let s = a.snapshot.now in
    let core = core_read s c.read.ensures c.unwrap-core.ensures in
    let next = left c.unwrap-core.result a.program.now a.«data».now a.offer c.decide-plan.ensures c.carry_out-next.ensures in
    next_written s a.program.now a.«data».now a.offer c.requires (in_bytes λ i. search rules) (in_bytes c.type_inv.program) (in_bytes λ i. search rules) (search rules) c.write.result
    (next.core ∙ ap (λ (k : Core). (tick_of k a.program.now a.«data».now a.offer).core) core) c.write.ensures.refusal

pub returns : goal.returns
returns c =
    let a = c.args in
    let s = a.snapshot.now in
    let p = a.program.now in
    let m = a.«data».now in
    let k = c.unwrap-core.result in
    let answer = answered k p m a.offer c.decide-plan.ensures c.answer.ensures in
    let next = left k p m a.offer c.decide-plan.ensures c.carry_out-next.ensures in
    let tick : tick_of k p m a.offer ≡ tick_over s p m a.offer = ap (λ (k : Core). tick_of k p m a.offer) (core_read s c.read.ensures c.unwrap-core.ensures) in
    record {
      answer = answer ∙ ap (λ t. t.answer) tick;
      snapshot = c.write.ensures.bytes ∙ ap (λ (k' : Core). (write_of k' s).bytes) (next.core ∙ ap (λ t. t.core) tick);
      bytes = next.bytes ∙ ap (λ t. t.bytes) tick;
    }
