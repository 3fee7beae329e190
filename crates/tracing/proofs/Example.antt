-- 01's example, computed.
-- Assumes nothing.
use mathlib.Core.Path.{refl}
use Rattle.basis.specs.Bit.{bit, put}
use Rattle.instruction.specs.Decode.{decode_of, immediate_of, word_immediate_of, one_register_of, control_of}
use Rattle.memory.specs.Memory.{program_word_of, has_word_of}
use Rattle.cores.specs.State.{fresh_of, with_reg, with_pc, with_busy, with_inhibit, cznvs, znvs}
use Rattle.tick.specs.Tick.{stepped, enters_or_steps, ticked}
use Rattle.tracing.specs.Trace.{lines_of, zeros, Example}

pub example : Example
unfolding lines_of zeros ticked enters_or_steps stepped program_word_of has_word_of decode_of immediate_of word_immediate_of one_register_of control_of fresh_of with_reg with_pc with_busy with_inhibit cznvs znvs bit put
example = refl
