-- The lines of specs/BenchSheet.antt, computed.
-- Assumes nothing.
use mathlib.Core.Path.{refl}
use Rattle.basis.specs.Bit.{bit, put}
use Rattle.alu.specs.Alu.{minus_of}
use Rattle.instruction.specs.Decode.{decode_of, nop_to_add_of, mulsu_to_fmulsu_of, cpse_to_adc_of, displaced_of, load_of, indirect_of, store_of, one_register_of, control_of, word_immediate_of, relative_of, branch_or_bit_of, register_bit_of}
use Rattle.memory.specs.Memory.{program_word_of, has_word_of}
use Rattle.rule.specs.Rule.{load_waits}
use Rattle.cores.specs.State.{fresh_of, with_reg, with_pc, with_sp, with_busy, with_inhibit, with_service, with_chip, cz, cznvsh, cznvs, znvs}
use Rattle.cores.specs.Transfer.{reach_of, data_of, set_data_of, pointed_of, word_if}
use Rattle.cores.specs.Flow.{skipped}
use Rattle.tick.specs.Tick.{stepped, enters_or_steps, ticked}
use Rattle.promises.specs.BenchSheet.{BenchSheet}

pub bench_sheet : BenchSheet
unfolding load_waits ticked enters_or_steps stepped program_word_of has_word_of decode_of nop_to_add_of mulsu_to_fmulsu_of cpse_to_adc_of displaced_of load_of indirect_of store_of one_register_of control_of word_immediate_of relative_of branch_or_bit_of register_bit_of fresh_of with_reg with_pc with_sp with_busy with_inhibit with_service with_chip cz cznvsh cznvs znvs bit put minus_of reach_of data_of set_data_of pointed_of word_if skipped
bench_sheet =
    record {
      line_1 = (refl, refl, refl);
      line_2 = refl;
      line_2_chip = refl;
      line_3 = (refl, refl);
      line_4 = refl;
      line_5 = (refl, refl);
      line_6 = (refl, refl);
      line_7 = (refl, refl, refl);
      line_8 = refl;
      line_9 = (refl, refl);
      line_10 = refl;
      line_11 = (refl, refl);
      line_12 = refl;
      line_13 = refl;
    }
