-- The tables of specs/Witnesses.antt, computed.
-- Assumes nothing.
use mathlib.Core.Path.{refl}
use mathlib.Core.Bool.{Bool, true, false}
use Rattle.basis.specs.Bit.{bit, put}
use Rattle.instruction.specs.Decode.{decode_of, nop_to_add_of, mulsu_to_fmulsu_of, cpse_to_adc_of, and_to_mov_of, immediate_of, displaced_of, load_of, store_of, one_register_of, control_of, indirect_of, word_immediate_of, port_bit_of, port_of, relative_of, branch_or_bit_of, register_bit_of}
use Rattle.memory.specs.Memory.{program_word_of, has_word_of}
use Rattle.patterns.specs.Pattern.{matched}
use Rattle.rule.specs.Rule.{load_waits, store_waits}
use Rattle.cores.specs.State.{fresh_of, with_reg, with_pc, with_sp, with_busy, with_inhibit, with_chip, znvs, cznvs}
use Rattle.cores.specs.Transfer.{reach_of, data_of, set_data_of, pointed_of, word_if}
use Rattle.tick.specs.Tick as paper
use Rattle.tick.specs.Tick.{stepped, ticked}
use Rattle.manual_opcodes.specs.Opcodes.{arms, manual_decode}
use Rattle.manual.specs.Notation.{zero8, row, bit_to, next, goes}
use Rattle.manual.specs.Pointers.{load, load_inc, store}
use Rattle.manual.specs.AdcToCpse.{adiw, break, bset}
use Rattle.manual.specs.DecToLsr.{jmp, lds, lpm}
use Rattle.manual.specs.MovToRor.{pop, push}
use Rattle.manual.specs.SbcToWdr.{sleep, sts, wdr}
use Rattle.manual.specs.Tick.{step, enters_or_steps, tick_by}
use Rattle.manual.specs.Witnesses.{Remaining, Witnesses, Agreements}

remaining : (chip : Bool) → Remaining chip
unfolding load_waits store_waits bit put decode_of nop_to_add_of mulsu_to_fmulsu_of cpse_to_adc_of and_to_mov_of immediate_of displaced_of load_of store_of one_register_of control_of indirect_of word_immediate_of port_bit_of port_of relative_of branch_or_bit_of register_bit_of program_word_of has_word_of matched fresh_of with_reg with_pc with_busy with_inhibit with_chip znvs cznvs reach_of data_of set_data_of pointed_of word_if paper.enters_or_steps stepped ticked arms manual_decode zero8 row bit_to next goes load load_inc store break bset jmp sleep wdr step enters_or_steps tick_by
remaining chip =
    record {
      unknown_word = record { by_manual = refl; by_port = refl };
      sleep = record { by_manual = refl; by_port = refl };
      wdr = record { by_manual = refl; by_port = refl };
      break = record { by_manual = refl; by_port = refl };
      at_the_end = record { by_manual = refl; by_port = refl };
      jmp = record { by_manual = refl; by_port = refl };
      stepped = record { by_manual = refl; by_port = refl };
    }

pub witnesses : Witnesses
unfolding load_waits store_waits bit put decode_of nop_to_add_of mulsu_to_fmulsu_of cpse_to_adc_of and_to_mov_of immediate_of displaced_of load_of store_of one_register_of control_of indirect_of word_immediate_of port_bit_of port_of relative_of branch_or_bit_of register_bit_of program_word_of has_word_of matched fresh_of with_reg with_pc with_busy with_inhibit with_chip znvs cznvs reach_of data_of set_data_of pointed_of word_if paper.enters_or_steps stepped ticked arms manual_decode zero8 row bit_to next goes load load_inc store adiw break bset jmp sleep wdr step enters_or_steps tick_by
witnesses =
    record {
      adiw = record { by_manual = refl; by_port = refl };
      load = record { by_manual = refl; by_port = refl };
      store = record { by_manual = refl; by_port = refl };
      sei = record { by_manual = refl; by_port = refl };
      source = remaining false;
      chip = remaining true;
    }

pub agreements : Agreements
unfolding load_waits store_waits bit put decode_of nop_to_add_of mulsu_to_fmulsu_of cpse_to_adc_of and_to_mov_of immediate_of displaced_of load_of store_of one_register_of control_of indirect_of word_immediate_of port_bit_of port_of relative_of branch_or_bit_of register_bit_of program_word_of has_word_of matched fresh_of with_reg with_pc with_busy with_inhibit with_chip znvs cznvs reach_of data_of set_data_of pointed_of word_if paper.enters_or_steps stepped ticked arms manual_decode zero8 row bit_to next goes load load_inc store adiw break bset jmp sleep wdr step enters_or_steps tick_by with_sp lds lpm pop push sts
agreements =
    record {
      adiw = record { by_manual = refl; by_port = refl };
      load = record { by_manual = refl; by_port = refl };
      store = record { by_manual = refl; by_port = refl };
      sei = record { by_manual = refl; by_port = refl };
      lds = λ chip. record { by_manual = refl; by_port = refl };
      lpm = λ chip. record { by_manual = refl; by_port = refl };
      pop = λ chip. record { by_manual = refl; by_port = refl };
      push = λ chip. record { by_manual = refl; by_port = refl };
      sts = λ chip. record { by_manual = refl; by_port = refl };
    }
