-- The examples, computed.
-- Assumes nothing.
use mathlib.Core.Path.{refl}
use native.Mathlib.Nat.{not-suc-le-zero}
use native.Mathlib.Omega.{arith}
use Rattle.basis.specs.Bit.{bit, put}
use Rattle.instruction.specs.Decode.{decode_of, mulsu_to_fmulsu_of, nop_to_add_of, word_immediate_of, one_register_of, control_of}
use Rattle.memory.specs.Memory.{program_word_of, has_word_of}
use Rattle.cores.specs.State.{fresh_of, with_reg, with_pc, with_sp, with_busy, with_inhibit, with_service, with_chip, cznvs, znvs}
use Rattle.tick.specs.Tick.{stepped, enters_or_steps, ticked}
use Rattle.run.specs.Run.{ran}
use Rattle.schedule.specs.Schedule.{scheduled}
use Rattle.schedule.specs.Laws.{after_by}
use Rattle.latency.specs.Examples.{EightIsTheFigure}

pub eight_is_the_figure : EightIsTheFigure
unfolding ticked enters_or_steps stepped ran scheduled after_by program_word_of has_word_of decode_of mulsu_to_fmulsu_of nop_to_add_of word_immediate_of one_register_of control_of fresh_of with_reg with_pc with_sp with_busy with_inhibit with_service with_chip cznvs znvs bit put
eight_is_the_figure =
    record {
      needs_eight = record { premises_so = refl; answers_so = refl };
      busy_4 = record { premises_so = refl; answers_so = refl };
      in_service = record { premises_so = refl; answers_so = refl };
      not_offered = record { premises_so = refl; answers_so = refl };
      i_cleared = record { premises_so = refl; answers_so = refl };
      refused = record { premises_so = refl; answers_so = refl };
      reti_runs = record { premises_so = refl; answers_so = refl };
      sei_under_chip = record { premises_so = refl; answers_so = refl };
      sei_under_source = record { premises_so = refl; answers_so = refl };
      run_answers = refl;
      run_counts = refl;
      run_in_service = refl;
      waiting = record {
        rises = refl;
        of_list = omega arith;
        reached = omega arith;
        in_budget = omega arith;
        due = omega arith;
        others = λ earlier g. absurd (not-suc-le-zero g);
        waits = record { brief = refl; outside = refl; enabled = refl; goes_on = refl; no_reti = refl; no_sei = refl };
      };
      seven_late = refl;
      stops_first = refl;
      four_ticks = refl;
      two_ticks = refl;
    }
