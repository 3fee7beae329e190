-- What else is claimed of the base holds.
-- Assumes nothing.
use Rattle.instruction.proofs.Laws.{fields_in_range, second_word_alone}
use Rattle.invariants.proofs.Ranges.{instructions_stay_in_range}
use Rattle.invariants.proofs.Waits.{instructions_wait_at_most_3}
use Rattle.invariants.proofs.Registers.{other_registers_kept, register_only_keeps_the_rest}
use Rattle.invariants.proofs.Ticks.{ticks_answer_tick_numbers}
use Rattle.run.proofs.Ends.{ends_have_their_numbers}
use Rattle.schedule.proofs.Refusals.{lists_refused_by_number, starts_refused_by_number}
use Rattle.invariants.proofs.Controls.{only_reti_and_sei_touch_the_flags}
use Rattle.source.proofs.Bench.{bench_on_the_rust, fresh_cores_are_sound}
use Rattle.table.proofs.HostCalls.{tick_calls_write_the_next_core, run_calls_write_the_last_core}
use Rattle.tracing.proofs.Example.{example}
use Rattle.tracing.proofs.Whole.{whole_trace}
use Rattle.tracing.proofs.Cut.{cut_trace}
use Rattle.promises.specs.Claims.{Claims}

pub claims : Claims
claims =
    record {
      fields = fields_in_range;
      second_word = second_word_alone;
      instructions_in_range = instructions_stay_in_range;
      instructions_wait = instructions_wait_at_most_3;
      other_registers = other_registers_kept;
      register_only = register_only_keeps_the_rest;
      flags = only_reti_and_sei_touch_the_flags;
      tick_numbers = ticks_answer_tick_numbers;
      tick_call_writes = tick_calls_write_the_next_core;
      run_call_writes = run_calls_write_the_last_core;
      ends_numbered = ends_have_their_numbers;
      lists_refused = lists_refused_by_number;
      starts_refused = starts_refused_by_number;
      trace_example = example;
      whole_trace = whole_trace;
      cut_trace = cut_trace;
      bench_on_the_rust = bench_on_the_rust;
      fresh_cores = fresh_cores_are_sound;
    }
