-- The three demands hold.
-- Assumes nothing.
use Rattle.invariants.proofs.Ticks.{ticks_stay_in_range, refused_ticks_change_nothing, ticks_leave_busy_at_most_4}
use Rattle.run.proofs.Larger.{same_under_larger_budget}
use Rattle.run.proofs.Ticks.{runs_are_ticks}
use Rattle.snapshot.proofs.RoundTrips.{reading_undoes_writing, writing_undoes_reading}
use Rattle.table.proofs.Table.{answers_by_the_table}
use Rattle.table.proofs.Calls.{registers_by_the_table, writes_by_the_table, reads_by_the_table, runs_by_the_table}
use Rattle.table.proofs.HostCalls.{tick_calls_by_the_table, refused_tick_calls_change_nothing, run_calls_by_the_table}
use Rattle.source_decode.proofs.Decodes.{decodes_as_the_rust}
use Rattle.source.proofs.Source.{equals_the_rust, refused_exactly_where_it_panics, code_equals_the_rust, in_place_equals_the_rust}
use Rattle.manual_opcodes.proofs.Decodes.{decodes_as_the_manual}
use Rattle.manual.proofs.Manual.{equals_the_manual, equals_by_switches, adiw_alone, loads_alone, stores_alone, sei_alone, unknown_alone, outside_alone, target_alone, pointers_alone, equals_unless_listed, chip_equals_the_manual}
use Rattle.manual.proofs.End.{end_alone}
use Rattle.manual.proofs.Witnesses.{witnesses}
use Rattle.promises.specs.Demands.{Demand1, Demand2, Demand3}
use Rattle.promises.proofs.OneOutcome.{one_outcome}
use Rattle.promises.proofs.BenchSheet.{bench_sheet}
use Rattle.interrupts.proofs.Interrupts.{interrupts_leave_no_trace, no_trace_at_the_end, runs_keep_the_rule, three_waits_after_reti}
use Rattle.interrupts.proofs.Stamps.{stamps_in_order, flag_lost}

pub demand1 : Demand1
demand1 =
    record {
      tick = answers_by_the_table;
      refused = refused_ticks_change_nothing;
      registers = registers_by_the_table;
      writing = writes_by_the_table;
      reading = reads_by_the_table;
      run = runs_by_the_table;
      tick_call = tick_calls_by_the_table;
      refused_call = refused_tick_calls_change_nothing;
      run_call = run_calls_by_the_table;
      one_outcome = one_outcome;
      in_range = ticks_stay_in_range;
      busy = ticks_leave_busy_at_most_4;
      reading_undoes_writing = reading_undoes_writing;
      writing_undoes_reading = writing_undoes_reading;
      bench_sheet = bench_sheet;
    }

pub demand2 : Demand2
demand2 =
    record {
      rust_decode = decodes_as_the_rust;
      rust = equals_the_rust;
      panics = refused_exactly_where_it_panics;
      rust_code = code_equals_the_rust;
      rust_in_place = in_place_equals_the_rust;
      manual_opcodes = decodes_as_the_manual;
      manual = equals_the_manual;
      switches = equals_by_switches;
      adiw = adiw_alone;
      loads = loads_alone;
      stores = stores_alone;
      sei = sei_alone;
      unknown = unknown_alone;
      outside = outside_alone;
      end = end_alone;
      target = target_alone;
      pointers = pointers_alone;
      unless_listed = equals_unless_listed;
      chip = chip_equals_the_manual;
      witnesses = witnesses;
      run = runs_are_ticks;
      larger_budget = same_under_larger_budget;
    }

pub demand3 : Demand3
demand3 =
    record {
      no_trace = interrupts_leave_no_trace;
      no_trace_at_the_end = no_trace_at_the_end;
      rule = runs_keep_the_rule;
      three_waits = three_waits_after_reti;
      stamps = stamps_in_order;
      flag_lost = flag_lost;
    }
