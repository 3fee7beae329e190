-- What the later requests promise holds.
-- Assumes nothing.
use Rattle.tick.proofs.Foretold.{foretold}
use Rattle.run.proofs.Told.{told_runs}
use Rattle.run.proofs.Waits.{waits_out}
use Rattle.run.proofs.Onward.{ran_goes_on}
use Rattle.invariants.proofs.Controls.{instructions_keep_the_rule, pointers_wait_by_the_rule}
use Rattle.invariants.proofs.Rule.{ticks_keep_the_rule, rules_differ_where_asked}
use Rattle.sampling.proofs.Sampling.{safe_after_sei, sampling_routine}
use Rattle.snapshot.proofs.RoundTrips.{old_snapshots_read_unchanged}
use Rattle.manual.proofs.Witnesses.{agreements}
use Rattle.latency.proofs.Entry.{entry_within_eight, entry_behind_the_waits}
use Rattle.latency.proofs.Runs.{runs_enter_within_eight}
use Rattle.latency.proofs.Schedule.{schedule_enters_within_eight, at_most_seven_late}
use Rattle.latency.proofs.Computed.{eight_is_the_figure}
use Rattle.latency.proofs.Cycles.{ticks_by_the_table, instructions_run_for_their_ticks}
use Rattle.latency.proofs.Manual.{manual_beside}
use Rattle.encode.proofs.Computed as words
use Rattle.round_trip.proofs.Round.{encodes_what_was_decoded, no_two_alike, decodes_what_was_encoded, refuses_exactly}
use Rattle.listing.proofs.Joined.{words_are_the_program}
use Rattle.listing.proofs.Decoded.{lines_are_decoded}
use Rattle.listing.proofs.Whole.{whole_listing}
use Rattle.listing.proofs.Cut.{cut_listing}
use Rattle.listing.proofs.Example.{example}
use Rattle.comparisons.proofs.Comparisons.{compares_any_width, none_enters_exactly, compares_with_handlers, compares_with_handlers_at_the_end, comparisons_are_stretches}
use Rattle.comparisons.proofs.Branches.{branches_as_asked, branches_behind_a_handler}
use Rattle.comparisons.proofs.Stamps.{four_bytes, stamps_told}
use Rattle.table_decode.proofs.Alike.{decodes_alike, ticks_alike, runs_alike}
use Rattle.intel_hex.proofs.Exactly.{each_number_exactly}
use Rattle.intel_hex.proofs.GivenBack.{given_back}
use Rattle.intel_hex.proofs.Unchanged.{refused_read_lem, refused_write}
use Rattle.intel_hex.proofs.Once.{named_at_most_once}
use Rattle.intel_hex.proofs.EachByte.{each_byte}
use Rattle.intel_hex.proofs.Whole.{length_text}
use Rattle.intel_hex.proofs.Computed.{examples}
use Rattle.schedule.proofs.Laws.{schedules_are_ticks, numbers_written, empty_list_is_a_run, same_schedule_under_larger_budget}
use Rattle.schedule.proofs.InSteps.{runs_in_steps}
use Rattle.schedule_text.proofs.Laws.{text_listed}
use Rattle.schedule_text.proofs.Examples as texts
use Rattle.rerunning.proofs.Whole.{whole_rerun}
use Rattle.rerunning.proofs.Cut.{cut_rerun}
use Rattle.rerunning.proofs.Joined.{joined_input}
use Rattle.rerunning.proofs.Steps.{rerun_in_steps}
use Rattle.table.proofs.Schedules.{schedule_calls_by_the_table}
use Rattle.promises.proofs.Schedules.{schedules_leave_no_trace}
use Rattle.promises.proofs.ScheduledStamps.{stamps_by_a_schedule}
use Rattle.promises.specs.Requests.{Requests}

pub requests : Requests
requests =
    record {
      hex_numbers = each_number_exactly;
      hex_given_back = given_back;
      hex_refused_read = refused_read_lem;
      hex_refused_write = refused_write;
      hex_named_once = named_at_most_once;
      hex_each_byte = each_byte;
      hex_text_length = length_text;
      hex_examples = examples;
      instructions_rule = instructions_keep_the_rule;
      ticks_rule = ticks_keep_the_rule;
      rules_differ = rules_differ_where_asked;
      old_snapshots = old_snapshots_read_unchanged;
      agreements = agreements;
      pointer_waits = pointers_wait_by_the_rule;
      after_sei = safe_after_sei;
      sampling = sampling_routine;
      schedule_ticks = schedules_are_ticks;
      schedule_numbers = numbers_written;
      schedule_empty = empty_list_is_a_run;
      schedule_larger_budget = same_schedule_under_larger_budget;
      schedule_calls = schedule_calls_by_the_table;
      schedule_no_trace = schedules_leave_no_trace;
      schedule_stamps = stamps_by_a_schedule;
      within_eight = entry_within_eight;
      behind_the_waits = entry_behind_the_waits;
      run_within_eight = runs_enter_within_eight;
      schedule_within_eight = schedule_enters_within_eight;
      seven_late = at_most_seven_late;
      eight = eight_is_the_figure;
      ticks_by_the_table = ticks_by_the_table;
      instruction_ticks = instructions_run_for_their_ticks;
      manual_cycles = manual_beside;
      foretold = foretold;
      encodes_what_was_decoded = encodes_what_was_decoded;
      no_two_alike = no_two_alike;
      decodes_what_was_encoded = decodes_what_was_encoded;
      encode_refusals = refuses_exactly;
      encode_examples = words.examples;
      listing_words = words_are_the_program;
      listing_decoded = lines_are_decoded;
      whole_listing = whole_listing;
      cut_listing = cut_listing;
      listing_example = example;
      compares = compares_any_width;
      none_enters = none_enters_exactly;
      compares_with_handlers = compares_with_handlers;
      compares_with_handlers_at_the_end = compares_with_handlers_at_the_end;
      comparisons_are_stretches = comparisons_are_stretches;
      branches_as_asked = branches_as_asked;
      branches_behind_a_handler = branches_behind_a_handler;
      four_bytes = four_bytes;
      stamps_told = stamps_told;
      decodes_alike = decodes_alike;
      ticks_alike = ticks_alike;
      runs_alike = runs_alike;
      carried_out = told_runs;
      waits_at_once = waits_out;
      ran_goes_on = ran_goes_on;
      schedule_text = text_listed;
      schedule_text_examples = texts.examples;
      schedule_in_steps = runs_in_steps;
      whole_rerun = whole_rerun;
      cut_rerun = cut_rerun;
      joined_input = joined_input;
      rerun_in_steps = rerun_in_steps;
    }
