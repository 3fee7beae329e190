-- WHAT THE LATER REQUESTS PROMISE (shared/02-change-requests.md), in their order. A line names a statement; the comment above it names the file where that stands. W3 promises
-- nothing of its own: its functions meet their contracts.
use Rattle.tick.specs.Plan.{TickIsTheTwoInTurn}
use Rattle.run.specs.Ready.{CarriedOutIsTheTick}
use Rattle.run.specs.Lent.{WaitsAtOnce, RanGoesOn}
use Rattle.invariants.specs.Rule.{InstructionsKeepTheRule, TicksKeepTheRule, RulesDifferWhereAsked, PointersWaitByTheRule}
use Rattle.sampling.specs.Sampling.{SafeAfterSei, SamplingRoutine}
use Rattle.snapshot.specs.Snapshot.{OldSnapshotsReadUnchanged}
use Rattle.manual.specs.Witnesses.{Agreements}
use Rattle.table.specs.Schedules.{ScheduleCallsByTheTable}
use Rattle.schedule.specs.Laws.{SchedulesAreTicks, NumbersWritten, EmptyListIsARun, SameScheduleUnderLargerBudget, RunsInSteps}
use Rattle.schedule_text.specs.Laws.{TextListed}
use Rattle.schedule_text.specs.Examples as texts
use Rattle.rerunning.specs.Laws.{WholeRerun, CutRerun, JoinedInput, RerunInSteps}
use Rattle.latency.specs.Entry.{EntryWithinEight, EntryBehindTheWaits, RunsEnterWithinEight, ScheduleEntersWithinEight, AtMostSevenLate}
use Rattle.latency.specs.Examples.{EightIsTheFigure}
use Rattle.latency.specs.Cycles.{TicksByTheTable, InstructionsRunForTheirTicks, ManualBeside}
use Rattle.encode.specs.Examples as words
use Rattle.round_trip.specs.RoundTrip.{EncodesWhatWasDecoded, NoTwoAlike, DecodesWhatWasEncoded, RefusesExactly}
use Rattle.listing.specs.Laws.{WordsAreTheProgram, LinesAreDecoded, WholeListing, CutListing, Example}
use Rattle.comparisons.specs.Comparisons.{ComparesAnyWidth, NoneEntersExactly, ComparesWithHandlers, ComparesWithHandlersAtTheEnd, ComparisonsAreStretches, BranchesAsAsked, BranchesBehindAHandler}
use Rattle.comparisons.specs.Stamps.{FourBytes, StampsTold}
use Rattle.table_decode.specs.Alike.{DecodesAlike, TicksAlike, RunsAlike}
use Rattle.intel_hex.specs.Answers.{EachNumberExactly}
use Rattle.intel_hex.specs.Promises.{WritingIsGivenBack, RefusedReadChangesNothing, RefusedWriteChangesNothing, NamedAtMostOnce, EachByteOfAFileRead, TextLength}
use Rattle.intel_hex.specs.Examples.{Examples}
use Rattle.promises.specs.Schedules.{SchedulesLeaveNoTrace, StampsByASchedule}

pub record Requests : Type 0 where
  -- ---- W1. HEX files
  -- crates/intel_hex/specs/Answers.antt: each of 02's numbers 50 to 57 exactly where its condition holds, and at which line
  pub hex_numbers : EachNumberExactly
  -- crates/intel_hex/specs/Promises.antt: what the writer made is given back; refused, nothing changes; no byte is named twice; what each byte then is; how long a text is
  pub hex_given_back : WritingIsGivenBack
  pub hex_refused_read : RefusedReadChangesNothing
  pub hex_refused_write : RefusedWriteChangesNothing
  pub hex_named_once : NamedAtMostOnce
  pub hex_each_byte : EachByteOfAFileRead
  pub hex_text_length : TextLength
  -- crates/intel_hex/specs/Examples.antt: small files
  pub hex_examples : Examples
  -- ---- W2. The rule
  -- crates/invariants/specs/Rule.antt: the rule, source or chip: nothing changes it, and ADIW, pointer access and SEI alone ask for it
  pub instructions_rule : InstructionsKeepTheRule
  pub ticks_rule : TicksKeepTheRule
  pub rules_differ : RulesDifferWhereAsked
  -- crates/snapshot/specs/Snapshot.antt: what read before there was a rule reads the same, with rule source
  pub old_snapshots : OldSnapshotsReadUnchanged
  -- crates/manual/specs/Witnesses.antt: by the manual with every switch off, what chip does its way, and the waits of what goes by no pointer
  pub agreements : Agreements
  -- ---- W4. The chip's timing
  -- crates/invariants/specs/Rule.antt: pointer access waits as the rule has it
  pub pointer_waits : PointersWaitByTheRule
  -- crates/sampling/specs/Sampling.antt: under chip the instruction behind SEI runs before any entry; a sampling routine under both rules
  pub after_sei : SafeAfterSei
  pub sampling : SamplingRoutine
  -- ---- W5. An interrupt schedule
  -- crates/schedule/specs/Laws.antt: a run by a list equals single ticks with its offers, and each number is the tick of an entry; the output; an empty list; a larger budget
  pub schedule_ticks : SchedulesAreTicks
  pub schedule_numbers : NumbersWritten
  pub schedule_empty : EmptyListIsARun
  pub schedule_larger_budget : SameScheduleUnderLargerBudget
  -- crates/table/specs/Schedules.antt: each of 02's numbers 30 to 32 exactly where its condition holds; refused, nothing changes
  pub schedule_calls : ScheduleCallsByTheTable
  -- Schedules.antt: demand 3 by a list, and the two time stamps run by one
  pub schedule_no_trace : SchedulesLeaveNoTrace
  pub schedule_stamps : StampsByASchedule
  -- ---- W6. How long a waiting interrupt can wait
  -- crates/latency/specs/Entry.antt: it is entered at or before the eighth tick, in a run of eight or more too; a record of a schedule so from any tick on, and at most seven ticks later than due
  pub within_eight : EntryWithinEight
  pub behind_the_waits : EntryBehindTheWaits
  pub run_within_eight : RunsEnterWithinEight
  pub schedule_within_eight : ScheduleEntersWithinEight
  pub seven_late : AtMostSevenLate
  -- crates/latency/specs/Examples.antt: a run that needs all eight, and for each premise one that it alone is lacking in
  pub eight : EightIsTheFigure
  -- crates/latency/specs/Cycles.antt: an instruction and its waits take the ticks of a table, four at most and two of a register-only one; the manual's cycles beside
  pub ticks_by_the_table : TicksByTheTable
  pub instruction_ticks : InstructionsRunForTheirTicks
  pub manual_cycles : ManualBeside
  -- ---- W7. What the next tick will do
  -- crates/tick/specs/Plan.antt: what is foretold is what the tick then gives, and carrying it out leaves the tick's core and data
  pub foretold : TickIsTheTwoInTurn
  -- ---- W8. Words from instructions, and a listing
  -- crates/round_trip/specs/RoundTrip.antt: encoding and decoding are each other's way back; 33 and 34 exactly when
  pub encodes_what_was_decoded : EncodesWhatWasDecoded
  pub no_two_alike : NoTwoAlike
  pub decodes_what_was_encoded : DecodesWhatWasEncoded
  pub encode_refusals : RefusesExactly
  -- crates/encode/specs/Examples.antt: some instructions with their words, and some that have none
  pub encode_examples : words.Examples
  -- crates/listing/specs/Laws.antt: the lines' words are the program; each line's instruction is what is decoded there; the program's buffers cut off no listing and no input that counts; the example
  pub listing_words : WordsAreTheProgram
  pub listing_decoded : LinesAreDecoded
  pub whole_listing : WholeListing
  pub cut_listing : CutListing
  pub listing_example : Example
  -- ---- W9. Comparisons of any width
  -- crates/comparisons/specs/Comparisons.antt: CP and CPCs tell less, equal and signed less of two numbers, of any width and in any registers, with no interrupt entered, which is seen at the start, and with
  -- handlers between, since each is a stretch of demand 3; and the branch behind is taken exactly as asked, also with a handler before it
  pub compares : ComparesAnyWidth
  pub none_enters : NoneEntersExactly
  pub compares_with_handlers : ComparesWithHandlers
  pub compares_with_handlers_at_the_end : ComparesWithHandlersAtTheEnd
  pub comparisons_are_stretches : ComparisonsAreStretches
  pub branches_as_asked : BranchesAsAsked
  pub branches_behind_a_handler : BranchesBehindAHandler
  -- crates/comparisons/specs/Stamps.antt: stamps of four bytes, an interrupt at each place
  pub four_bytes : FourBytes
  pub stamps_told : StampsTold
  -- ---- W10. Decode by table
  -- crates/table_decode/specs/Alike.antt: by the table every word is decoded as before, and no tick and no run can tell which decoder was used
  pub decodes_alike : DecodesAlike
  pub ticks_alike : TicksAlike
  pub runs_alike : RunsAlike
  -- ---- The fast run, which 02 does not ask for
  -- crates/run/specs/Ready.antt, Lent.antt: over lent registers what is carried out is the tick's step, waits at once are that many ticks, and what remains is the rest of the same run
  pub carried_out : CarriedOutIsTheTick
  pub waits_at_once : WaitsAtOnce
  pub ran_goes_on : RanGoesOn
  -- ---- The main job, `rerun` (docs/RERUN.md), which 02 does not ask for
  -- crates/schedule_text/specs/Laws.antt, Examples.antt: what is read from a schedule's text is a list that W5's run takes, with the records that the text says; small texts
  pub schedule_text : TextListed
  pub schedule_text_examples : texts.Examples
  -- crates/schedule/specs/Laws.antt: a run by a list, taken up where its budget had ended, is the run that the whole budget gives
  pub schedule_in_steps : RunsInSteps
  -- crates/rerunning/specs/Laws.antt: the program's buffers cut off no output and no input that counts; it reads the parts that are joined to an input; a rerun in steps is the rerun
  pub whole_rerun : WholeRerun
  pub cut_rerun : CutRerun
  pub joined_input : JoinedInput
  pub rerun_in_steps : RerunInSteps
