-- THE THREE DEMANDS, each whole, in the words of the person who asked for it (shared/DEMANDS.md). A line names a statement; the comment above it names the file
-- where that stands. `Requests` beside this file has what the later requests promise, `Claims` what else is claimed.
use Rattle.invariants.specs.Ticks.{TicksStayInRange, RefusedTicksChangeNothing, TicksLeaveBusyAtMost4}
use Rattle.run.specs.Run.{RunsAreTicks, SameUnderLargerBudget}
use Rattle.snapshot.specs.Snapshot.{ReadingUndoesWriting, WritingUndoesReading}
use Rattle.table.specs.Table.{AnswersByTheTable}
use Rattle.table.specs.Calls.{RegistersByTheTable, WritesByTheTable, ReadsByTheTable, RunsByTheTable, TickCallsByTheTable, RefusedTickCallsChangeNothing, RunCallsByTheTable}
use Rattle.source_decode.specs.RustDecode.{DecodesAsTheRust}
use Rattle.source.specs.Statement.{EqualsTheRust, RefusedExactlyWhereItPanics, CodeEqualsTheRust, InPlaceEqualsTheRust}
use Rattle.manual_opcodes.specs.Opcodes.{DecodesAsTheManual}
use Rattle.manual.specs.Statement.{EqualsTheManual, EqualsBySwitches, AdiwAlone, LoadsAlone, StoresAlone, SeiAlone, UnknownAlone, OutsideAlone, EndAlone, TargetAlone, PointersAlone, EqualsUnlessListed, ChipEqualsTheManual}
use Rattle.manual.specs.Witnesses.{Witnesses}
use Rattle.promises.specs.OneOutcome.{OneOutcome}
use Rattle.promises.specs.BenchSheet.{BenchSheet}
use Rattle.interrupts.specs.Interrupts.{InterruptsLeaveNoTrace, NoTraceAtTheEnd, RunsKeepTheRule, ThreeWaitsAfterReti}
use Rattle.interrupts.specs.Stamps.{StampsInOrder, FlagLost}

-- 1. "Every core, program, data memory and vector offer gets one answer from 01. A refused tick is named and changes neither core nor data."
pub record Demand1 : Type 1 where
  -- crates/table/specs/Table.antt: the answer is a number of 01's table exactly when its row's condition holds; one row holds
  pub tick : AnswersByTheTable
  -- crates/invariants/specs/Ticks.antt: a refused tick changes nothing; every core stays one
  pub refused : RefusedTicksChangeNothing
  pub in_range : TicksStayInRange
  pub busy : TicksLeaveBusyAtMost4
  -- crates/table/specs/Calls.antt: the same of 6, of 5 and 7 to 9, of 24, and of 10
  pub registers : RegistersByTheTable
  pub writing : WritesByTheTable
  pub reading : ReadsByTheTable
  pub run : RunsByTheTable
  pub tick_call : TickCallsByTheTable
  pub refused_call : RefusedTickCallsChangeNothing
  pub run_call : RunCallsByTheTable
  -- OneOutcome.antt: whatever meets a contract of this code is one outcome
  pub one_outcome : OneOutcome
  -- crates/snapshot/specs/Snapshot.antt
  pub reading_undoes_writing : ReadingUndoesWriting
  pub writing_undoes_reading : WritingUndoesReading
  -- BenchSheet.antt: 01's thirteen lines, and 02's
  pub bench_sheet : BenchSheet

-- 2. "Each tick from a core with busy at most 4 equals the Rust over 01's flat memories wherever a debug build of it would not panic, and equals a definition written
-- from the AVR Instruction Set Manual, the listed differences apart. A run equals such ticks one after another, as 01 defines it, its count included."
-- 02, W2: "From here on demand 2 means the Rust under source, and under chip the manual with the differences that remain listed for it".
pub record Demand2 : Type 0 where
  -- crates/source_decode/specs/RustDecode.antt, crates/source/specs/Statement.antt
  pub rust_decode : DecodesAsTheRust
  pub rust : EqualsTheRust
  pub panics : RefusedExactlyWhereItPanics
  pub rust_code : CodeEqualsTheRust
  pub rust_in_place : InPlaceEqualsTheRust
  -- crates/manual_opcodes/specs/Opcodes.antt, crates/manual/specs/Statement.antt
  pub manual_opcodes : DecodesAsTheManual
  pub manual : EqualsTheManual
  -- its listed differences, each alone, under source and under chip
  pub switches : EqualsBySwitches
  pub adiw : AdiwAlone
  pub loads : LoadsAlone
  pub stores : StoresAlone
  pub sei : SeiAlone
  pub unknown : UnknownAlone
  pub outside : OutsideAlone
  pub end : EndAlone
  pub target : TargetAlone
  pub pointers : PointersAlone
  -- and the manual itself, off the list of those that remain under the rule; the same under chip, with the list written out
  pub unless_listed : EqualsUnlessListed
  pub chip : ChipEqualsTheManual
  -- crates/manual/specs/Witnesses.antt
  pub witnesses : Witnesses
  -- crates/run/specs/Run.antt
  pub run : RunsAreTicks
  pub larger_budget : SameUnderLargerBudget

-- 3. "Take consecutive instructions from 01's register-only list, ending at or below PC 65,535, from a core neither busy nor in service. Run them with no vector
-- offered, and again with vectors offered at any ticks. If no tick refuses or stops, and each handler reaches its first RETI with registers and SREG as before its
-- entry, SP two lower and its return bytes intact, then on first reaching the end, not busy and not in service, both runs hold the same registers, SREG, SP and PC.
-- The second took exactly the handlers' ticks more, and only handlers and entries wrote data."
pub record Demand3 : Type 0 where
  -- crates/interrupts/specs/Interrupts.antt
  pub no_trace : InterruptsLeaveNoTrace
  pub no_trace_at_the_end : NoTraceAtTheEnd
  pub rule : RunsKeepTheRule
  pub three_waits : ThreeWaitsAfterReti
  -- crates/interrupts/specs/Stamps.antt: the two time stamps of the story, an interrupt between CP and CPC; and what a handler that loses a flag does to them
  pub stamps : StampsInOrder
  pub flag_lost : FlagLost
