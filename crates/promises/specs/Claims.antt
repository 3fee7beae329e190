-- WHAT ELSE IS CLAIMED of the base: every statement that README's table 'Proved' has beside the three demands and the requests of 02. A line names a statement; the comment
-- above it names the file where that stands.
use Rattle.instruction.specs.Fields.{FieldsInRange, SecondWordAlone}
use Rattle.invariants.specs.Instructions.{InstructionsStayInRange, InstructionsWaitAtMost3, OtherRegistersKept, RegisterOnlyKeepsTheRest, OnlyRetiAndSeiTouchTheFlags}
use Rattle.invariants.specs.Ticks.{TicksAnswerTickNumbers}
use Rattle.run.specs.Run.{EndsHaveTheirNumbers}
use Rattle.schedule.specs.Schedule.{ListsRefusedByNumber, StartsRefusedByNumber}
use Rattle.source.specs.Bench.{BenchOnTheRust, FreshCoresAreSound}
use Rattle.table.specs.Calls.{TickCallsWriteTheNextCore, RunCallsWriteTheLastCore}
use Rattle.tracing.specs.Trace.{Example, WholeTrace, CutTrace}

pub record Claims : Type 0 where
  -- crates/instruction/specs/Fields.antt: a decoded operand is in its field; only four instructions look at the second word
  pub fields : FieldsInRange
  pub second_word : SecondWordAlone
  -- crates/invariants/specs/Instructions.antt: what every instruction keeps
  pub instructions_in_range : InstructionsStayInRange
  pub instructions_wait : InstructionsWaitAtMost3
  pub other_registers : OtherRegistersKept
  pub register_only : RegisterOnlyKeepsTheRest
  pub flags : OnlyRetiAndSeiTouchTheFlags
  -- crates/invariants/specs/Ticks.antt: the numbers that a tick answers with
  pub tick_numbers : TicksAnswerTickNumbers
  -- crates/table/specs/Calls.antt: the snapshot after a call that is not refused
  pub tick_call_writes : TickCallsWriteTheNextCore
  pub run_call_writes : RunCallsWriteTheLastCore
  -- crates/run/specs/Run.antt: how a run ended, as the code says it, has the number that it answers with
  pub ends_numbered : EndsHaveTheirNumbers
  -- crates/schedule/specs/Schedule.antt: why a list is not run, as the code says it, has the number of the check that refused
  pub lists_refused : ListsRefusedByNumber
  pub starts_refused : StartsRefusedByNumber
  -- crates/tracing/specs/Trace.antt: 01's example; that the program's buffers cut off no trace, and no input that counts
  pub trace_example : Example
  pub whole_trace : WholeTrace
  pub cut_trace : CutTrace
  -- crates/source/specs/Bench.antt: 01's bench sheet on the Rust's definition
  pub bench_on_the_rust : BenchOnTheRust
  pub fresh_cores : FreshCoresAreSound
