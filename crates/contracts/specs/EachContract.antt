-- THE CONTRACTS that README claims: the function meets the `ensures` that stands above its body, on the language's machine. `statement` is the kit's own word for that;
-- the comment above a line names the file where the contract stands.
use Rattle.instruction.proofs.Instruction.decode.Statement as decode
use Rattle.cores.proofs.Core.fresh.Statement as fresh
use Rattle.cores.proofs.Core.set_chip.Statement as set_chip
use Rattle.tick.proofs.decide.Statement as decide
use Rattle.tick.proofs.carry_out.Statement as carry_out
use Rattle.tick.proofs.Plan.answer.Statement as answer
use Rattle.tick.proofs.foretell.Statement as foretell
use Rattle.tick.proofs.tick.Statement as tick
use Rattle.tick.proofs.tick_in_place.Statement as tick_in_place
use Rattle.run.proofs.run.Statement as run
use Rattle.run.proofs.tick_number_in.Statement as tick_number_in
use Rattle.run.proofs.tick_in.Statement as tick_in
use Rattle.run.proofs.run_in.Statement as run_in
use Rattle.schedule.proofs.run.Statement as schedule_run
use Rattle.schedule.proofs.run_in.Statement as schedule_run_in
use Rattle.schedule.proofs.go_on.Statement as schedule_go_on
use Rattle.snapshot.proofs.write.Statement as write
use Rattle.snapshot.proofs.read.Statement as read
use Rattle.host.proofs.avr_tick.Statement as avr_tick
use Rattle.host.proofs.avr_foretell.Statement as avr_foretell
use Rattle.host.proofs.avr_run.Statement as avr_run
use Rattle.host.proofs.avr_run_schedule.Statement as avr_run_schedule
use Rattle.tracing.proofs.trace.Statement as trace
use Rattle.encode.proofs.encode.Statement as encode
use Rattle.listing.proofs.list.Statement as list
use Rattle.schedule_text.proofs.read.Statement as schedule_text_read
use Rattle.rerunning.proofs.rerun.Statement as rerun
use Rattle.intel_hex.proofs.check.check.Statement as hex_check
use Rattle.intel_hex.proofs.read.Statement as hex_read
use Rattle.intel_hex.proofs.write.Statement as hex_write
use Rattle.host.proofs.avr_hex_read.Statement as avr_hex_read
use Rattle.host.proofs.avr_hex_write.Statement as avr_hex_write
use Rattle.forms.proofs.form_of.Statement as form_of
use Rattle.word_form.proofs.form_of.Statement as word_form
use Rattle.word_form.proofs.has_second.Statement as has_second
use Rattle.registers.proofs.change.Statement as change
use Rattle.effects.proofs.effect.Statement as effect
use Rattle.form_table.proofs.forms.Statement as forms
use Rattle.table_decode.proofs.instruction_of.Statement as instruction_of
use Rattle.table_decode.proofs.decode.Statement as table_decode
use Rattle.by_types.proofs.slice.Statement as slice
use Rattle.by_types.proofs.core.Statement as core

pub record Contracts : Type 2 where
  -- crates/instruction/src/decode.rt
  pub decode : {M : Type 1} → decode.statement M
  -- crates/cores/src/lib.rt
  pub fresh : {M : Type 1} → fresh.statement M
  pub set_chip : {M : Type 1} → set_chip.statement M
  -- crates/tick/src/deciding.rt
  pub decide : {M : Type 1} → decide.statement M
  -- crates/tick/src/carrying.rt
  pub carry_out : {M : Type 1} → carry_out.statement M
  -- crates/tick/src/answering.rt
  pub answer : {M : Type 1} → answer.statement M
  -- crates/tick/src/lib.rt
  pub foretell : {M : Type 1} → foretell.statement M
  pub tick : {M : Type 1} → tick.statement M
  pub tick_in_place : {M : Type 1} → tick_in_place.statement M
  -- crates/run/src/lib.rt
  pub run : {M : Type 1} → run.statement M
  -- crates/run/src/over.rt
  pub tick_number_in : {M : Type 1} → tick_number_in.statement M
  pub tick_in : {M : Type 1} → tick_in.statement M
  pub run_in : {M : Type 1} → run_in.statement M
  -- crates/schedule/src/lib.rt
  pub schedule_run : {M : Type 1} → schedule_run.statement M
  pub schedule_run_in : {M : Type 1} → schedule_run_in.statement M
  pub schedule_go_on : {M : Type 1} → schedule_go_on.statement M
  -- crates/snapshot/src/lib.rt
  pub write : {M : Type 1} → write.statement M
  pub read : {M : Type 1} → read.statement M
  -- crates/host/src/lib.rt
  pub avr_tick : {M : Type 1} → avr_tick.statement M
  pub avr_foretell : {M : Type 1} → avr_foretell.statement M
  pub avr_run : {M : Type 1} → avr_run.statement M
  -- crates/host/src/schedules.rt
  pub avr_run_schedule : {M : Type 1} → avr_run_schedule.statement M
  -- crates/tracing/src/lib.rt
  pub trace : {M : Type 1} → trace.statement M
  -- crates/encode/src/lib.rt
  pub encode : {M : Type 1} → encode.statement M
  -- crates/listing/src/lib.rt
  pub list : {M : Type 1} → list.statement M
  -- crates/schedule_text/src/lib.rt
  pub schedule_text_read : {M : Type 1} → schedule_text_read.statement M
  -- crates/rerunning/src/lib.rt
  pub rerun : {M : Type 1} → rerun.statement M
  -- crates/intel_hex/src/check.rt
  pub hex_check : {M : Type 1} → hex_check.statement M
  -- crates/intel_hex/src/lib.rt
  pub hex_read : {M : Type 1} → hex_read.statement M
  pub hex_write : {M : Type 1} → hex_write.statement M
  -- crates/host/src/hex_files.rt
  pub avr_hex_read : {M : Type 1} → avr_hex_read.statement M
  pub avr_hex_write : {M : Type 1} → avr_hex_write.statement M
  -- crates/forms/src/lib.rt
  pub form_of : {M : Type 1} → form_of.statement M
  -- crates/word_form/src/lib.rt
  pub word_form : {M : Type 1} → word_form.statement M
  pub has_second : {M : Type 1} → has_second.statement M
  -- crates/registers/src/lib.rt
  pub change : {M : Type 1} → change.statement M
  -- crates/effects/src/lib.rt
  pub effect : {M : Type 1} → effect.statement M
  -- crates/form_table/src/lib.rt
  pub forms : {M : Type 1} → forms.statement M
  -- crates/table_decode/src/lib.rt
  pub instruction_of : {M : Type 1} → instruction_of.statement M
  pub table_decode : {M : Type 1} → table_decode.statement M
  -- crates/by_types/src/lib.rt
  pub slice : {M : Type 1} → slice.statement M
  pub core : {M : Type 1} → core.statement M
