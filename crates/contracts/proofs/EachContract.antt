-- The contracts are met, each by the proof of its function.
-- Assumes nothing.
use Rattle.instruction.proofs.Instruction.decode.Met as decode
use Rattle.cores.proofs.Core.fresh.Met as fresh
use Rattle.cores.proofs.Core.set_chip.Met as set_chip
use Rattle.tick.proofs.decide.Met as decide
use Rattle.tick.proofs.carry_out.Met as carry_out
use Rattle.tick.proofs.Plan.answer.Met as answer
use Rattle.tick.proofs.foretell.Met as foretell
use Rattle.tick.proofs.tick.Met as tick
use Rattle.tick.proofs.tick_in_place.Met as tick_in_place
use Rattle.run.proofs.run.Met as run
use Rattle.run.proofs.tick_number_in.Met as tick_number_in
use Rattle.run.proofs.tick_in.Met as tick_in
use Rattle.run.proofs.run_in.Met as run_in
use Rattle.schedule.proofs.run.Met as schedule_run
use Rattle.schedule.proofs.run_in.Met as schedule_run_in
use Rattle.schedule.proofs.go_on.Met as schedule_go_on
use Rattle.snapshot.proofs.write.Met as write
use Rattle.snapshot.proofs.read.Met as read
use Rattle.host.proofs.avr_tick.Met as avr_tick
use Rattle.host.proofs.avr_foretell.Met as avr_foretell
use Rattle.host.proofs.avr_run.Met as avr_run
use Rattle.host.proofs.avr_run_schedule.Met as avr_run_schedule
use Rattle.tracing.proofs.trace.Met as trace
use Rattle.encode.proofs.encode.Met as encode
use Rattle.listing.proofs.list.Met as list
use Rattle.schedule_text.proofs.read.Met as schedule_text_read
use Rattle.rerunning.proofs.rerun.Met as rerun
use Rattle.intel_hex.proofs.check.check.Met as hex_check
use Rattle.intel_hex.proofs.read.Met as hex_read
use Rattle.intel_hex.proofs.write.Met as hex_write
use Rattle.host.proofs.avr_hex_read.Met as avr_hex_read
use Rattle.host.proofs.avr_hex_write.Met as avr_hex_write
use Rattle.forms.proofs.form_of.Met as form_of
use Rattle.word_form.proofs.form_of.Met as word_form
use Rattle.word_form.proofs.has_second.Met as has_second
use Rattle.registers.proofs.change.Met as change
use Rattle.effects.proofs.effect.Met as effect
use Rattle.form_table.proofs.forms.Met as forms
use Rattle.table_decode.proofs.instruction_of.Met as instruction_of
use Rattle.table_decode.proofs.decode.Met as table_decode
use Rattle.by_types.proofs.slice.Met as slice
use Rattle.by_types.proofs.core.Met as core
use Rattle.contracts.specs.EachContract.{Contracts}

pub contracts : Contracts
contracts =
    record {
      decode = decode.met;
      fresh = fresh.met;
      set_chip = set_chip.met;
      decide = decide.met;
      carry_out = carry_out.met;
      answer = answer.met;
      foretell = foretell.met;
      tick = tick.met;
      tick_in_place = tick_in_place.met;
      run = run.met;
      tick_number_in = tick_number_in.met;
      tick_in = tick_in.met;
      run_in = run_in.met;
      schedule_run = schedule_run.met;
      schedule_run_in = schedule_run_in.met;
      schedule_go_on = schedule_go_on.met;
      write = write.met;
      read = read.met;
      avr_tick = avr_tick.met;
      avr_foretell = avr_foretell.met;
      avr_run = avr_run.met;
      avr_run_schedule = avr_run_schedule.met;
      trace = trace.met;
      encode = encode.met;
      list = list.met;
      schedule_text_read = schedule_text_read.met;
      rerun = rerun.met;
      hex_check = hex_check.met;
      hex_read = hex_read.met;
      hex_write = hex_write.met;
      avr_hex_read = avr_hex_read.met;
      avr_hex_write = avr_hex_write.met;
      form_of = form_of.met;
      word_form = word_form.met;
      has_second = has_second.met;
      change = change.met;
      effect = effect.met;
      forms = forms.met;
      instruction_of = instruction_of.met;
      table_decode = table_decode.met;
      slice = slice.met;
      core = core.met;
    }
