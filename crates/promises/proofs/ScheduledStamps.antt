-- The run of `Stamps` by a schedule, computed.
-- Assumes nothing.
use mathlib.Core.Path.{◌≡◌, refl, sym, subst}
use mathlib.Core.List.{List, [], ◌∷◌}
use Prim.Native.Nat.{ℕ, suc}
use native.Mathlib.Omega.{arith}
use lib.Dec.{T, eqb}
use Rattle.basis.specs.Bit.{bit, put}
use Rattle.alu.specs.Alu.{minus_of}
use Rattle.instruction.specs.Decode.{decode_of, nop_to_add_of, cpse_to_adc_of, immediate_of, load_of, store_of, one_register_of, control_of, port_of}
use Rattle.memory.specs.Memory.{program_word_of, has_word_of}
use Rattle.cores.specs.State.{reg, fresh_of, with_reg, with_pc, with_sp, with_busy, with_inhibit, with_service, cznvsh, cznvs, znvs}
use Rattle.cores.specs.Transfer.{reach_of, data_of, set_data_of}
use Rattle.tick.specs.Tick.{stepped, enters_or_steps, ticked}
use Rattle.schedule.specs.Schedule.{records_of, scheduled}
use Rattle.schedule.specs.Laws.{offered_at}
use Rattle.interrupts.specs.Handlers.{iterated}
use Rattle.interrupts.specs.Interrupts.{Offers, after, AssumedTo}
use Rattle.interrupts.specs.Stamps.{program, start}
use Rattle.promises.specs.Schedules.{x, AssumedOf, EndsAlike, one_record, StampsByASchedule}
use Rattle.interrupts.proofs.Logic.{first_unique}
use Rattle.interrupts.proofs.OneHandler.{Walked, PutBack, restored_of, walked_assumed_to}
use Rattle.interrupts.proofs.Stamps.{begins, plain_first}
use Rattle.promises.proofs.Schedules.{schedules_leave_no_trace}

-- what is offered, by the numbers of the run
abbrev by : List ℕ → Offers
by e t = offered_at (records_of one_record) e (suc t)

record Computed : Type 0 where
  answer : (x program start one_record 26).run.answer ≡ 24
  number : (x program start one_record 26).entries ≡ 2 ∷ []
  earlier : reg (x program start one_record 26).run.core 20 ≡ 0xFF
  walk : Walked program start 3 (by (2 ∷ [])) 26 1 20
  back : PutBack program start (by (2 ∷ [])) 1 20
  sreg : T (eqb (after program start (by (2 ∷ [])) 20).core.sreg (after program start (by (2 ∷ [])) 1).core.sreg)

computed : Computed
unfolding scheduled iterated ticked enters_or_steps stepped program_word_of has_word_of decode_of nop_to_add_of cpse_to_adc_of immediate_of load_of store_of one_register_of control_of port_of fresh_of with_reg with_pc with_sp with_busy with_inhibit with_service cznvsh cznvs znvs bit put minus_of reach_of data_of set_data_of
computed =
    record {
      answer = refl;
      number = refl;
      earlier = refl;
      walk = record { ended = tt; not_yet = tt; allowed = tt; entry = tt; reti = tt; e_r = omega arith; r_J = omega arith };
      back = record { regs = tt; lower = tt; low = tt; high = tt };
      sreg = tt;
    }

-- by the numbers that were computed, and so by the run's own
to_the_end : AssumedTo program start 3 (by (x program start one_record 26).entries) 26
to_the_end =
    subst (λ (e : List ℕ). AssumedTo program start 3 (by e) 26) (sym computed.number)
    (walked_assumed_to program start 3 computed.walk begins (restored_of program start (by (2 ∷ [])) 1 20 computed.back computed.sreg))

assumed : AssumedOf program start one_record 26 3
assumed = record { begins = begins; rises = refl; spent = computed.answer; first = to_the_end.first; restored = to_the_end.restored }

alike : EndsAlike program start one_record 26 3 3
alike =
    let (short, ends) = schedules_leave_no_trace program start one_record 3 26 assumed in
    subst (λ i. EndsAlike program start one_record 26 3 i) (first_unique short 3 ends.no_trace.plain_first plain_first) ends

pub stamps_by_a_schedule : StampsByASchedule
stamps_by_a_schedule = record { assumed = assumed; alike = alike; number = computed.number; earlier = computed.earlier }
