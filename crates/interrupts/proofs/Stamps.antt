-- The runs of `Stamps`, computed.
-- Assumes nothing.
use mathlib.Core.Path.{◌≡◌, refl, subst}
use mathlib.Core.Bool.{true, not}
use Prim.Native.Nat.{ℕ, ◌<◌}
use native.Mathlib.Omega.{arith}
use lib.Dec.{T, eqb, eqb→eq}
use Rattle.basis.specs.Bit.{bit, put}
use Rattle.basis.proofs.Every.{every}
use Rattle.alu.specs.Alu.{minus_of}
use Rattle.instruction.specs.Decode.{decode_of, nop_to_add_of, cpse_to_adc_of, immediate_of, load_of, store_of, one_register_of, control_of, port_of}
use Rattle.memory.specs.Memory.{program_word_of, has_word_of}
use Rattle.cores.specs.State.{reg, fresh_of, with_reg, with_pc, with_sp, with_busy, with_inhibit, with_service, cznvsh, cznvs, znvs}
use Rattle.cores.specs.Flow.{op_at}
use Rattle.cores.specs.Transfer.{reach_of, data_of, set_data_of}
use Rattle.tick.specs.Tick.{stepped, enters_or_steps, ticked}
use Rattle.interrupts.specs.RegisterOnly.{register_only, kind_of}
use Rattle.interrupts.specs.Handlers.{iterated, First}
use Rattle.interrupts.specs.Interrupts.{no_offers, byte_at, Begins, Ended, Restored, AssumedTo, NoTrace}
use Rattle.interrupts.specs.Stamps.{program, start, between, plain, careful, careless, StampsInOrder, FlagLost}
use Rattle.interrupts.proofs.Logic.{grow, first_unique}
use Rattle.interrupts.proofs.Interrupts.{no_trace_at_the_end}
use Rattle.interrupts.proofs.OneHandler.{same_list_lem, end_test, Walked, PutBack, restored_of, first_of, walked_first, walked_allowed, walked_reti, walked_assumed, walked_assumed_to}

-- ---- the stretch
below_3 : (P : ℕ → Type 0) → P 0 → P 1 → P 2 → (x : ℕ) → x < 3 → P x
below_3 P a b c = grow P 2 (grow P 1 (grow P 0 (λ u h. absurd (omega arith)) a) b) c

pub begins : Begins program start 3
unfolding fresh_of with_reg program_word_of has_word_of decode_of nop_to_add_of cpse_to_adc_of
begins =
    record {
      stretch = record {
        ends = omega arith;
        there = λ x a h. below_3 (λ x. has_word_of program x ≡ true) refl refl refl x h;
        list = λ x a h. below_3 (λ x. kind_of (op_at decode_of program x) ≡ register_only) refl refl refl x h;
      };
      ready = refl;
      free = refl;
    }

-- ---- what is computed
record Computed : Type 0 where
  plain_ended : T (end_test program start 3 no_offers 3)
  plain_not_yet : T (every 3 (λ t. not (end_test program start 3 no_offers t)))
  plain_earlier : reg (plain 3).core 20 ≡ 0xFF
  -- the first handler is entered at tick 1, and its RETI is tick 20
  careful_walk : Walked program start 3 (between 4) 26 1 20
  careful_back : PutBack program start (between 4) 1 20
  careful_sreg : T (eqb (careful 20).core.sreg (careful 1).core.sreg)
  careful_earlier : reg (careful 26).core 20 ≡ 0xFF
  careful_byte : byte_at (careful 26) 0 ≡ 4
  -- the second is entered at tick 1, and its RETI is tick 15
  careless_walk : Walked program start 3 (between 16) 21 1 15
  careless_back : PutBack program start (between 16) 1 15
  careless_sreg : (careless 1).core.sreg ≡ 0x95
  careless_lost : (careless 15).core.sreg ≡ 0x80
  careless_later : reg (careless 21).core 20 ≡ 0

computed : Computed
unfolding iterated ticked enters_or_steps stepped program_word_of has_word_of decode_of nop_to_add_of cpse_to_adc_of immediate_of load_of store_of one_register_of control_of port_of fresh_of with_reg with_pc with_sp with_busy with_inhibit with_service cznvsh cznvs znvs bit put minus_of reach_of data_of set_data_of
computed =
    record {
      plain_ended = tt;
      plain_not_yet = tt;
      plain_earlier = refl;
      careful_walk = record { ended = tt; not_yet = tt; allowed = tt; entry = tt; reti = tt; e_r = omega arith; r_J = omega arith };
      careful_back = record { regs = tt; lower = tt; low = tt; high = tt };
      careful_sreg = tt;
      careful_earlier = refl;
      careful_byte = refl;
      careless_walk = record { ended = tt; not_yet = tt; allowed = tt; entry = tt; reti = tt; e_r = omega arith; r_J = omega arith };
      careless_back = record { regs = tt; lower = tt; low = tt; high = tt };
      careless_sreg = refl;
      careless_lost = refl;
      careless_later = refl;
    }

pub plain_first : First (Ended program start 3 no_offers) 3
plain_first = first_of program start 3 no_offers 3 computed.plain_ended computed.plain_not_yet

-- ---- the handler that puts everything back
restored : Restored program start (between 4) 1 20
restored = restored_of program start (between 4) 1 20 computed.careful_back computed.careful_sreg

assumed_to : AssumedTo program start 3 (between 4) 26
assumed_to = walked_assumed_to program start 3 computed.careful_walk begins restored

no_trace : NoTrace program start 3 (between 4) 26 3
no_trace =
    let (I, x) = no_trace_at_the_end program start 3 (between 4) 26 assumed_to in
    subst (λ i. NoTrace program start 3 (between 4) 26 i) (first_unique I 3 x.plain_first plain_first) x

pub stamps_in_order : StampsInOrder
stamps_in_order =
    record {
      assumed = walked_assumed program start 3 computed.careful_walk begins restored;
      assumed_to = assumed_to;
      no_trace = no_trace;
      earlier = computed.careful_earlier;
      plain_earlier = computed.plain_earlier;
      counted_down = computed.careful_byte;
    }

-- ---- the handler that loses a flag
pub flag_lost : FlagLost
flag_lost =
    let walk = computed.careless_walk in
    let back = computed.careless_back in
    record {
      begins = begins;
      first = walked_first program start 3 walk;
      plain_first = plain_first;
      allowed = walked_allowed program start 3 walk;
      reti = walked_reti program start 3 walk;
      regs = same_list_lem _ _ back.regs;
      lower = eqb→eq _ _ back.lower;
      low = eqb→eq _ _ back.low;
      high = eqb→eq _ _ back.high;
      sreg = computed.careless_sreg;
      sreg_lost = computed.careless_lost;
      not_earlier = computed.careless_later;
      plain_earlier = computed.plain_earlier;
    }
