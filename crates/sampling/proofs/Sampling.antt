-- The instruction behind SEI: nothing is due at SEI with I clear, and nothing behind it with inhibit set. And the routine, computed.
-- Assumes nothing.
use mathlib.Core.Path.{◌≡◌, refl, sym, ap, subst, ◌∙◌}
use mathlib.Core.Logic.{◌⊎◌, inl, inr}
use mathlib.Core.Bool.{true, false}
use mathlib.Core.List.{List}
use Prim.Native.Nat.{ℕ, ◌≤◌}
use native.Mathlib.Omega.{arith}
use borrow.Author.Tests.{ne_eqb}
use Rattle.basis.specs.Bit.{bit, put}
use Rattle.basis.proofs.Choice.{clash, either}
use Rattle.instruction.specs.Decode.{decode_of, load_of, store_of, one_register_of, control_of}
use Rattle.instruction.specs.declared.Instruction.{Instruction}
use Rattle.instruction.specs.declared.Instruction.TheVariants.{BSET}
use Rattle.memory.specs.Memory.{program_word_of, has_word_of}
use Rattle.rule.specs.Rule.{store_waits}
use Rattle.cores.specs.declared.Core.{Core}
use Rattle.cores.specs.State.{fresh_of, with_reg, with_pc, with_sp, with_busy, with_inhibit, with_service, with_chip}
use Rattle.cores.specs.Transfer.{reach_of, data_of, set_data_of, pointed_of, word_if}
use Rattle.execute.specs.Needs.{needs, fetched, with_fetch}
use Rattle.execute.specs.Execute.{executed}
use Rattle.tick.specs.Offer.{Offer}
use Rattle.std.specs.Prelude.{Some, None}
use Rattle.tick.specs.declared.Answer.TheVariants.{Ran}
use Rattle.tick.specs.Tick.{gives, decided, due, executed_tick, stepped, enters_or_steps, ticked, tick_of, number_of}
use Rattle.tick.proofs.Steps.{free_tick, onward, performed, every_tick}
use Rattle.invariants.proofs.Ticks.{done_number}
use Rattle.sampling.specs.Sampling.{AtSei, behind, SafeAfterSei, SamplingRoutine}

-- ---- a core that is not busy, where nothing is due
module _ (k : Core) (p m : List ℕ) (b : k.busy ≡ 0) where
  undue : (o : Offer) → due k o ≡ None → tick_of k p m o ≡ enters_or_steps decode_of k p m None
  undue o d = free_tick k p m o b ∙ ap (enters_or_steps decode_of k p m) d

  goes_on : (o : Offer) → due k o ≡ None → let n = number_of (tick_of k p m o).answer in (n ≤ 5) ⊎ (18 ≤ n)
  goes_on o d =
      every_tick decode_of (λ t. (number_of t.answer ≤ 5) ⊎ (18 ≤ number_of t.answer)) k p m o
      (λ n g l. inl l)
      (λ g l. absurd (omega arith))
      (λ z v e r. let c : Some v ≡ None = sym e ∙ d in let f : true ≡ false = cc in clash f)
      (λ z e l. inr (omega arith))
      λ z e l r. inr (omega (arith, done_number (performed decode_of k p m).done))

-- ---- SEI
module _ (k : Core) (p m : List ℕ) (a : AtSei k p) where
  disabled_due : (o : Offer) → due k o ≡ None
  disabled_due o = rw a.disabled (either (λ o. o ≡ None) k.inhibit None None refl refl)

  abbrev step_of : Instruction → Type 0
  step_of op = decided (with_fetch (fetched p k.pc op) (needs decode_of (onward k) op p m)) k m (executed_tick (executed decode_of (onward k) op p m)) ≡ gives Ran (behind k) m

  sei_step : step_of (BSET 7)
  unfolding with_pc with_inhibit
  sei_step = rw (a.there, a.chip)

  sei_tick : enters_or_steps decode_of k p m None ≡ gives Ran (behind k) m
  unfolding enters_or_steps stepped with_inhibit
  sei_tick = rw (ne_eqb k.pc 65535 (omega (arith, a.below))) (subst step_of (sym a.sei) sei_step)

-- ---- and behind it
behind_due : (k : Core) (o : Offer) → due (behind k) o ≡ None
unfolding with_inhibit
behind_due k o = refl

behind_ready : (k : Core) → k.busy ≡ 0 → (behind k).busy ≡ 0
unfolding with_inhibit with_pc
behind_ready k b = b

pub safe_after_sei : SafeAfterSei
safe_after_sei k p m o next a =
    let b = behind_ready k a.ready in
    record {
      sei_runs = undue k p m a.ready o (disabled_due k p m a o) ∙ sei_tick k p m a;
      as_unoffered = undue (behind k) p m b next (behind_due k next) ∙ sym (undue (behind k) p m b None (behind_due k None));
      runs_first = goes_on (behind k) p m b next (behind_due k next);
    }

-- ---- the routine
pub sampling_routine : SamplingRoutine
unfolding ticked enters_or_steps stepped program_word_of has_word_of decode_of load_of store_of one_register_of control_of fresh_of with_reg with_pc with_sp with_busy with_inhibit with_service with_chip bit put store_waits reach_of data_of set_data_of pointed_of word_if
sampling_routine =
    record {
      chip_sei = refl;
      chip_store = refl;
      chip_entry = refl;
      chip_sample = refl;
      chip_taken = refl;
      source_sei = refl;
      source_entry = refl;
      source_sample = refl;
      source_taken = refl;
    }
