-- A tick that carries an instruction out: nothing is due, its words are there, and no rule refuses it.
-- Assumes nothing.
use Rattle.std.proofs.Common.{◌≡◌, ℕ, ◌+◌, ◌<◌, Bool, true, false, not, ◌&&◌, List, refl, arith, ne_eqb}
use Rattle.basis.specs.Pick.{pick}
use Rattle.basis.specs.Bit.{bit}
use Rattle.basis.proofs.Choice.{clash}
use Rattle.instruction.specs.Decode.{decode_of}
use Rattle.instruction.specs.declared.Instruction.{Instruction}
use Rattle.memory.specs.Memory.{has_word_of, program_word_of}
use Rattle.cores.specs.declared.Core.{Core}
use Rattle.cores.specs.State.{with_pc, with_sp, with_busy, with_inhibit, with_service, with_chip}
use Rattle.execute.specs.Execute.{executed}
use Rattle.execute.proofs.Answers.{executed-done}
use Rattle.tick.specs.Tick.{gives, due, stepped, enters_or_steps, tick_of}
use Rattle.tick.specs.Offer.{Offer}
use Rattle.std.specs.Prelude.{Some, None}
use Rattle.tick.specs.declared.Answer.TheVariants.{Ran}
use Rattle.tick.proofs.Decided.{both_words}
use Rattle.tick.proofs.Steps.{free_tick}
use Rattle.effects.specs.Parts.{stood, cored}
use Rattle.run.specs.Lent.{offers}
use Rattle.run.specs.Ready.{Unrefused, CarriedOutIsTheTick}

-- inhibit, I and in-service, in the order of the code's test
none_due : (inhibit flag service : Bool) (o : Offer) → pick (offers o) (flag && not service && not inhibit) false ≡ false
    → pick inhibit None (pick flag (pick service None o) None) ≡ None
none_due true flag service o h = refl
none_due false false service o h = refl
none_due false true true o h = refl
none_due false true false (Some v) h = clash h
none_due false true false None h = refl

module _ (rs : List ℕ) (pc sp s : ℕ) (inhibit service chip : Bool) (p m : List ℕ) (o : Offer) where
  abbrev k : Core
  k = cored rs (stood pc sp s 0 inhibit service) chip

  -- PC behind the word, and inhibit clear
  abbrev next : Core
  next = cored rs (stood (pc + 1) sp s 0 false service) chip

  abbrev op : Instruction
  op = decode_of (program_word_of p pc) (program_word_of p (pc + 1))

  undue : pick (offers o) (bit s 7 && not service && not inhibit) false ≡ false → due k o ≡ None
  unfolding with_pc with_sp with_busy with_inhibit with_service with_chip
  undue h = none_due inhibit (bit s 7) service o h

  runs : pick (offers o) (bit s 7 && not service && not inhibit) false ≡ false → pc < 65535 → has_word_of p (pc + 1) ≡ true → Unrefused rs (pc + 1) sp p m op
      → tick_of k p m o ≡ gives Ran (executed decode_of next op p m).core (executed decode_of next op p m).bytes
  unfolding enters_or_steps stepped with_pc with_sp with_busy with_inhibit with_service with_chip
  runs h low words (ran, fine) =
      rw (free_tick k p m o refl, undue h, ne_eqb pc 65535 (λ z. omega (arith, low, z)), ← both_words p pc op words, fine s false service chip, executed-done decode_of next op p m, ran)

pub told_runs : CarriedOutIsTheTick
told_runs rs pc sp s inhibit service chip p m o = runs rs pc sp s inhibit service chip p m o
