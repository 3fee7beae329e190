-- Ticks at which no vector is due: where that is so, and the instruction at PC is executed then.
-- Assumes nothing.
use mathlib.Core.Path.{◌≡◌, refl, sym, ap, ◌∙◌, subst}
use mathlib.Core.Bool.{true, false}
use mathlib.Core.List.{List}
use Prim.Native.Nat.{ℕ, ◌≤◌, ◌<◌}
use native.Mathlib.Omega.{arith}
use borrow.Author.Tests.{ne_eqb}
use lib.Dec.{eqb}
use Rattle.basis.proofs.Choice.{clash}
use Rattle.instruction.specs.Decode.{decode_of}
use Rattle.instruction.specs.declared.Instruction.{Instruction}
use Rattle.cores.specs.declared.Core.{Core}
use Rattle.cores.specs.Flow.{op_at}
use Rattle.cores.specs.State.{with_inhibit}
use Rattle.execute.specs.Needs.{refusal, push_needs, needs, fetched, with_fetch}
use Rattle.execute.specs.Execute.{executed}
use Rattle.tick.specs.Tick.{Tick, gives, decided, due, entry, executed_tick, stepped, enters_or_steps, tick_of, number_of}
use Rattle.tick.specs.Offer.{Offer}
use Rattle.std.specs.Prelude.{Some, None}
use Rattle.tick.specs.declared.Answer.TheVariants.{Entered}
use Rattle.tick.proofs.Steps.{every_decided, every_due, free_tick, onward}

-- ---- nothing is due where nothing is offered, inhibit is set, or a handler is under way
pub none_due : (k : Core) → due k None ≡ None
none_due k = every_due (λ o. o ≡ None) k None refl (λ i s. refl)

pub inhibited_due : (k : Core) (o : Offer) → k.inhibit ≡ true → due k o ≡ None
inhibited_due k o h = every_due (λ o. o ≡ None) k o refl (λ i s. clash (sym h ∙ i))

pub serving_due : (k : Core) (o : Offer) → k.in_service ≡ true → due k o ≡ None
serving_due k o h = every_due (λ o. o ≡ None) k o refl (λ i s. clash (sym h ∙ s))

module _ (k : Core) (p m : List ℕ) (o : Offer) (b : k.busy ≡ 0) where
  -- ---- nor at a tick that neither enters nor is refused
  abbrev Calm : Tick → Type 0
  Calm t = (16 ≤ number_of t.answer) × (eqb (number_of t.answer) 17 ≡ false)

  not_due : (d : Offer) → due k o ≡ d → Calm (enters_or_steps decode_of k p m d) → due k o ≡ None
  unfolding enters_or_steps
  not_due None e c = e
  not_due (Some v) e c =
      every_decided (λ t. Calm t → due k o ≡ None) (push_needs k m) k m (gives Entered (entry k v m).core (entry k v m).bytes)
      (λ n g l c. absurd (omega (arith, c.0))) (λ z c. clash c.1) c

  pub calm_due : 16 ≤ number_of (tick_of k p m o).answer → eqb (number_of (tick_of k p m o).answer) 17 ≡ false → due k o ≡ None
  calm_due a f = not_due (due k o) refl (subst Calm (free_tick k p m o b) (a, f))

  -- ---- the instruction op at PC, where what it needs is there
  abbrev pub Met : Instruction → Type 0
  Met op = refusal (with_fetch (fetched p k.pc op) (needs decode_of (onward k) op p m)) ≡ 0

  abbrev done : Instruction → Tick
  done op = executed_tick (executed decode_of (onward k) op p m)

  pub undue_tick : due k o ≡ None → tick_of k p m o ≡ enters_or_steps decode_of k p m None
  undue_tick d = free_tick k p m o b ∙ ap (enters_or_steps decode_of k p m) d

  pub step_tick : (op : Instruction) → due k o ≡ None → k.pc < 65535 → op_at decode_of p k.pc ≡ op → Met op → tick_of k p m o ≡ done op
  unfolding enters_or_steps stepped with_inhibit
  step_tick op d h e n =
      undue_tick d
      ∙ rw (ne_eqb k.pc 65535 (omega arith))
      (subst (λ x. decided (with_fetch (fetched p k.pc x) (needs decode_of (onward k) x p m)) k m (done x) ≡ done op) (sym e) (rw n))
