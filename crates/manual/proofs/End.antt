-- The end turned off: the ticks that end execute what stands at PC 65,535 instead, and no other tick changes.
-- Assumes nothing.
use mathlib.Core.Path.{◌≡◌, refl, sym, ap, ◌∙◌}
use mathlib.Core.Bool.{Bool, true, false, ◌&&◌}
use mathlib.Core.List.{List}
use Prim.Native.Nat.{ℕ, ◌+◌, ◌<◌}
use lib.Dec.{eqb, ltb}
use borrow.Author.Tests.{le-ltb}
use Rattle.basis.specs.Pick.{pick}
use Rattle.basis.proofs.Choice.{clash}
use Rattle.instruction.specs.Decode.{decode_of}
use Rattle.instruction.specs.Code.{two_words}
use Rattle.cores.specs.Flow.{op_at}
use Rattle.cores.specs.declared.Core.{Core}
use Rattle.cores.specs.State.{Sound, with_pc, with_inhibit}
use Rattle.execute.specs.Needs.{Needs, refusal, needs, fetched, with_fetch, push_needs}
use Rattle.execute.specs.Execute.{executed}
use Rattle.execute.specs.declared.Done.{Done}
use Rattle.execute.specs.declared.Done.TheVariants as done
use Rattle.tick.specs.Offer.{Offer}
use Rattle.std.specs.Prelude.{Some, None}
use Rattle.tick.specs.declared.Answer.TheVariants.{Refused, End}
use Rattle.tick.specs.Tick as paper
use Rattle.tick.specs.Tick.{Tick, gives, answer_of, decided, due, executed_tick, stepped, ticked, tick_of}
use Rattle.manual.specs.Switches.{end, Switches, Says, says}
use Rattle.manual.specs.Tick.{told, unless, opcode_at, step, enters_or_steps, tick_by}
use Rattle.manual.specs.Differences.{changed}
use Rattle.manual.specs.Statement.{ended, with_end, EndAlone}
use Rattle.manual.proofs.Changes.{instruction_changed}
use Rattle.manual.proofs.Ticks.{of_refusals}

-- ---- a tick that executes or is refused does not end
executed_goes_on : (d : Done) (k : Core) (m : List ℕ) → ended (gives (answer_of d) k m) ≡ false
executed_goes_on done.Ran k m = refl
executed_goes_on done.Sleep k m = refl
executed_goes_on done.Watchdog k m = refl
executed_goes_on done.Undefined k m = refl
executed_goes_on done.Break k m = refl

refused_goes_on : (n : Needs) (k : Core) (m : List ℕ) → ended (gives (Refused (refusal n)) k m) ≡ false
refused_goes_on n k m = of_refusals (λ r. ended (gives (Refused r) k m) ≡ false) refl refl refl refl refl n

decided_by : (n : Needs) (k : Core) (m : List ℕ) (t : Tick) (g : Bool) → eqb (refusal n) 0 ≡ g → ended t ≡ false → ended (decided n k m t) ≡ false
decided_by n k m t true e h = rw e h
decided_by n k m t false e h = rw e (refused_goes_on n k m)

stepped_goes_on : (k j : Core) (p m : List ℕ) → ended (stepped decode_of k j p m) ≡ false
unfolding stepped
stepped_goes_on k j p m =
    let i = op_at decode_of p j.pc in
    let x = executed decode_of (with_pc j (j.pc + 1)) i p m in
    let n = with_fetch (fetched p j.pc i) (needs decode_of (with_pc j (j.pc + 1)) i p m) in
    decided_by n k m (executed_tick x) (eqb (refusal n) 0) refl (executed_goes_on x.done x.core x.bytes)

module _ (s : Switches) (p m : List ℕ) (k : Core) where
  abbrev j : Core
  j = with_inhibit k false

  -- ---- no instruction looks at the end
  step_same : k.sreg < 256 → step s k j p m ≡ step (with_end s) k j p m
  unfolding step with_inhibit changed
  step_same h =
      let i = opcode_at p k.pc in
      let two = two_words (opcode_at p (k.pc + 1)) in
      let n = with_fetch (fetched p k.pc i) (needs decode_of (with_pc j (k.pc + 1)) i p m) in
      ap (λ (x : Says). unless n k m x) (instruction_changed k.chip s two j p m h refl i ∙ sym (instruction_changed k.chip (with_end s) two j p m h refl i))

  -- e: the switch; a: PC is 65,535
  end_by : (e a : Bool) (x y : Says) (t : Tick) → e ≡ false → x ≡ y → ended t ≡ false
      → pick (e && a) (says End j m) x ≡ pick (ended (pick a (gives End j m) t)) x (pick (true && a) (says End j m) y)
  end_by true a x y t n h g = clash n
  end_by false true x y t n h g = refl
  end_by false false x y t n h g = rw g h

  entered_by : (v : ℕ) (g : Bool) → eqb (refusal (push_needs k m)) 0 ≡ g
      → told (paper.entered k v m) ≡ pick (ended (paper.entered k v m)) (step s k j p m) (told (paper.entered k v m))
  entered_by v true e = rw e
  entered_by v false e = rw (e, refused_goes_on (push_needs k m) k m)

  enters_same : (o : Offer) → k.sreg < 256 → s end ≡ false
      → enters_or_steps s k p m o ≡ pick (ended (paper.enters_or_steps decode_of k p m o)) (step s k j p m) (enters_or_steps (with_end s) k p m o)
  unfolding enters_or_steps paper.enters_or_steps
  enters_same (Some v) h n = entered_by v (eqb (refusal (push_needs k m)) 0) refl
  enters_same None h n =
      end_by (s end) (eqb k.pc 65535) (step s k j p m) (step (with_end s) k j p m) (stepped decode_of k j p m) n (step_same h) (stepped_goes_on k j p m)

  tick_by_lem : (o : Offer) (b : Bool) → ltb 0 k.busy ≡ b → Sound k → s end ≡ false
      → tick_by s k p m o ≡ pick (ended (tick_of k p m o)) (step s k j p m) (tick_by (with_end s) k p m o)
  unfolding tick_by ticked
  tick_by_lem o true e w n = let l = w.busy_le in rw (le-ltb 4 k.busy l, e)
  tick_by_lem o false e w n = let l = w.busy_le in rw (le-ltb 4 k.busy l, e) (enters_same (due k o) w.sreg_lt n)

-- ---- 4
pub end_alone : EndAlone
end_alone s k p m o w pp mm n = tick_by_lem s p m k o (ltb 0 k.busy) refl w n
