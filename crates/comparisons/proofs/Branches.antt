-- The branch behind a comparison, and a handler between the two.
-- Assumes nothing.
use mathlib.Core.Path.{◌≡◌, refl, ap, ◌∙◌, subst}
use mathlib.Core.Bool.{Bool, true, false, beq}
use mathlib.Core.List.{List}
use Prim.Native.Nat.{ℕ, suc, ◌+◌, ◌-◌, ◌<◌}
use native.Mathlib.Omega.{arith}
use Rattle.basis.specs.Pick.{pick}
use Rattle.basis.specs.Bit.{bit, up}
use Rattle.instruction.specs.declared.Instruction.TheVariants.{BRBS}
use Rattle.alu.specs.Alu.{signed_of}
use Rattle.cores.specs.declared.Core.{Core}
use Rattle.cores.specs.State.{flag, with_pc, with_busy, with_inhibit}
use Rattle.cores.specs.Flow.{brbx_of}
use Rattle.tick.specs.Tick.{gives, due, tick_of}
use Rattle.std.specs.Prelude.{None}
use Rattle.tick.specs.declared.Answer.TheVariants.{Ran}
use Rattle.tick.proofs.Steps.{onward}
use Rattle.interrupts.specs.Handlers.{iterated}
use Rattle.interrupts.specs.Interrupts.{State, Offers, Kept, kept, pc, sp, after, enters, Handled}
use Rattle.interrupts.specs.Machine.{Laws}
use Rattle.interrupts.proofs.Steps.{inhibited_due, calm_due, step_tick}
use Rattle.interrupts.proofs.Instructions.{kept_of}
use Rattle.interrupts.proofs.TickLaws.{avr, tick_laws}
use Rattle.comparisons.specs.Comparisons.{Question, flag_of, target, Branch, Branched, BranchesAsAsked, BranchesBehindAHandler, Compared}

-- ---- the branch
module _ (p : List ℕ) (s : State) (n : ℕ) (d r : ℕ → ℕ) (v : Offers) (t : ℕ) (q : Question) (offset : ℕ)
    (c : Compared n d r s.core (after p s v t).core) (b : Branch p (pc s + n) q offset)
    (ready : (after p s v t).core.busy ≡ 0) (undue : due (after p s v t).core (v t) ≡ None) where
  abbrev k : Core
  k = (after p s v t).core

  -- the core that is left, by the flag
  abbrev left : Bool → Core
  left on = pick (beq on true) (with_busy (with_pc (onward k) (up (onward k).pc (signed_of offset))) 1) (onward k)

  goes_by : (on : Bool) → (left on).pc ≡ pick on (target k.pc offset) (k.pc + 1)
  unfolding with_busy with_pc with_inhibit
  goes_by true = refl
  goes_by false = refl

  keeps : (on : Bool) → (kept_of (left on) ≡ kept_of k) × ((left on).sp ≡ k.sp)
  unfolding with_busy with_pc with_inhibit
  keeps true = (refl, refl)
  keeps false = (refl, refl)

  branch_tick : tick_of k p (after p s v t).bytes (v t) ≡ gives Ran (left (flag k (flag_of q))) (after p s v t).bytes
  unfolding brbx_of with_pc with_inhibit
  branch_tick =
      step_tick k p (after p s v t).bytes (v t) ready (BRBS (flag_of q) offset) undue
      (omega (arith, c.up_by_n, b.below)) (rw c.up_by_n b.branch) (rw (c.up_by_n, b.there))

  branched : Branched p s n d r v t q offset
  unfolding iterated
  branched =
      let e = branch_tick in
      let (same_kept, same_sp) = keeps (flag k (flag_of q)) in
      record {
        ran = rw e;
        goes = rw e (goes_by (flag k (flag_of q)) ∙ rw (c.flags q, c.up_by_n));
        same_kept = rw e same_kept;
        same_sp = rw e same_sp;
        same_bytes = rw e;
      }

pub branches_as_asked : BranchesAsAsked
branches_as_asked p s n d r v t q offset c ready b allowed quiet =
    branched p s n d r v t q offset c b ready (calm_due (after p s v t).core p (after p s v t).bytes (v t) ready allowed quiet)

-- ---- a handler entered behind the comparison: what demand 3's laws of entry, RETI and waits say of it
laws : (p : List ℕ) → Laws (avr p) 0 0
laws p = tick_laws p 0 0 (record { ends = omega arith; there = λ x a h. absurd (omega arith); list = λ x a h. absurd (omega arith) })

module _ (p : List ℕ) (s : State) (v : Offers) (t : ℕ) (e : enters p s v t ≡ true) (h : Handled p s v t) where
  -- at tick j behind its RETI, with b waits left, the core is as before the entry
  record Back (b j : ℕ) : Type 0 where
    same : kept (after p s v j) ≡ kept (after p s v t)
    same_sp : sp (after p s v j) ≡ sp (after p s v t)
    same_pc : pc (after p s v j) ≡ pc (after p s v t)
    waiting : (after p s v j).core.busy ≡ b
    inhibits : (after p s v j).core.inhibit ≡ true

  returned : Back 3 (suc h.at)
  unfolding iterated
  returned =
      let k = h.restored in
      let stored = (laws p).enter (v t) (after p s v t) e in
      let left = (laws p).reti (v h.at) (after p s v h.at) h.reti.here in
      let fits : sp (after p s v t) < 65536 = omega (arith, k.lower, left.room) in
      let high : sp (after p s v h.at) + 1 ≡ sp (after p s v t) - 1 = omega (arith, k.lower) in
      record {
        same = left.kept' ∙ k.same;
        same_sp = left.sp' ∙ k.lower;
        same_pc = left.pc' ∙ rw (high, k.lower, k.low, k.high, stored.low fits, stored.high fits) (omega arith);
        waiting = left.busy';
        inhibits = left.inhibit';
      }

  waited : (b j : ℕ) → b < 4 → Back (suc b) j → Back b (suc j)
  unfolding iterated
  waited b j small x =
      let (_, no_entry, w) = (laws p).wait (v j) (after p s v j) b x.waiting small in
      record {
        same = w.kept' ∙ x.same;
        same_sp = w.sp' ∙ x.same_sp;
        same_pc = w.pc' ∙ x.same_pc;
        waiting = w.busy';
        inhibits = w.inhibit' ∙ x.inhibits;
      }

  back : Back 0 (h.at + 4)
  back =
      let r = h.at in
      let four : suc (suc (suc (suc r))) ≡ r + 4 = omega arith in
      subst (Back 0) four (waited 0 (suc (suc (suc r))) (omega arith) (waited 1 (suc (suc r)) (omega arith) (waited 2 (suc r) (omega arith) returned)))

pub branches_behind_a_handler : BranchesBehindAHandler
branches_behind_a_handler p s n d r v t q offset c b e h =
    let j = h.at + 4 in
    let x = back p s v t e h in
    let same_flag : ((b : ℕ) → flag (after p s v j).core b ≡ flag (after p s v t).core b) = λ b. ap (λ (y : Kept). bit y.sreg b) x.same in
    let compared : Compared n d r s.core (after p s v j).core = record {
      flags = λ q. same_flag (flag_of q) ∙ c.flags q;
      up_by_n = x.same_pc ∙ c.up_by_n;
      t_kept = same_flag 6 ∙ c.t_kept;
      i_kept = same_flag 7 ∙ c.i_kept;
      regs_kept = ap (λ (y : Kept). y.regs) x.same ∙ c.regs_kept;
      sp_kept = x.same_sp ∙ c.sp_kept;
    } in
    (compared, branched p s n d r v j q offset compared b x.waiting (inhibited_due (after p s v j).core (v j) x.inhibits))
