-- A tick that ran, and its waits at once: what remains is the rest of the same run.
-- Assumes nothing.
use Rattle.std.proofs.Common.{◌≡◌, ℕ, ◌+◌, ◌<◌, ◌≤◌, Bool, false, ◌⊎◌, List, inl, inr, refl, ap, ◌∙◌, arith, lt-ltb}
use Rattle.instruction.specs.Decode.{decode_of}
use Rattle.instruction.specs.declared.Instruction.{Instruction}
use Rattle.cores.specs.declared.Core.{Core}
use Rattle.cores.specs.State.{Leaves, with_pc, with_sp, with_busy, with_inhibit, with_service, with_chip}
use Rattle.execute.specs.Execute.{effect_of, executed}
use Rattle.tick.specs.Tick.{Tick, gives, refuses, stops, tick_of}
use Rattle.tick.specs.Offer.{Offer}
use Rattle.tick.specs.declared.Answer.TheVariants.{Ran}
use Rattle.invariants.proofs.Waits.{instructions_wait_at_most_3}
use Rattle.effects.specs.Parts.{stood, cored}
use Rattle.effects.specs.declared.Step.{Step}
use Rattle.run.specs.Lent.{offers, rest_of, went_to, Goes, RanGoesOn}
use Rattle.run.specs.declared.go.Gone.{Gone}
use Rattle.run.proofs.Unroll.{unroll_on}
use Rattle.run.proofs.Waits.{waits_out}

pub ran_goes_on : RanGoesOn
ran_goes_on b at k k' p m m' o h e low =
    let count : at + 1 + k'.busy ≡ at + k'.busy + 1 = omega arith in
    rw (lt-ltb at b h)
    (unroll_on b at k p m o h (ap (λ (x : Tick). refuses x.answer) e) (ap (λ (x : Tick). stops x.answer) e)
    ∙ rw e (waits_out k'.busy b (at + 1) k' p m' o refl low (omega (arith, h)) ∙ ap (λ n. rest_of b n (with_busy k' 0) p m' o) count))

-- what `effect` left, in parts: rs' and z, of an instruction on a core that does not wait
module _ (rs rs' : List ℕ) (pc sp s : ℕ) (service chip : Bool) (z : Step) (i : Instruction) (p m m' : List ℕ) where
  abbrev next : Core
  next = cored rs (stood pc sp s 0 false service) chip

  module _ (left : Leaves (effect_of (executed decode_of next i p m)) (cored rs' z chip) m') where
    pub few_waits : z.busy ≤ 3
    unfolding with_pc with_sp with_busy with_inhibit with_service with_chip
    few_waits =
        let most : (executed decode_of next i p m).core.busy ≤ 3 = instructions_wait_at_most_3 decode_of i next p m 3 (omega arith) (omega arith) in
        let is : z.busy ≡ (executed decode_of next i p m).core.busy = ap (λ (k : Core). k.busy) left.core in
        omega (arith, most, is)

    pub carried_on : (b at : ℕ) (k : Core) (o : Offer) → at < b
        → tick_of k p m o ≡ gives Ran (executed decode_of next i p m).core (executed decode_of next i p m).bytes
        → rest_of b at k p m o ≡ rest_of b (at + z.busy + 1) (cored rs' (stood z.pc z.sp z.sreg 0 z.inhibit z.in_service) chip) p m' o
    unfolding with_pc with_sp with_busy with_inhibit with_service with_chip
    carried_on b at k o h e =
        let ran : tick_of k p m o ≡ gives Ran (cored rs' z chip) m' = rw (left.core, left.bytes) e in
        ran_goes_on b at k (cored rs' z chip) p m m' o h ran (omega (arith, few_waits))

    -- a turn of the loop in `go`
    first_ran : (at at₀ : ℕ) (k₀ k : Core) (m₀ : List ℕ) (o : Offer) → (tick_of k p m o).answer ≡ Ran
        → ((at ≡ at₀) × ((k ≡ k₀) × (m ≡ m₀))) ⊎ ((at₀ < at) × ((tick_of k₀ p m₀ o).answer ≡ Ran)) → (tick_of k₀ p m₀ o).answer ≡ Ran
    first_ran at at₀ k₀ k m₀ o h (inl (_, (e, f))) = rw (e, f) at h
    first_ran at at₀ k₀ k m₀ o h (inr (_, e)) = e

    pub went_on : {k₀ : Core} {at₀ b : ℕ} {m₀ : List ℕ} {offered : Bool} (g : Gone) → Goes k₀ at₀ p m₀ offered chip b g rs m → g.at < b
        → ((o : Offer) → offers o ≡ offered → tick_of (went_to rs g chip) p m o ≡ gives Ran (executed decode_of next i p m).core (executed decode_of next i p m).bytes)
        → Goes k₀ at₀ p m₀ offered chip b (record { at = g.at + z.busy + 1; pc = z.pc; sp = z.sp; sreg = z.sreg; inhibit = z.inhibit; in_service = z.in_service }) rs' m'
    went_on g w h e =
        record {
          onward = omega (arith, w.onward);
          bounded = λ l. omega (arith, few_waits, h);
          rest = λ o t. w.rest o t ∙ carried_on _ g.at _ o h (e o t);
          first = λ o t. inr (omega (arith, w.onward), first_ran g.at _ _ _ _ o (ap (λ (x : Tick). x.answer) (e o t)) (w.first o t));
        }
