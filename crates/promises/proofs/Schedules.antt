-- Demand 3 by an interrupt schedule: a scheduled run is the ticks that demand 3 speaks of.
-- Assumes nothing.
use mathlib.Core.Path.{◌≡◌, refl, sym, ap, ◌∙◌}
use mathlib.Core.Logic.{◌⊎◌, inl, inr}
use mathlib.Core.Bool.{true}
use mathlib.Core.List.{List, []}
use Prim.Native.Nat.{ℕ, zero, suc, ◌+◌, ◌≤◌, ◌<◌}
use native.Mathlib.Omega.{arith}
use lib.Dec.{eqb}
use borrow.Author.Tests.{ltb-true, ltb-false, leb-true, eq-eqb}
use Rattle.basis.specs.Bit.{one}
use Rattle.basis.proofs.Choice.{clash}
use Rattle.cores.specs.declared.Core.{Core}
use Rattle.tick.specs.Offer.{Offer}
use Rattle.tick.specs.Tick.{Tick, number_of, tick_of}
use Rattle.run.specs.Run.{Run}
use Rattle.schedule.specs.Schedule.{records_of, rising}
use Rattle.schedule.specs.Laws.{after_by, tick_by, SpentBy, enters_by, how_many, offers}
use Rattle.schedule.specs.Laws as laws
use Rattle.schedule.proofs.Steps.{by_number}
use Rattle.schedule.proofs.Laws.{schedules_are_ticks, empty_list_is_a_run}
use Rattle.interrupts.specs.Handlers.{iterated}
use Rattle.interrupts.specs.Interrupts.{State, Offers, no_offers, tick_at, after, number_at, enters}
use Rattle.promises.specs.Schedules.{x, v, plain, SchedulesLeaveNoTrace}
use Rattle.interrupts.proofs.Interrupts.{no_trace_at_the_end}

-- core and data, as a pair
abbrev pair : Core → List ℕ → Core × List ℕ
pair k m = (k, m)

-- ---- the same ticks, numbered from 1 and from 0
module _ (p : List ℕ) (s : State) (w : ℕ → Offer) where
  abbrev from_0 : Offers
  from_0 t = w (suc t)

  same_after : (j : ℕ) → after_by w s.core p s.bytes j ≡ ((after p s from_0 j).core, (after p s from_0 j).bytes)
  unfolding after_by iterated
  same_after zero = refl
  same_after (suc j) =
      ap (λ (z : Core × List ℕ). let t = tick_of z.0 p z.1 (w (suc j)) in (t.core, t.bytes)) (same_after j)

  same_tick : (j : ℕ) → tick_by w s.core p s.bytes j ≡ tick_at p (from_0 j) (after p s from_0 j)
  same_tick j = ap (λ (z : Core × List ℕ). tick_of z.0 p z.1 (w (suc j))) (same_after j)

  same_number : (j : ℕ) → number_of (tick_by w s.core p s.bytes j).answer ≡ number_at p s from_0 j
  same_number j = ap (λ (t : Tick). number_of t.answer) (same_tick j)

  same_entries : (j : ℕ) → how_many (enters p s from_0) j ≡ how_many (enters_by w s.core p s.bytes) j
  same_entries zero = refl
  same_entries (suc j) = ap (λ (n : ℕ). n + one (enters p s from_0 j)) (same_entries j) ∙ ap (λ (n : ℕ). how_many (enters_by w s.core p s.bytes) j + one (eqb n 17)) (sym (same_number j))

-- ---- a scheduled run that did all its ticks
spends : (b : ℕ) (k : Core) (p m l : List ℕ) → rising 0 (records_of l) ≡ true → (laws.x b k p m l).run.answer ≡ 24 → SpentBy (offers b k p m l) k p m b (laws.x b k p m l).run
spends b k p m l h e =
    let w = offers b k p m l in
    let told : (j : ℕ) → ((laws.x b k p m l).run.answer ≡ number_of (tick_by w k p m j).answer) → ⊥ =
    λ j a. let at = after_by w k p m j in clash (sym (eq-eqb (number_of (tick_by w k p m j).answer) 24 (sym a ∙ e)) ∙ (by_number at.0 p at.1 (w (suc j))).unspent) in
    elim (schedules_are_ticks b k p m l h).ends [
      | inl z ↦ z
      | inr (inl z) ↦ absurd (told (laws.x b k p m l).run.count z.answer)
      | inr (inr z) ↦ absurd (told z.others z.answer)
    ]

-- where it stands then
module _ (p : List ℕ) (s : State) (l : List ℕ) (b : ℕ) (h : rising 0 (records_of l) ≡ true) (e : (x p s l b).run.answer ≡ 24) where
  abbrev w : ℕ → Offer
  w = offers b s.core p s.bytes l

  spent : SpentBy w s.core p s.bytes b (x p s l b).run
  spent = spends b s.core p s.bytes l h e

  stands : pair (x p s l b).run.core (x p s l b).run.bytes ≡ pair (after p s (v p s l b) b).core (after p s (v p s l b) b).bytes
  stands = (schedules_are_ticks b s.core p s.bytes l h).stands ∙ ap (λ (j : ℕ). after_by w s.core p s.bytes j) spent.count ∙ same_after p s w b

  allowed : (t : ℕ) → t < b → 16 ≤ number_at p s (v p s l b) t
  allowed t g =
      let at = after_by w s.core p s.bytes t in
      let n = number_of (tick_by w s.core p s.bytes t).answer in
      let high : 16 ≤ n = ltb-false n 16 (sym (by_number at.0 p at.1 (w (suc t))).refused ∙ (spent.before t g).0) in
      omega (arith, high, same_number p s w t)

-- ---- the plain run, as a run by an empty list: each of its ticks waits or runs
module _ (p : List ℕ) (s : State) (short : ℕ) (goes : (u : ℕ) → u < short → (number_at p s no_offers u ≡ 16) ⊎ (number_at p s no_offers u ≡ 18)) where
  abbrev none : ℕ → Offer
  none = offers short s.core p s.bytes []

  is : (x p s [] short).run ≡ plain p s [] short short
  is = ap (λ y. y.run) (empty_list_is_a_run short s.core p s.bytes [])

  between : (u : ℕ) → u < short → (16 ≤ number_of (tick_by none s.core p s.bytes u).answer) × (number_of (tick_by none s.core p s.bytes u).answer < 22)
  between u g = let n = same_number p s none u in elim (goes u g) [ inl z ↦ (omega (arith, z, n), omega (arith, z, n)) | inr z ↦ (omega (arith, z, n), omega (arith, z, n)) ]

  plain_spent : (x p s [] short).run.answer ≡ 24
  plain_spent =
      elim (schedules_are_ticks short s.core p s.bytes [] refl).ends [
        | inl z ↦ z.answer
        | inr (inl z) ↦ let u = (x p s [] short).run.count in
            let at = after_by none s.core p s.bytes u in
            let low = ltb-true (number_of (tick_by none s.core p s.bytes u).answer) 16 (sym (by_number at.0 p at.1 (none (suc u))).refused ∙ z.refused) in
            absurd (omega (arith, low, (between u z.in_budget).0))
        | inr (inr z) ↦ let at = after_by none s.core p s.bytes z.others in
            let high = leb-true 22 (number_of (tick_by none s.core p s.bytes z.others).answer) (sym (by_number at.0 p at.1 (none (suc z.others))).ends ∙ z.stopped) in
            absurd (omega (arith, high, (between z.others z.in_budget).1))
      ]

  plain_stands : pair (plain p s [] short short).core (plain p s [] short short).bytes ≡ pair (after p s no_offers short).core (after p s no_offers short).bytes
  plain_stands = ap (λ (r : Run). pair r.core r.bytes) (sym is) ∙ stands p s [] short refl plain_spent

-- ---- the demand
pub schedules_leave_no_trace : SchedulesLeaveNoTrace
schedules_leave_no_trace p s l n long a =
    let (short, trace) = no_trace_at_the_end p s n (v p s l long) long
    (record { begins = a.begins; first = a.first; allowed = allowed p s l long a.rises a.spent; restored = a.restored }) in
    let there = stands p s l long a.rises a.spent in
    let plainly = plain_stands p s short trace.plain_goes in
    let core : (x p s l long).run.core ≡ (after p s (v p s l long) long).core = ap (λ (z : Core × List ℕ). z.0) there in
    let plain_core : (plain p s l long short).core ≡ (after p s no_offers short).core = ap (λ (z : Core × List ℕ). z.0) plainly in
    let run = is p s short trace.plain_goes in
    let offered = offers long s.core p s.bytes l in
    let count = ap (λ r. r.count) (sym run) ∙ (spent p s [] short refl (plain_spent p s short trace.plain_goes)).count in
    let through : (f : Core → ℕ) → f (after p s (v p s l long) long).core ≡ f (after p s no_offers short).core → f (x p s l long).run.core ≡ f (plain p s l long short).core =
    λ f z. ap f core ∙ z ∙ sym (ap f plain_core) in (
      short,
      record {
        plain_spent = ap (λ r. r.answer) (sym run) ∙ plain_spent p s short trace.plain_goes;
        same_regs = ap (λ (k : Core). k.regs) core ∙ ap (λ z. z.regs) trace.same_kept ∙ sym (ap (λ (k : Core). k.regs) plain_core);
        same_sreg = through (λ k. k.sreg) (ap (λ z. z.sreg) trace.same_kept);
        same_sp = through (λ k. k.sp) trace.same_sp;
        same_pc = through (λ k. k.pc) trace.same_pc;
        plain_wrote = ap (λ (z : Core × List ℕ). z.1) plainly ∙ trace.plain_wrote short (omega arith);
        ticks = omega (arith, (spent p s l long a.rises a.spent).count, count, trace.ticks);
        entered = same_entries p s offered long ∙ ap (λ (j : ℕ). how_many (enters_by offered s.core p s.bytes) j) (sym (spent p s l long a.rises a.spent).count)
            ∙ (schedules_are_ticks long s.core p s.bytes l a.rises).as_many;
        no_trace = trace;
      },
    )
