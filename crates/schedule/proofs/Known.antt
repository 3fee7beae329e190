-- A scheduled run is single ticks, from any of its ticks on: v is what is offered by the tick's number, and the run began with k₀ and m₀.
-- Assumes nothing.
use mathlib.Core.Path.{◌≡◌, refl, sym, ap, subst, ◌∙◌}
use mathlib.Core.Logic.{◌⊎◌, inl, inr}
use mathlib.Core.Bool.{Bool, true, false, not, ◌&&◌}
use mathlib.Core.List.{List, [], ◌∷◌}
use Prim.Native.Nat.{ℕ, zero, suc, ◌+◌, ◌≤◌, ◌<◌}
use native.Mathlib.Nat.{eq-or-lt_of_le}
use native.Mathlib.Omega.{arith}
use lib.Dec.{eqb, leb, ltb}
use lib.ListN.{get_or, drop, length, replicate}
use borrow.Author.Tests.{lt-ltb, le-ltb, leb-true, leb-false, ne_eqb}
use Rattle.basis.specs.Bit.{one}
use Rattle.basis.proofs.Choice.{clash, test}
use Rattle.cores.specs.declared.Core.{Core}
use Rattle.tick.specs.Tick.{Tick, number_of, refuses, stops, tick_of}
use Rattle.tick.specs.Offer.{Offer}
use Rattle.std.specs.Prelude.{Some, None}
use Rattle.tick.specs.declared.Answer.{Answer}
use Rattle.tick.specs.declared.Answer.TheVariants.{Refused, Waited, Entered, Ran, Sleep, Watchdog, Undefined, Break, End}
use Rattle.tick.proofs.Steps.{refused_keeps}
use Rattle.run.specs.Run.{Run}
use Rattle.schedule.specs.Schedule.{Record, rising, offered, Scheduled, scheduled}
use Rattle.schedule.specs.Laws.{after_by, tick_by, enters_by, how_many, offered_at, entered_in}
use Rattle.schedule.proofs.Steps.{ByNumber, by_number, step_by, above, not_due}

-- ---- the numbers of a run from its tick j on are 0 or above j
abbrev Later : ℕ → List ℕ → Type 0
Later j [] = Unit
Later j (n ∷ e) = ((n ≡ 0) ⊎ (j < n)) × Later j e

zeros_later : (j n : ℕ) → Later j (replicate n 0)
zeros_later j zero = tt
zeros_later j (suc n) = (inl refl, zeros_later j n)

less : (j : ℕ) (e : List ℕ) → Later (suc j) e → Later j e
less j [] h = tt
less j (n ∷ e) (inl z, h) = (inl z, less j e h)
less j (n ∷ e) (inr z, h) = (inr (omega (arith, z)), less j e h)

later_by : (r s e : Bool) (j : ℕ) (t : Tick) (ds : List Record) (x y : Scheduled) → Later (suc j) x.entries → Later (suc j) y.entries → Later j (step_by r s e j t ds x y).entries
later_by true s e j t ds x y f g = zeros_later j (length ds)
later_by false true e j t ds x y f g = zeros_later j (length ds)
later_by false false true j t ds x y f g = (inr (omega arith), less j x.entries f)
later_by false false false j t ds x y f g = less j y.entries g

later : (left j : ℕ) (k : Core) (p m : List ℕ) (ds : List Record) → Later j (scheduled left j k p m ds).entries
unfolding scheduled
later zero j k p m ds = zeros_later j (length ds)
later (suc left) j k p m ds =
    let t = tick_of k p m (offered (suc j) ds) in
    later_by (refuses t.answer) (stops t.answer) (eqb (number_of t.answer) 17) j t ds (scheduled left (suc j) t.core p t.bytes (drop 1 ds)) (scheduled left (suc j) t.core p t.bytes ds)
    (later left (suc j) t.core p t.bytes (drop 1 ds)) (later left (suc j) t.core p t.bytes ds)

-- ---- so at its next tick none of them was entered before
and_true : (a : Bool) → (a && true) ≡ a
and_true true = refl
and_true false = refl

and_false : (a : Bool) → (a && false) ≡ false
and_false true = refl
and_false false = refl

not_yet : (j n : ℕ) → (n ≡ 0) ⊎ (j < n) → not (ltb 0 n && ltb n (suc j)) ≡ true
not_yet j n (inl z) = rw z
not_yet j n (inr z) = rw (le-ltb n (suc j) z, and_false (ltb 0 n))

same_offer : (j : ℕ) (ds : List Record) (e : List ℕ) → Later j e → offered_at ds e (suc j) ≡ offered (suc j) ds
same_offer j [] e h = refl
same_offer j (d ∷ ds) [] h = rw (and_true (leb d.tick (suc j)), same_offer j ds [] tt)
same_offer j (d ∷ ds) (n ∷ e) h = rw (not_yet j n h.0, and_true (leb d.tick (suc j)), same_offer j ds e h.1)

-- and at later ticks the one entered now was
passed_over : (j : ℕ) (ds : List Record) (e : List ℕ) (n : ℕ) → suc j < n → offered_at ds (suc j ∷ e) n ≡ offered_at (drop 1 ds) e n
passed_over j [] e n h = refl
passed_over j (d ∷ ds) e n h = rw (lt-ltb 0 (suc j) (omega arith), lt-ltb (suc j) n h, and_false (leb d.tick n))

-- ---- which answer 17 is, and which record it is of
is_entered : (a : Answer) → refuses a ≡ false → eqb (number_of a) 17 ≡ true → a ≡ Entered
is_entered (Refused n) h e = clash h
is_entered Waited h e = clash (sym e)
is_entered Entered h e = refl
is_entered Ran h e = clash (sym e)
is_entered Sleep h e = clash (sym e)
is_entered Watchdog h e = clash (sym e)
is_entered Undefined h e = clash (sym e)
is_entered Break h e = clash (sym e)
is_entered End h e = clash (sym e)

-- the first of ds is due, and offered
abbrev FirstDue : ℕ → List Record → Type 0
FirstDue j [] = ⊥
FirstDue j (d ∷ ds) = (d.tick ≤ suc j) × (offered (suc j) (d ∷ ds) ≡ Some d.vector)

first_due : (k : Core) (p m : List ℕ) (j last : ℕ) (ds : List Record) → rising last ds ≡ true → eqb (number_of (tick_of k p m (offered (suc j) ds)).answer) 17 ≡ true → FirstDue j ds
first_due k p m j last [] r e = clash (sym e ∙ (by_number k p m None).unoffered refl)
first_due k p m j last (d ∷ ds) r e =
    test (leb d.tick (suc j))
    (λ z. (leb-true d.tick (suc j) z, rw z))
    λ z. let rest = (above last last d ds (ltb last d.tick) refl (omega arith) r).1 in
    let none : offered (suc j) (d ∷ ds) ≡ None = rw z (not_due (suc j) d.tick ds (omega (arith, leb-false d.tick (suc j) z)) rest) in
    clash (sym e ∙ (by_number k p m (offered (suc j) (d ∷ ds))).unoffered none)

rest_rises : (last : ℕ) (ds : List Record) → rising last ds ≡ true → (next : ℕ) × (rising next (drop 1 ds) ≡ true)
rest_rises last [] r = (last, r)
rest_rises last (d ∷ ds) r = (d.tick, (above last last d ds (ltb last d.tick) refl (omega arith) r).1)

-- ---- what is known
module _ (v : ℕ → Offer) (k₀ : Core) (p m₀ : List ℕ) where
  abbrev at : ℕ → Core × List ℕ
  at j = after_by v k₀ p m₀ j

  abbrev tick : ℕ → Tick
  tick j = tick_by v k₀ p m₀ j

  abbrev enters : ℕ → Bool
  enters j = enters_by v k₀ p m₀ j

  -- from tick j to tick n none ends the run
  abbrev pub On : ℕ → ℕ → Type 0
  On j n = (i : ℕ) → j ≤ i → i < n → (refuses (tick i).answer ≡ false) × (stops (tick i).answer ≡ false)

  -- how a run ends that has `left` ticks left behind tick j
  pub record Spends (left j : ℕ) (r : Run) : Type 0 where
    pub answer : r.answer ≡ 24
    pub count : r.count ≡ j + left
    pub on : On j (j + left)

  pub record Refuses (left j : ℕ) (r : Run) : Type 0 where
    pub in_budget : r.count < j + left
    pub on : On j r.count
    pub refused : refuses (tick r.count).answer ≡ true
    pub answer : r.answer ≡ number_of (tick r.count).answer

  pub record Stops (left j : ℕ) (r : Run) : Type 0 where
    pub others : ℕ
    pub count : r.count ≡ suc others
    pub in_budget : others < j + left
    pub on : On j others
    pub stopped : stops (tick others).answer ≡ true
    pub answer : r.answer ≡ number_of (tick others).answer

  abbrev pub Ends : ℕ → ℕ → Run → Type 0
  Ends left j r = Spends left j r ⊎ (Refuses left j r ⊎ Stops left j r)

  -- record d was entered at tick `behind` + 1 of so many
  pub record Entry (d : Record) (behind many : ℕ) : Type 0 where
    pub in_run : behind < many
    pub due : d.tick ≤ suc behind
    pub offers : v (suc behind) ≡ Some d.vector
    pub answer : (tick behind).answer ≡ Entered

  -- the numbers of ds: entries that rise, and then 0
  abbrev pub Marked : ℕ → ℕ → List Record → List ℕ → Type 0
  Marked j many [] e = e ≡ []
  Marked j many (d ∷ ds) e =
      (e ≡ replicate (suc (length ds)) 0)
      ⊎ ((behind : ℕ) × ((after : List ℕ) × ((e ≡ suc behind ∷ after) × ((j ≤ behind) × (Entry d behind many × Marked (suc behind) many ds after)))))

  -- n is one of the numbers
  abbrev pub In : ℕ → List ℕ → Type 0
  In n e = (i : ℕ) × ((i < length e) × (get_or e i 0 ≡ n))

  pub record Known (left j : ℕ) (ds : List Record) (x : Scheduled) : Type 0 where
    pub low : j ≤ x.run.count
    pub stands : (x.run.core, x.run.bytes) ≡ at x.run.count
    pub ends : Ends left j x.run
    pub marked : Marked j x.run.count ds x.entries
    pub only : (i : ℕ) → j ≤ i → i < x.run.count → (tick i).answer ≡ Entered → In (suc i) x.entries
    pub as_many : how_many enters x.run.count ≡ how_many enters j + entered_in x.entries

  -- ---- one tick more
  on_from : (j n : ℕ) → (refuses (tick j).answer ≡ false) × (stops (tick j).answer ≡ false) → On (suc j) n → On j n
  on_from j n f g i h l = elim (eq-or-lt_of_le h) [ inl z ↦ subst (λ (u : ℕ). (refuses (tick u).answer ≡ false) × (stops (tick u).answer ≡ false)) z f | inr z ↦ g i z l ]

  ends_from : (left j : ℕ) (r : Run) → (refuses (tick j).answer ≡ false) × (stops (tick j).answer ≡ false) → Ends left (suc j) r → Ends (suc left) j r
  ends_from left j r f (inl x) =
      let same : j + suc left ≡ suc j + left = omega arith in
      inl (record { answer = x.answer; count = omega (arith, x.count); on = rw same (on_from j (suc j + left) f x.on) })
  ends_from left j r f (inr (inl x)) = inr (inl (record { in_budget = omega (arith, x.in_budget); on = on_from j r.count f x.on; refused = x.refused; answer = x.answer }))
  ends_from left j r f (inr (inr x)) =
      inr (inr (record { others = x.others; count = x.count; in_budget = omega (arith, x.in_budget); on = on_from j x.others f x.on; stopped = x.stopped; answer = x.answer }))

  zeros_marked : (j many : ℕ) (ds : List Record) → Marked j many ds (replicate (length ds) 0)
  zeros_marked j many [] = refl
  zeros_marked j many (d ∷ ds) = inl refl

  marked_from : (j many : ℕ) (ds : List Record) (e : List ℕ) → Marked (suc j) many ds e → Marked j many ds e
  marked_from j many [] e h = h
  marked_from j many (d ∷ ds) e (inl z) = inl z
  marked_from j many (d ∷ ds) e (inr (behind, (after, (is, (low, rest))))) = inr (behind, (after, (is, (omega (arith, low), rest))))

  marked_entry : (j many : ℕ) (ds : List Record) (e : List ℕ) → FirstDue j ds → v (suc j) ≡ offered (suc j) ds → j < many → (tick j).answer ≡ Entered
      → Marked (suc j) many (drop 1 ds) e → Marked j many ds (suc j ∷ e)
  marked_entry j many [] e f o l a h = absurd f
  marked_entry j many (d ∷ ds) e f o l a h = inr (j, (e, (refl, (omega arith, (record { in_run = l; due = f.0; offers = o ∙ f.1; answer = a }, h)))))

  none_entered : (n : ℕ) → entered_in (replicate n 0) ≡ 0
  none_entered zero = refl
  none_entered (suc n) = omega (arith, none_entered n)

  -- the tick behind j, from core and data that stand there
  module _ (left j : ℕ) (k : Core) (m : List ℕ) (ds : List Record) (here : at j ≡ (k, m)) (offer : v (suc j) ≡ offered (suc j) ds) where
    abbrev t : Tick
    t = tick_of k p m (offered (suc j) ds)

    abbrev entering : Scheduled
    entering = scheduled left (suc j) t.core p t.bytes (drop 1 ds)

    abbrev onward : Scheduled
    onward = scheduled left (suc j) t.core p t.bytes ds

    same : tick j ≡ t
    same = ap (λ (s : Core × List ℕ). tick_of s.0 p s.1 (v (suc j))) here ∙ ap (λ o. tick_of k p m o) offer

    next : at (suc j) ≡ (t.core, t.bytes)
    unfolding after_by
    next = ap (λ (z : Tick). (z.core, z.bytes)) same

    answers : (tick j).answer ≡ t.answer
    answers = ap (λ (z : Tick). z.answer) same

    -- what one tick adds to the count of entries
    counts : (e : Bool) → eqb (number_of t.answer) 17 ≡ e → how_many enters (suc j) ≡ how_many enters j + one e
    counts e z = ap (λ a. how_many enters j + one (eqb (number_of a) 17)) answers ∙ ap (λ y. how_many enters j + one y) z

    by_step : (r s e : Bool) → refuses t.answer ≡ r → stops t.answer ≡ s → eqb (number_of t.answer) 17 ≡ e
        → (eqb (number_of t.answer) 17 ≡ true → FirstDue j ds) → ByNumber (offered (suc j) ds) t
        → (r ≡ false → s ≡ false → e ≡ true → Known left (suc j) (drop 1 ds) entering) → (r ≡ false → s ≡ false → e ≡ false → Known left (suc j) ds onward)
        → Known (suc left) j ds (step_by r s e j t ds entering onward)
    by_step true s e er es ee f b x y =
        let kept = refused_keeps k p m (offered (suc j) ds) er in
        record {
          low = omega arith;
          stands = cc (kept.0, kept.1, here);
          ends = inr (inl (record { in_budget = omega arith; on = λ i g h. absurd (omega (arith, g, h)); refused = ap refuses answers ∙ er; answer = ap number_of (sym answers) }));
          marked = zeros_marked j j ds;
          only = λ i g h _. absurd (omega (arith, g, h));
          as_many = omega (arith, none_entered (length ds));
        }
    by_step false true e er es ee f b x y =
        let high = leb-true 22 (number_of t.answer) (sym b.ends ∙ es) in
        record {
          low = omega arith;
          stands = sym next;
          ends = inr (inr (record { others = j; count = refl; in_budget = omega arith; on = λ i g h. absurd (omega (arith, g, h)); stopped = ap stops answers ∙ es; answer = ap number_of (sym answers) }));
          marked = zeros_marked j (suc j) ds;
          only = λ i g h z. let now : i ≡ j = omega (arith, g, h) in clash (sym es ∙ ap stops (sym answers ∙ ap (λ (u : ℕ). (tick u).answer) (sym now) ∙ z));
          as_many = omega (arith, counts false (ne_eqb (number_of t.answer) 17 (λ z. omega (arith, z, high))), none_entered (length ds));
        }
    by_step false false true er es ee f b x y =
        let known = x refl refl refl in
        let entered = answers ∙ is_entered t.answer er ee in
        record {
          low = omega (arith, known.low);
          stands = known.stands;
          ends = ends_from left j entering.run (ap refuses answers ∙ er, ap stops answers ∙ es) known.ends;
          marked = marked_entry j entering.run.count ds entering.entries (f ee) offer known.low entered known.marked;
          only = λ i g h z. elim (eq-or-lt_of_le g) [
            | inl u ↦ (0, (omega arith, ap suc u))
            | inr u ↦ let (q, (l, w)) = known.only i u h z in (suc q, (omega (arith, l), w))
          ];
          as_many = rw (lt-ltb 0 (suc j) (omega arith)) (omega (arith, known.as_many, counts true ee));
        }
    by_step false false false er es ee f b x y =
        let known = y refl refl refl in
        record {
          low = omega (arith, known.low);
          stands = known.stands;
          ends = ends_from left j onward.run (ap refuses answers ∙ er, ap stops answers ∙ es) known.ends;
          marked = marked_from j onward.run.count ds onward.entries known.marked;
          only = λ i g h z. elim (eq-or-lt_of_le g) [
            | inl u ↦ clash (sym (ap (λ a. eqb (number_of a) 17) (sym answers ∙ ap (λ (w : ℕ). (tick w).answer) u ∙ z)) ∙ ee)
            | inr u ↦ known.only i u h z
          ];
          as_many = omega (arith, known.as_many, counts false ee);
        }

  pub known : (left j : ℕ) (k : Core) (m : List ℕ) (ds : List Record) (last : ℕ) → at j ≡ (k, m) → rising last ds ≡ true
      → ((n : ℕ) → j < n → v n ≡ offered_at ds (scheduled left j k p m ds).entries n) → Known left j ds (scheduled left j k p m ds)
  unfolding scheduled
  known zero j k m ds last here rises offers =
      record {
        low = omega arith;
        stands = sym here;
        ends = inl (record { answer = refl; count = omega arith; on = λ i g h. absurd (omega (arith, g, h)) });
        marked = zeros_marked j j ds;
        only = λ i g h _. absurd (omega (arith, g, h));
        as_many = omega (arith, none_entered (length ds));
      }
  known (suc left) j k m ds last here rises offers =
      let offer = offers (suc j) (omega arith) ∙ same_offer j ds (scheduled (suc left) j k p m ds).entries (later (suc left) j k p m ds) in
      let t = tick_of k p m (offered (suc j) ds) in
      let x = scheduled left (suc j) t.core p t.bytes (drop 1 ds) in
      let y = scheduled left (suc j) t.core p t.bytes ds in
      let step : Bool → Bool → Bool → Scheduled = λ r s e. step_by r s e j t ds x y in
      let (after, rest) = rest_rises last ds rises in
      let there = next left j k m ds here offer in
      by_step left j k m ds here offer (refuses t.answer) (stops t.answer) (eqb (number_of t.answer) 17) refl refl refl (first_due k p m j last ds rises) (by_number k p m (offered (suc j) ds))
      (λ er es ee. known left (suc j) t.core t.bytes (drop 1 ds) after there rest
      λ n h. offers n (omega (arith, h)) ∙ ap (λ r. offered_at ds (step r (stops t.answer) (eqb (number_of t.answer) 17)).entries n) er ∙ ap (λ s. offered_at ds (step false s (eqb (number_of t.answer) 17)).entries n) es
      ∙ ap (λ e. offered_at ds (step false false e).entries n) ee ∙ passed_over j ds x.entries n h)
      λ er es ee. known left (suc j) t.core t.bytes ds last there rises
      λ n h. offers n (omega (arith, h)) ∙ ap (λ r. offered_at ds (step r (stops t.answer) (eqb (number_of t.answer) 17)).entries n) er ∙ ap (λ s. offered_at ds (step false s (eqb (number_of t.answer) 17)).entries n) es
      ∙ ap (λ e. offered_at ds (step false false e).entries n) ee
