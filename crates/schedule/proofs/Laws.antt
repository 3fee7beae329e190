-- The laws of scheduled runs.
-- Assumes nothing.
use mathlib.Core.Path.{◌≡◌, refl, sym, ap, subst, ◌∙◌}
use mathlib.Core.Logic.{◌⊎◌, inl, inr}
use mathlib.Core.Bool.{Bool, true, false}
use mathlib.Core.List.{List, [], ◌∷◌}
use Prim.Native.Nat.{ℕ, zero, suc, ◌+◌, ◌-◌, ◌/◌, ◌≤◌, ◌<◌}
use native.Mathlib.Nat.{add-zero, zero-add, not-suc-le-zero, le_of_suc-le-suc}
use native.Mathlib.Omega.{arith}
use lib.Dec.{eqb}
use lib.ListN.{get_or, drop, length, replicate, length-append, length-replicate, length-drop, get_or-append}
use lib.Seq.{get_or-append-add, get_or-drop}
use borrow.Author.Tests.{le-ltb, eq-eqb, eqb-true}
use Rattle.basis.specs.Pick.{pick}
use Rattle.basis.proofs.Choice.{cases}
use Rattle.cores.specs.declared.Core.{Core}
use Rattle.tick.specs.Tick.{Tick, number_of, refuses, stops, tick_of}
use Rattle.tick.specs.Offer.{Offer}
use Rattle.std.specs.Prelude.{Some, None}
use Rattle.run.specs.Run.{after, run_of}
use Rattle.schedule.specs.Schedule.{Record, record_at, records_from, records_of, rising, refusal_of, offered, Scheduled, stopped, noted, scheduled, numbers_of, Schedule}
use Rattle.schedule.specs.Laws.{after_by, offers, x, SingleTicks, SchedulesAreTicks, NumbersWritten, EmptyListIsARun, SameScheduleUnderLargerBudget}
use Rattle.schedule.proofs.Steps.{step_by, quiet}
use Rattle.schedule.proofs.Following.{many_records}
use Rattle.schedule.proofs.Checks.{passed_rises, passed_room}
use Rattle.schedule.proofs.Known.{Entry, Marked, Known, known}

-- ---- the numbers, one by one
zero_at : (n i : ℕ) → get_or {A = ℕ} (replicate n 0) i 0 ≡ 0
zero_at zero i = refl
zero_at (suc n) zero = refl
zero_at (suc n) (suc i) = zero_at n i

module _ (v : ℕ → Offer) (k : Core) (p m : List ℕ) where
  long : (j many : ℕ) (ds : List Record) (e : List ℕ) → Marked v k p m j many ds e → length e ≡ length ds
  long j many [] e h = ap length h
  long j many (d ∷ ds) e (inl z) = ap length z ∙ length-replicate (suc (length ds)) 0
  long j many (d ∷ ds) e (inr (behind, (after, (is, (low, (entry, rest)))))) = ap length is ∙ ap suc (long (suc behind) many ds after rest)

  higher : (j many : ℕ) (ds : List Record) (e : List ℕ) → Marked v k p m j many ds e → (i : ℕ) → 0 < get_or e i 0 → j < get_or e i 0
  higher j many [] e h i g = absurd (omega (arith, g, ap (λ (l : List ℕ). get_or l i 0) h))
  higher j many (d ∷ ds) e (inl z) i g = absurd (omega (arith, g, ap (λ (l : List ℕ). get_or l i 0) z ∙ zero_at (suc (length ds)) i))
  higher j many (d ∷ ds) e (inr (behind, (after, (is, (low, (entry, rest)))))) zero g = omega (arith, ap (λ (l : List ℕ). get_or l 0 0) is, low)
  higher j many (d ∷ ds) e (inr (behind, (after, (is, (low, (entry, rest)))))) (suc i) g =
      let there = ap (λ (l : List ℕ). get_or l (suc i) 0) is in
      omega (arith, there, higher (suc behind) many ds after rest i (omega (arith, g, there)), low)

  rises : (j many : ℕ) (ds : List Record) (e : List ℕ) → Marked v k p m j many ds e → (i later : ℕ) → i < later → 0 < get_or e later 0 → (0 < get_or e i 0) × (get_or e i 0 < get_or e later 0)
  rises j many [] e h i later l g = absurd (omega (arith, g, ap (λ (l : List ℕ). get_or l later 0) h))
  rises j many (d ∷ ds) e (inl z) i later l g = absurd (omega (arith, g, ap (λ (l : List ℕ). get_or l later 0) z ∙ zero_at (suc (length ds)) later))
  rises j many (d ∷ ds) e (inr h) i zero l g = absurd (not-suc-le-zero l)
  rises j many (d ∷ ds) e (inr (behind, (after, (is, (low, (entry, rest)))))) zero (suc later) l g =
      let here = ap (λ (l : List ℕ). get_or l 0 0) is in
      let there = ap (λ (l : List ℕ). get_or l (suc later) 0) is in
      let high = higher (suc behind) many ds after rest later (omega (arith, g, there)) in
      (omega (arith, here), omega (arith, here, there, high))
  rises j many (d ∷ ds) e (inr (behind, (after, (is, (low, (entry, rest)))))) (suc i) (suc later) l g =
      let here = ap (λ (l : List ℕ). get_or l (suc i) 0) is in
      let there = ap (λ (l : List ℕ). get_or l (suc later) 0) is in
      let both = rises (suc behind) many ds after rest i later (le_of_suc-le-suc l) (omega (arith, g, there)) in
      (omega (arith, here, both.0), omega (arith, here, there, both.1))

  -- record number i of those from `from` on
  each : (j many : ℕ) (l : List ℕ) (from n : ℕ) (e : List ℕ) → Marked v k p m j many (records_from l from n) e → (i : ℕ) → i < n
      → (get_or e i 0 ≡ 0) ⊎ ((behind : ℕ) × ((get_or e i 0 ≡ suc behind) × Entry v k p m (record_at l (from + i)) behind many))
  each j many l from zero e h i g = absurd (not-suc-le-zero g)
  each j many l from (suc n) e (inl z) i g = inl (ap (λ (l : List ℕ). get_or l i 0) z ∙ zero_at (suc (length (records_from l (suc from) n))) i)
  each j many l from (suc n) e (inr (behind, (after, (is, (low, (entry, rest)))))) zero g =
      inr (behind, (ap (λ (l : List ℕ). get_or l 0 0) is, rw add-zero entry))
  each j many l from (suc n) e (inr (behind, (after, (is, (low, (entry, rest)))))) (suc i) g =
      let there = ap (λ (l : List ℕ). get_or l (suc i) 0) is in
      let same : from + suc i ≡ suc from + i = omega arith in
      elim (each (suc behind) many l (suc from) n after rest i (le_of_suc-le-suc g)) [
        | inl z ↦ inl (there ∙ z)
        | inr (b, (z, y)) ↦ inr (b, (there ∙ z, rw same y))
      ]

-- ---- single ticks
module _ (b : ℕ) (k : Core) (p m l : List ℕ) (h : rising 0 (records_of l) ≡ true) where
  all : Known (offers b k p m l) k p m b 0 (records_of l) (x b k p m l)
  unfolding after_by
  all = known (offers b k p m l) k p m b 0 k m (records_of l) 0 refl h (λ n _. refl)

  many : length (x b k p m l).entries ≡ length l / 5
  many = long (offers b k p m l) k p m 0 (x b k p m l).run.count (records_of l) (x b k p m l).entries all.marked ∙ many_records l 0 (length l / 5)

  single_ticks : SingleTicks b k p m l
  single_ticks =
      let v = offers b k p m l in
      let y = x b k p m l in
      record {
        stands = all.stands;
        ends = elim all.ends [
          | inl z ↦ inl (record { answer = z.answer; count = omega (arith, z.count); before = λ j g. z.on j (omega arith) (omega (arith, g)) })
          | inr (inl z) ↦ inr (inl (record { in_budget = omega (arith, z.in_budget); before = λ j g. z.on j (omega arith) g; refused = z.refused; answer = z.answer }))
          | inr (inr z) ↦ inr (inr (record {
            others = z.others;
            count = z.count;
            in_budget = omega (arith, z.in_budget);
            before = λ j g. z.on j (omega arith) g;
            stopped = z.stopped;
            answer = z.answer;
          }))
        ];
        numbers = many;
        each = λ i g. elim (each v k p m 0 y.run.count l 0 (length l / 5) y.entries all.marked i g) [
          | inl z ↦ inl z
          | inr (behind, (z, entry)) ↦ let same = zero-add i in
              inr (behind, record { number = z; in_run = entry.in_run; due = subst (λ (n : ℕ). (record_at l n).tick ≤ suc behind) same entry.due; offered = subst (λ (n : ℕ). v (suc behind) ≡ Some (record_at l n).vector) same entry.offers; answer = entry.answer })
        ];
        only = λ j g z. let (i, (low, is)) = all.only j (omega arith) g z in (i, (omega (arith, low, many), is));
        as_many = omega (arith, all.as_many);
        rise = λ i later g z. rises v k p m 0 y.run.count (records_of l) y.entries all.marked i later g z;
      }

pub schedules_are_ticks : SchedulesAreTicks
schedules_are_ticks b k p m l h = single_ticks b k p m l h

-- ---- the output
pub numbers_written : NumbersWritten
numbers_written b k p m l e h =
    let entries = (x b k p m l).entries in
    let some = many b k p m l (passed_rises l (length e) h) in
    let room = passed_room l (length e) h in
    let passed = eq-eqb (refusal_of l (length e)) 0 h in
    rw passed (
      rw (length-append, length-drop) (omega (arith, some, room)),
      λ i. (
        λ g. get_or-append entries (drop (length entries) e) 0 i (omega (arith, g, some)),
        λ g. let there : length entries + (i - length entries) ≡ i = omega (arith, g, some) in
            ap (λ (n : ℕ). get_or (numbers_of entries e) n 0) (sym there) ∙ get_or-append-add entries (drop (length entries) e) (i - length entries) 0
            ∙ get_or-drop (length entries) e (i - length entries) 0 ∙ ap (λ (n : ℕ). get_or e n 0) there,
      ),
    )

-- ---- an empty list
empty : (b : ℕ) (k : Core) (p m : List ℕ) → scheduled b 0 k p m [] ≡ stopped (run_of b k p m None) []
unfolding scheduled
empty b k p m =
    let r = run_of b k p m None in
    let more : b + 0 ≡ b = add-zero b in
    let count : 0 + r.count ≡ r.count = omega arith in
    ap (λ (n : ℕ). scheduled n 0 k p m []) (sym more) ∙ quiet b 0 0 k p m [] (λ _ _ _. refl)
    ∙ cases (λ (z : Scheduled). z ≡ stopped r []) (eqb r.answer 24) (scheduled 0 (0 + r.count) r.core p r.bytes []) (stopped (after 0 r) [])
    (λ e. rw (count, eqb-true r.answer 24 e)) (λ _. rw count)

pub empty_list_is_a_run : EmptyListIsARun
empty_list_is_a_run b k p m e = rw (le-ltb (length e) 0 (omega arith)) (ap (λ (z : Scheduled). record { run = z.run; numbers = numbers_of z.entries e }) (empty b k p m))

-- ---- a larger budget
lifted : (r s e : Bool) (j : ℕ) (t : Tick) (ds : List Record) (x y x' y' : Scheduled) → ((x.run.answer ≡ 24 → ⊥) → x' ≡ x) → ((y.run.answer ≡ 24 → ⊥) → y' ≡ y)
    → ((step_by r s e j t ds x y).run.answer ≡ 24 → ⊥) → step_by r s e j t ds x' y' ≡ step_by r s e j t ds x y
lifted true s e j t ds x y x' y' f g n = refl
lifted false true e j t ds x y x' y' f g n = refl
lifted false false true j t ds x y x' y' f g n = ap (noted (suc j)) (f n)
lifted false false false j t ds x y x' y' f g n = g n

larger_budget : (b larger j : ℕ) → b ≤ larger → (k : Core) (p m : List ℕ) (ds : List Record) → ((scheduled b j k p m ds).run.answer ≡ 24 → ⊥) → scheduled larger j k p m ds ≡ scheduled b j k p m ds
unfolding scheduled
larger_budget zero larger j h k p m ds n = absurd (n refl)
larger_budget (suc b) zero j h k p m ds n = absurd (not-suc-le-zero h)
larger_budget (suc b) (suc larger) j h k p m ds n =
    let t = tick_of k p m (offered (suc j) ds) in
    let rest : ℕ → List Record → Scheduled = λ left. scheduled left (suc j) t.core p t.bytes in
    lifted (refuses t.answer) (stops t.answer) (eqb (number_of t.answer) 17) j t ds (rest b (drop 1 ds)) (rest b ds) (rest larger (drop 1 ds)) (rest larger ds)
    (larger_budget b larger (suc j) (le_of_suc-le-suc h) t.core p t.bytes (drop 1 ds)) (larger_budget b larger (suc j) (le_of_suc-le-suc h) t.core p t.bytes ds) n

either_way : (c : Bool) (x y : Scheduled) (e : List ℕ) (z : Schedule) → ((x.run.answer ≡ 24 → ⊥) → y ≡ x)
    → ((pick c (record { run = x.run; numbers = numbers_of x.entries e }) z).run.answer ≡ 24 → ⊥)
    → pick c (record { run = y.run; numbers = numbers_of y.entries e }) z ≡ pick c (record { run = x.run; numbers = numbers_of x.entries e }) z
either_way true x y e z f n = ap (λ (w : Scheduled). record { run = w.run; numbers = numbers_of w.entries e }) (f n)
either_way false x y e z f n = refl

pub same_schedule_under_larger_budget : SameScheduleUnderLargerBudget
same_schedule_under_larger_budget b larger h k p m l e n =
    let refusal = refusal_of l (length e) in
    either_way (eqb refusal 0) (scheduled b 0 k p m (records_of l)) (scheduled larger 0 k p m (records_of l)) e (record { run = record { answer = refusal; count = 0; core = k; bytes = m }; numbers = e })
    (larger_budget b larger 0 h k p m (records_of l)) n
