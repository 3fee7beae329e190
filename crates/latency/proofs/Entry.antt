-- The entry within eight ticks.
-- Assumes nothing.
use mathlib.Core.Path.{◌≡◌, refl, sym, ap, subst, ◌∙◌}
use mathlib.Core.Logic.{inl, inr}
use mathlib.Core.Bool.{Bool, true, false, not, ◌&&◌, ◌||◌}
use mathlib.Core.List.{List, [], ◌∷◌}
use Prim.Native.Nat.{ℕ, zero, suc, ◌+◌, ◌≤◌, ◌<◌}
use native.Mathlib.Nat.{not-suc-le-zero}
use native.Mathlib.Omega.{arith}
use lib.Dec.{eqb, leb, ltb}
use borrow.Author.Tests.{leb-true, le-leb, eqb-true, eqb-false}
use Rattle.basis.specs.Pick.{pick}
use Rattle.basis.proofs.Choice.{clash, test, either}
use Rattle.basis.proofs.Both.{both_true}
use Rattle.instruction.specs.Code.{one_of, is_sei}
use Rattle.instruction.specs.Decode.{decode_of}
use Rattle.instruction.specs.declared.Instruction.{Instruction}
use Rattle.instruction.specs.declared.Instruction.TheVariants.{RETI}
use Rattle.cores.specs.declared.Core.{Core}
use Rattle.cores.specs.State.{flag}
use Rattle.cores.specs.Flow.{op_at}
use Rattle.tick.specs.Tick.{number_of, refuses, stops}
use Rattle.tick.specs.Offer.{Offer}
use Rattle.run.specs.Lent.{offers}
use Rattle.schedule.specs.Laws.{after_by, tick_by, enters_by, how_many}
use Rattle.latency.specs.Entry.{before, core_at, runs, Waits, vector_offered, EntryBy, EntryWithinEight, EntryBehindTheWaits}
use Rattle.latency.proofs.Ticks.{enters, away, Stands, Allowed, one_tick}

-- ---- tests
not_true : (b : Bool) → not b ≡ true → b ≡ false
not_true true e = sym e
not_true false e = refl

-- what holds unless a tick entered holds where none did
unless_entered : (n : ℕ) (b : Bool) → n ≡ 0 → (ltb 0 n || b) ≡ true → b ≡ true
unless_entered n b z e = subst (λ (n : ℕ). (ltb 0 n || b) ≡ true) z e

or_true : (a : Bool) → (a || true) ≡ true
or_true true = refl
or_true false = refl

four_or_none : (b : Bool) → pick b 4 0 ≤ 4
four_or_none b = either (λ (n : ℕ). n ≤ 4) b 4 0 (omega arith) (omega arith)

-- of fewer ticks something holds at most as often
fewer : (holds : ℕ → Bool) (i n : ℕ) → i ≤ n → how_many holds i ≤ how_many holds n
fewer holds zero zero l = omega arith
fewer holds (suc i) zero l = absurd (not-suc-le-zero l)
fewer holds i (suc n) l =
    test (eqb i (suc n)) (λ e. subst (λ (j : ℕ). how_many holds i ≤ how_many holds j) (eqb-true i (suc n) e) (omega arith))
    (λ e. omega (arith, fewer holds i n (omega (arith, l, eqb-false i (suc n) e))))

-- ---- ticks before the entry
module _ (v : ℕ → Offer) (k : Core) (p m : List ℕ) where
  abbrev entered : ℕ → ℕ
  entered j = how_many (enters_by v k p m) j

  pub held : (n : ℕ) (holds : ℕ → Bool) → before v k p m n holds ≡ true → (j : ℕ) → j < n → entered (suc j) ≡ 0 → holds j ≡ true
  held zero holds h j l z = absurd (not-suc-le-zero l)
  held (suc n) holds h j l z =
      let (those, this) = both_true (before v k p m n holds) (ltb 0 (entered (suc n)) || holds n) h in
      test (eqb j n)
      (λ e. let same = eqb-true j n e in subst (λ (i : ℕ). holds i ≡ true) (sym same) (unless_entered (entered (suc n)) (holds n) (subst (λ (i : ℕ). entered (suc i) ≡ 0) same z) this))
      (λ e. held n holds those j (omega (arith, l, eqb-false j n e)) z)

  pub always : (n : ℕ) (holds : ℕ → Bool) → ((j : ℕ) → j < n → holds j ≡ true) → before v k p m n holds ≡ true
  always zero holds h = refl
  always (suc n) holds h = rw (always n holds (λ j l. h j (omega (arith, l))), h n (omega arith)) (or_true (ltb 0 (entered (suc n))))

  module _ (w : Waits v k p m) (o : vector_offered v k p m ≡ true) where
    -- a tick before the entry ends no run
    ends_not : (j : ℕ) → j < 8 → entered (suc j) ≡ 0 → (refuses (tick_by v k p m j).answer ≡ false) × (stops (tick_by v k p m j).answer ≡ false)
    ends_not j l z =
        let a = (tick_by v k p m j).answer in
        let both = both_true (not (refuses a)) (not (stops a)) (held 8 (λ i. not (refuses (tick_by v k p m i).answer) && not (stops (tick_by v k p m i).answer)) w.goes_on j l z) in
        (not_true (refuses a) both.0, not_true (stops a) both.1)

    pub goes_before : (behind : ℕ) → behind < 8 → entered behind ≡ 0 → (j : ℕ) → j < behind → (refuses (tick_by v k p m j).answer ≡ false) × (stops (tick_by v k p m j).answer ≡ false)
    goes_before behind l z j g =
        let none : entered (suc j) ≡ 0 = omega (arith, fewer (enters_by v k p m) (suc j) behind g, z) in ends_not j (omega (arith, l, g)) none

    -- what is assumed of it
    allowed : (j : ℕ) → j < 8 → entered (suc j) ≡ 0 → (core_at v k p m j).chip ≡ k.chip → Allowed (core_at v k p m j) p (v (suc j)) (tick_by v k p m j)
    allowed j l z c =
        let n = number_of (tick_by v k p m j).answer in
        let op = op_at decode_of p (core_at v k p m j).pc in
        let executes : 18 ≤ n → n ≤ 22 → (which : Instruction → Bool) → (leb 18 n && leb n 22 && which op) ≡ which op =
        λ g h which. rw (le-leb 18 n g, le-leb n 22 h) in
        record {
          offered = held 8 (λ i. offers (v (suc i))) o j l z;
          enabled = held 8 (λ i. flag (core_at v k p m i) 7) w.enabled j l z;
          goes = ends_not j l z;
          no_reti = λ g h. sym (executes g h (one_of (RETI ∷ []))) ∙ not_true (runs v k p m (one_of (RETI ∷ [])) j) (held 8 (λ i. not (runs v k p m (one_of (RETI ∷ [])) i)) w.no_reti j l z);
          no_sei = λ g h. sei k.chip (is_sei op) (core_at v k p m j).chip c (ap (λ (b : Bool). k.chip && b) (sym (executes g h is_sei)) ∙ not_true (k.chip && runs v k p m is_sei j) (held 8 (λ i. not (k.chip && runs v k p m is_sei i)) w.no_sei j l z));
        }
      where
        sei : (chip is there : Bool) → there ≡ chip → (chip && is) ≡ false → (is && there) ≡ false
        sei true true there e h = clash h
        sei true false there e h = refl
        sei false true there e h = e
        sei false false there e h = refl

    search : (n j : ℕ) → j + n ≤ 8 → away (core_at v k p m j) < n → Stands k.chip (core_at v k p m j) → entered j ≡ 0 → EntryBy v k p m (j + n)
    unfolding after_by
    search zero j l a s z = absurd (not-suc-le-zero a)
    search (suc n) j l a s z =
        let at = core_at v k p m j in
        let t = tick_by v k p m j in
        test (eqb (number_of t.answer) 17)
        (λ e. record { behind = j; in_time = omega (arith, l); answer = (enters at p (after_by v k p m j).1 (v (suc j)) e).answer; first = z })
        (λ e. let none : entered (suc j) ≡ 0 = rw e (omega (arith, z)) in
        elim (one_tick k.chip at p (after_by v k p m j).1 (v (suc j)) s (allowed j (omega (arith, l)) none s.rule)) [
          | inl y ↦ clash (sym (ap (λ a. eqb (number_of a) 17) y) ∙ e)
          | inr y ↦ let more : suc j + n ≡ j + suc n = omega arith in
              subst (λ (f : ℕ). EntryBy v k p m f) more (search n (suc j) (omega (arith, l)) (omega (arith, a, y.nearer)) y.stands none)
        ])

    start : Stands k.chip k
    start = record { brief = leb-true k.busy 3 w.brief; outside = not_true k.in_service w.outside; rule = refl }

    pub behind_the_waits : EntryBy v k p m (1 + k.busy + pick k.inhibit 4 0)
    unfolding after_by
    behind_the_waits =
        let e = search (suc (away k)) 0 (omega (arith, start.brief, four_or_none k.inhibit)) (omega arith) start refl in
        record { behind = e.behind; in_time = omega (arith, e.in_time); answer = e.answer; first = e.first }

pub entry_behind_the_waits : EntryBehindTheWaits
entry_behind_the_waits = behind_the_waits

pub entry_within_eight : EntryWithinEight
entry_within_eight v k p m w o =
    let e = behind_the_waits v k p m w o in
    let low = leb-true k.busy 3 w.brief in
    record { behind = e.behind; in_time = omega (arith, e.in_time, low, four_or_none k.inhibit); answer = e.answer; first = e.first }
