-- A scheduled run by its ticks: one, and many with no offer.
-- Assumes nothing.
use mathlib.Core.Path.{◌≡◌, refl, sym, ap, ◌∙◌}
use mathlib.Core.Bool.{Bool, true, false, ◌&&◌}
use mathlib.Core.List.{List, [], ◌∷◌}
use Prim.Native.Nat.{ℕ, zero, suc, ◌+◌, ◌≤◌, ◌<◌}
use native.Mathlib.Nat.{add-zero, zero-add}
use native.Mathlib.Omega.{arith}
use lib.Dec.{eqb, leb, ltb}
use lib.ListN.{drop}
use borrow.Author.Tests.{ltb-true, lt-ltb, lt-leb, ne_eqb}
use Rattle.basis.specs.Pick.{pick}
use Rattle.basis.proofs.Choice.{clash}
use Rattle.cores.specs.declared.Core.{Core}
use Rattle.instruction.specs.Decode.{decode_of}
use Rattle.execute.specs.declared.Done.{Done}
use Rattle.execute.specs.declared.Done.TheVariants as done
use Rattle.tick.specs.Tick.{Tick, number_of, refuses, stops, answer_of, due, tick_of}
use Rattle.tick.specs.Offer.{Offer}
use Rattle.std.specs.Prelude.{None}
use Rattle.tick.proofs.Steps.{every_tick, every_due, performed}
use Rattle.run.specs.Run.{Run, ended, after, ran, run_of}
use Rattle.run.specs.Lent.{offers}
use Rattle.run.proofs.Unroll.{step}
use Rattle.schedule.specs.Schedule.{Record, rising, offered, Scheduled, stopped, noted, scheduled}

-- ---- a tick's answer by its number
pub record ByNumber (o : Offer) (t : Tick) : Type 0 where
  pub refused : refuses t.answer ≡ ltb (number_of t.answer) 16
  pub ends : stops t.answer ≡ leb 22 (number_of t.answer)
  pub unoffered : o ≡ None → eqb (number_of t.answer) 17 ≡ false
  pub unspent : eqb (number_of t.answer) 24 ≡ false

done_number : (o : Offer) (d : Done) (k : Core) (m : List ℕ) → ByNumber o (record { answer = answer_of d; core = k; bytes = m })
done_number o done.Ran k m = record { refused = refl; ends = refl; unoffered = λ _. refl; unspent = refl }
done_number o done.Sleep k m = record { refused = refl; ends = refl; unoffered = λ _. refl; unspent = refl }
done_number o done.Watchdog k m = record { refused = refl; ends = refl; unoffered = λ _. refl; unspent = refl }
done_number o done.Undefined k m = record { refused = refl; ends = refl; unoffered = λ _. refl; unspent = refl }
done_number o done.Break k m = record { refused = refl; ends = refl; unoffered = λ _. refl; unspent = refl }

none_due : (k : Core) (o : Offer) → o ≡ None → offers (due k o) ≡ false
none_due k o e = every_due (λ x. offers x ≡ false) k o refl (λ _ _. ap offers e)

pub by_number : (k : Core) (p m : List ℕ) (o : Offer) → ByNumber o (tick_of k p m o)
by_number k p m o =
    every_tick decode_of (ByNumber o) k p m o
    (λ n g l. record { refused = sym (lt-ltb n 16 (omega arith)); ends = sym (lt-leb 22 n (omega arith)); unoffered = λ _. ne_eqb n 17 (λ e. omega (arith, e)); unspent = ne_eqb n 24 (λ e. omega (arith, e)) })
    (λ g l. record { refused = refl; ends = refl; unoffered = λ _. refl; unspent = refl })
    (λ z v d l. record { refused = refl; ends = refl; unoffered = λ e. clash (ap offers (sym d) ∙ none_due k o e); unspent = refl })
    (λ z d l. record { refused = refl; ends = refl; unoffered = λ _. refl; unspent = refl })
    λ z d l r. let x = performed decode_of k p m in done_number o x.done x.core x.bytes

-- ---- one tick
-- what a tick makes of a scheduled run, by whether it is refused, stops and enters; x is the rest where it enters, y where it does not
abbrev pub step_by : Bool → Bool → Bool → ℕ → Tick → List Record → Scheduled → Scheduled → Scheduled
step_by r s e count t ds x y =
    elim r [
      | true ↦ stopped (ended count t) ds
      | false ↦ elim s [
        | true ↦ stopped (ended (suc count) t) ds
        | false ↦ elim e [ true ↦ noted (suc count) x | false ↦ y ]
      ]
    ]

module _ (left count : ℕ) (k : Core) (p m : List ℕ) (ds : List Record) where
  abbrev pub t : Tick
  t = tick_of k p m (offered (suc count) ds)

  abbrev pub entering : Scheduled
  entering = scheduled left (suc count) t.core p t.bytes (drop 1 ds)

  abbrev pub onward : Scheduled
  onward = scheduled left (suc count) t.core p t.bytes ds

  abbrev pub number : ℕ
  number = number_of t.answer

  pub one_tick : scheduled (suc left) count k p m ds ≡ step_by (refuses t.answer) (stops t.answer) (eqb number 17) count t ds entering onward
  unfolding scheduled
  one_tick = refl

  pub tick_by : scheduled (suc left) count k p m ds ≡ step_by (ltb number 16) (leb 22 number) (eqb number 17) count t ds entering onward
  tick_by =
      let b = by_number k p m (offered (suc count) ds) in
      one_tick ∙ ap (λ r. step_by r (stops t.answer) (eqb number 17) count t ds entering onward) b.refused
      ∙ ap (λ s. step_by (ltb number 16) s (eqb number 17) count t ds entering onward) b.ends

-- ---- records that are not due
pub above : (tick last : ℕ) (d : Record) (ds : List Record) (b : Bool) → ltb last d.tick ≡ b → tick ≤ last → (b && rising d.tick ds) ≡ true
    → (tick < d.tick) × (rising d.tick ds ≡ true)
above tick last d ds true e h r = (omega (arith, ltb-true last d.tick e), r)
above tick last d ds false e h r = clash (sym r)

pub not_due : (tick last : ℕ) (ds : List Record) → tick ≤ last → rising last ds ≡ true → offered tick ds ≡ None
not_due tick last [] h r = refl
not_due tick last (d ∷ ds) h r =
    let (over, rest) = above tick last d ds (ltb last d.tick) refl h r in
    rw (lt-leb d.tick tick over) (not_due tick d.tick ds (omega (arith, over)) rest)

-- ---- many ticks with no offer
-- so long as no record is due, so many ticks are those of a run with no offer
abbrev pub quietly : ℕ → ℕ → Run → List ℕ → List Record → Scheduled
quietly left count r p ds = pick (eqb r.answer 24) (scheduled left (count + r.count) r.core p r.bytes ds) (stopped (after count r) ds)

one_quiet : (r s : Bool) (left count : ℕ) (t : Tick) (p : List ℕ) (ds : List Record) (x : Run) (e y : Scheduled)
    → eqb (number_of t.answer) 24 ≡ false → y ≡ quietly left (suc count) x p ds → step_by r s false count t ds e y ≡ quietly left count (step r s t x) p ds
one_quiet true s left count t p ds x e y u h = rw (u, add-zero)
one_quiet false true left count t p ds x e y u h = let one : count + 1 ≡ suc count = omega arith in rw (u, one)
one_quiet false false left count t p ds x e y u h = let more : count + (1 + x.count) ≡ suc count + x.count = omega arith in rw more h

pub quiet : (n left count : ℕ) (k : Core) (p m : List ℕ) (ds : List Record) → ((tick : ℕ) → count < tick → tick ≤ count + n → offered tick ds ≡ None)
    → scheduled (n + left) count k p m ds ≡ quietly left count (run_of n k p m None) p ds
unfolding ran
quiet zero left count k p m ds h = rw (add-zero, zero-add)
quiet (suc n) left count k p m ds h =
    let none = h (suc count) (omega arith) (omega arith) in
    let t = tick_of k p m None in
    let b = by_number k p m None in
    let same : tick_of k p m (offered (suc count) ds) ≡ t = ap (λ o. tick_of k p m o) none in
    let more : suc n + left ≡ suc (n + left) = omega arith in
    ap (λ (z : ℕ). scheduled z count k p m ds) more ∙ one_tick (n + left) count k p m ds
    ∙ ap (λ (z : Tick). step_by (refuses z.answer) (stops z.answer) (eqb (number_of z.answer) 17) count z ds (scheduled (n + left) (suc count) z.core p z.bytes (drop 1 ds)) (scheduled (n + left) (suc count) z.core p z.bytes ds)) same
    ∙ ap (λ e. step_by (refuses t.answer) (stops t.answer) e count t ds (scheduled (n + left) (suc count) t.core p t.bytes (drop 1 ds)) (scheduled (n + left) (suc count) t.core p t.bytes ds)) (b.unoffered refl)
    ∙ one_quiet (refuses t.answer) (stops t.answer) left count t p ds (run_of n t.core p t.bytes None)
    (scheduled (n + left) (suc count) t.core p t.bytes (drop 1 ds)) (scheduled (n + left) (suc count) t.core p t.bytes ds) b.unspent
    (quiet n left (suc count) t.core p t.bytes ds (λ tick f g. h tick (omega (arith, f)) (omega (arith, g))))
