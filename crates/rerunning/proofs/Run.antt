-- What the run gives, laid out: a is what `go_on` hands back, s', m' and e' what it leaves of core, data and numbers, and more are those that were entered.
-- Assumes nothing.
use mathlib.Core.Path.{◌≡◌, ap, subst, ◌∙◌}
use mathlib.Core.List.{List, ◌∷◌, ◌++◌}
use Prim.Native.Nat.{ℕ, ◌*◌, ◌-◌}
use lib.ListN.{drop, length, replicate}
use borrow.Author.Tests.{ne_eqb}
use Rattle.std.specs.Prelude.{Result, Ok, Err}
use Rattle.run.specs.declared.over.Over.{Over}
use Rattle.run.proofs.Ends.{ends_have_their_numbers}
use Rattle.page.specs.Gains.{Gains}
use Rattle.page.specs.declared.Page.{Page}
use Rattle.schedule.specs.Schedule.{ScheduleIn, schedule_from, refusal_in, started, over_of}
use Rattle.schedule.specs.Laws.{entered_of}
use Rattle.schedule.specs.declared.Refused.{Refused}
use Rattle.schedule.proofs.Refusals.{started_ok, started_refused}
use Rattle.rerunning.specs.Rerun.{State, many_of, fours, state_of, ran_of, gone_on, after_of}
use Rattle.rerunning.specs.Lent.{told_by}

-- the number and the ticks
module _ (s p m l : List ℕ) (done left : ℕ) (e : List ℕ) where
  abbrev x : ScheduleIn
  x = schedule_from s p m l done left e

  abbrev refusal : ℕ
  refusal = refusal_in s l (length e)

  told : (a : Result Over Refused) → a ≡ started refusal (over_of x.run) → told_by a done ≡ (x.run.answer, x.run.count)
  told (Ok a) h =
      let (_, is) = started_ok refusal (over_of x.run) h in
      ap (λ a. told_by (Ok a) done) is ∙ ap (λ (n : ℕ). (n, x.run.count)) (ends_have_their_numbers x.run.answer)
  told (Err a) h =
      let (some, number) = started_refused s l (length e) (over_of x.run) h in
      let none : (refusal, done) ≡ (x.run.answer, x.run.count) = rw (ne_eqb refusal 0 some) in
      ap (λ (n : ℕ). (n, done)) number ∙ none

-- s and m are copies of core and data, and l are the records that are not entered
module _ (b : ℕ) (z : State) (p r : List ℕ) {s m l : List ℕ} (core : s ≡ z.core) (bytes : m ≡ z.bytes) (is : l ≡ drop (many_of z * 5) r) where
  abbrev blank : List ℕ
  blank = replicate 65536 0

  abbrev given : ScheduleIn
  given = schedule_from s p m l z.done (b - z.done) blank

  after : given ≡ after_of b z p r
  after = rw (core, bytes, is)

  pub laid_out : {g h : Page} {a : Result Over Refused} {s' m' e' more : List ℕ} → a ≡ started (refusal_in s l (length blank)) (over_of given.run)
      → s' ≡ given.run.snapshot → m' ≡ given.run.bytes → e' ≡ given.numbers → more ≡ entered_of e'
      → let t = told_by a z.done in Gains g (0 ∷ t.0 ∷ (state_of (record { done = t.1; core = s'; entered = z.entered ++ fours more; bytes = m' }) ++ r)) h → Gains g (gone_on b z p r) h
  laid_out {g} {h} {a} {s'} {m'} {e'} {more} value core_after bytes_after numbers new puts =
      let t = told_by a z.done in
      let laid : 0 ∷ t.0 ∷ (state_of (record { done = t.1; core = s'; entered = z.entered ++ fours more; bytes = m' }) ++ r) ≡ ran_of z r given =
      rw (told s p m l z.done (b - z.done) blank a value, core_after, bytes_after, new, numbers) in
      subst (λ (t : List ℕ). Gains g t h) (laid ∙ ap (ran_of z r) after) puts
