-- What the run gives, refused by a check and passed; and the numbers of the records that it entered.
-- s is a snapshot, p a program, m the bytes of data, l the bytes of a list of records, e are numbers; x is what a scheduled run gives.
-- Assumes nothing.
use mathlib.Core.Path.{◌≡◌, refl, sym, ap, ◌∙◌}
use mathlib.Core.Bool.{Bool, true, false}
use mathlib.Core.List.{List, [], ◌∷◌, ◌++◌, append_assoc}
use Prim.Native.Nat.{ℕ, zero, suc, ◌/◌, ◌%◌}
use native.Mathlib.Omega.{arith}
use lib.Dec.{eqb, ltb}
use lib.ListN.{get_or, drop, length, replicate}
use borrow.Author.Tests.{eq-eqb, eqb-true}
use Rattle.basis.specs.Pick.{pick}
use Rattle.basis.proofs.Choice.{test}
use Rattle.cores.specs.declared.Core.{Core}
use Rattle.snapshot.specs.Snapshot.{core_of, refused_read, read_of, write_of}
use Rattle.run.specs.Over.{said_by}
use Rattle.schedule.specs.Schedule.{records_of, refusal_of, Scheduled, scheduled, numbers_of, refusal_in, ScheduleIn, schedule_from}
use Rattle.schedule.specs.Laws.{entered_of}
use Rattle.rerunning.specs.Rerun.{four, fours}

abbrev pub given : Scheduled → List ℕ → List ℕ → ScheduleIn
given x s e =
    record { run = record { answer = x.run.answer; count = x.run.count; snapshot = (write_of x.run.core s).bytes; bytes = x.run.bytes }; numbers = numbers_of x.entries e }

-- ---- the checks
neither : (q w : ℕ) → q ≡ 0 → w ≡ 0 → pick (eqb q 0) w q ≡ 0
neither q w h g = rw h g

-- no check's number is 24
read_apart : (u v w : Bool) (k : Core) → (let r = pick u (pick v (refused_read 8) (pick w (record { refusal = 0; core = k }) (refused_read 9))) (refused_read 7) in r.refusal ≡ 24 → ⊥)
read_apart false v w k h = omega (arith, h)
read_apart true true w k h = omega (arith, h)
read_apart true false false k h = omega (arith, h)
read_apart true false true k h = omega (arith, h)

-- where the list is taken, only the snapshot can be refused; q is its refusal, w the list's
by_read : (q w : ℕ) (u v : ScheduleIn) → v.run.answer ≡ pick (eqb q 0) w q → (q ≡ 24 → ⊥) → (pick (eqb (pick (eqb q 0) w q) 0) u v).run.answer ≡ 24 → q ≡ 0
by_read q w u v is n f = test (eqb q 0) (λ e. eqb-true q 0 e) (λ e. absurd (n (sym (rw e at is) ∙ (rw (e, e) at f))))

module _ (s p m l : List ℕ) (done left : ℕ) (e : List ℕ) where
  pub passed : (read_of s).refusal ≡ 0 → refusal_of l (length e) ≡ 0 → schedule_from s p m l done left e ≡ given (scheduled left done (said_by s) p m (records_of l)) s e
  passed h g = let yes = eq-eqb (refusal_in s l (length e)) 0 (neither (read_of s).refusal (refusal_of l (length e)) h g) in rw yes

  -- so an answer of 24 is no check's
  pub read_then : (schedule_from s p m l done left e).run.answer ≡ 24 → (read_of s).refusal ≡ 0
  read_then h =
      let r = scheduled left done (said_by s) p m (records_of l) in
      let n = refusal_in s l (length e) in
      by_read (read_of s).refusal (refusal_of l (length e)) (given r s e) (record { run = record { answer = n; count = done; snapshot = s; bytes = m }; numbers = e }) refl
      (read_apart (eqb (length s) 38) (ltb 4 (get_or s 37 0 / 32)) (eqb (get_or s 37 0 % 4) 0) (core_of s)) h

-- ---- the numbers
pub only_zeros : (n i : ℕ) → entered_of (drop i (replicate n 0)) ≡ []
unfolding entered_of
only_zeros zero zero = refl
only_zeros zero (suc i) = refl
only_zeros (suc n) zero = refl
only_zeros (suc n) (suc i) = only_zeros n i

in_front : (e y : List ℕ) → entered_of y ≡ [] → entered_of (e ++ y) ≡ entered_of e
unfolding entered_of
in_front [] y h = h
in_front (n ∷ e) y h = ap (λ (l : List ℕ). pick (eqb n 0) [] (n ∷ l)) (in_front e y h)

pub entered_numbers : (e : List ℕ) (n : ℕ) → entered_of (numbers_of e (replicate n 0)) ≡ entered_of e
entered_numbers e n = in_front e (drop (length e) (replicate n 0)) (only_zeros n (length e))

-- behind those that were entered
behind_by : (n : ℕ) (e y : List ℕ) (b : Bool) → eqb n 0 ≡ b → entered_of (entered_of e ++ y) ≡ entered_of e ++ entered_of y → entered_of (entered_of (n ∷ e) ++ y) ≡ entered_of (n ∷ e) ++ entered_of y
unfolding entered_of
behind_by n e y true h r = rw h
behind_by n e y false h r = rw (h, h) (ap (λ (l : List ℕ). n ∷ l) r)

pub entered_behind : (e y : List ℕ) → entered_of (entered_of e ++ y) ≡ entered_of e ++ entered_of y
unfolding entered_of
entered_behind [] y = refl
entered_behind (n ∷ e) y = behind_by n e y (eqb n 0) refl (entered_behind e y)

fours_both : (a b : List ℕ) → fours (a ++ b) ≡ fours a ++ fours b
unfolding fours
fours_both [] b = refl
fours_both (n ∷ a) b = ap (λ (l : List ℕ). four n ++ l) (fours_both a b)

pub fours_joined : (s a b : List ℕ) → (s ++ fours a) ++ fours b ≡ s ++ fours (a ++ b)
fours_joined s a b = append_assoc s (fours a) (fours b) ∙ ap (λ (l : List ℕ). s ++ l) (sym (fours_both a b))
