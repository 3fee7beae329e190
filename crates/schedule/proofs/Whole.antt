-- The calls: refused by a check, and passed on.
-- Assumes nothing.
use mathlib.Core.Path.{◌≡◌, refl, sym, ap, ◌∙◌}
use mathlib.Core.Logic.{inl, inr}
use mathlib.Core.Bool.{Bool, true, false, not, ◌&&◌}
use mathlib.Core.List.{List, ◌++◌}
use Prim.Native.Nat.{ℕ, zero, suc, ◌-◌, ◌/◌, ◌%◌, ◌<◌, ◌≤◌, max}
use native.Mathlib.Nat.{sub-zero}
use native.Mathlib.Omega.{arith}
use lib.Dec.{eqb, leb, ltb}
use lib.ListN.{take, drop, length, replicate, length-replicate}
use borrow.Author.Tests.{eq-eqb, ne_eqb, le-leb, lt-leb}
use Rattle.basis.specs.Pick.{pick}
use Rattle.basis.specs.Bytes.{Bytes}
use Rattle.basis.proofs.Choice.{clash}
use Rattle.cores.specs.declared.Core.{Core}
use Rattle.cores.specs.State.{Sound}
use Rattle.snapshot.specs.declared.Unreadable.{Unreadable}
use Rattle.tick.specs.Tick.{Tick, number_of, refuses, stops, tick_of}
use Rattle.std.specs.Prelude.{None, Result, Ok, Err}
use Rattle.invariants.specs.Ticks.{TickNumber}
use Rattle.invariants.proofs.Ticks.{ticks_answer_tick_numbers}
use Rattle.snapshot.specs.declared.Unwritable.{Unwritable}
use Rattle.snapshot.specs.Snapshot.{said_read, said_write, unwritable_number, read_of, write_of}
use Rattle.snapshot.proofs.RoundTrips.{reading_undoes_writing, writing_undoes_reading}
use Rattle.run.specs.declared.Ended.{Ended}
use Rattle.run.specs.declared.Ended.TheVariants as end
use Rattle.run.specs.declared.Ran.{Ran}
use Rattle.run.specs.Run.{Run, ended_number, ended_of}
use Rattle.run.specs.Over.{said_by}
use Rattle.run.specs.Over as over
use Rattle.run.specs.declared.over.Over.{Over}
use Rattle.run.proofs.Calls.{run_in_refused, check_told}
use Rattle.run.proofs.Through.{too_busy_lem, not_written}
use Rattle.schedule.specs.Schedule.{Record, records_of, rising, refusal_of, offered, Scheduled, stopped, scheduled, numbers_of, Schedule, schedule_of, said_check, listed, ran_of, refusal_in, schedule_in, schedule_from, of_check}
use Rattle.schedule.specs.Follow.{rest_from, Follows}
use Rattle.schedule.proofs.Steps.{step_by, one_tick}
use Rattle.schedule.proofs.Following.{many_records}
use Rattle.schedule.proofs.Checks.{cleared}
use Rattle.schedule.proofs.Refusals.{listed_is, list_passed}
use Rattle.schedule.specs.declared.list.Unlisted.{Unlisted}

-- ---- over a snapshot
module _ (s p m l : List ℕ) (done b : ℕ) (e : List ℕ) where
  pub in_refused : (n : ℕ) → refusal_in s l (length e) ≡ n → (n ≡ 0 → ⊥)
      → schedule_from s p m l done (b - done) e ≡ record { run = record { answer = n; count = done; snapshot = s; bytes = m }; numbers = e }
  in_refused n g h =
      let no = ne_eqb (refusal_in s l (length e)) 0 (λ z. h (sym g ∙ z)) in
      rw (no, g)

  -- `follow` is given a budget that is no less than what is done
  pub in_passed : refusal_in s l (length e) ≡ 0 → length s ≡ 38 → (a : Over) (u : ℕ) {s' m' e' : List ℕ} → u ≡ max b done → Bytes s' → Follows s p m l done u e a s' m' e'
      → schedule_from s p m l done (b - done) e ≡ record { run = record { answer = ended_number a.ended; count = a.ticks; snapshot = s'; bytes = m' }; numbers = e' }
  in_passed g long a u {s'} {m'} {e'} is bs w =
      let yes = eq-eqb (refusal_in s l (length e)) 0 g in
      let left : u - done ≡ b - done = omega (arith, is) in
      let same : rest_from u done s p m (records_of l) ≡ rest_from b done s p m (records_of l) = ap (λ (n : ℕ). scheduled n done (said_by s) p m (records_of l)) left in
      let run = w.run ∙ ap (λ x. x.run) same in
      let back = ap (λ r. r.bytes) (writing_undoes_reading s' s bs w.read long) in
      let numbers : e' ≡ numbers_of (rest_from b done s p m (records_of l)).entries e = w.numbers ∙ ap (λ x. numbers_of x.entries e) same in
      rw (yes, ← run, back, ← numbers)

-- ---- of a core
module _ (b : ℕ) (k : Core) (p m l e : List ℕ) where
  abbrev y : Scheduled
  y = scheduled b 0 k p m (records_of l)

  of_refused : (n : ℕ) → refusal_of l (length e) ≡ n → (n ≡ 0 → ⊥) → schedule_of b k p m l e ≡ record { run = record { answer = n; count = 0; core = k; bytes = m }; numbers = e }
  of_refused n g h =
      let no = ne_eqb (refusal_of l (length e)) 0 (λ z. h (sym g ∙ z)) in
      rw (no, g)

  -- by what the scheduled run is
  of_passed : refusal_of l (length e) ≡ 0 → {r : Run} {e' : List ℕ} → y.run ≡ r → numbers_of y.entries e ≡ e' → schedule_of b k p m l e ≡ record { run = r; numbers = e' }
  of_passed g f n =
      let yes = eq-eqb (refusal_of l (length e)) 0 g in
      rw (yes, f, n)

  -- "Busy above 4: refusal 5", and with no budget 24
  at_once : (b : ℕ) (ds : List Record) → 4 < k.busy → scheduled b 0 k p m ds ≡ stopped (record { answer = pick (eqb b 0) 24 5; count = 0; core = k; bytes = m }) ds
  unfolding scheduled
  at_once zero ds h = refl
  at_once (suc b) ds h =
      rw (ne_eqb (suc b) 0 (λ z. omega (arith, z))) (one_tick b 0 k p m ds
      ∙ ap (λ (t : Tick). step_by (refuses t.answer) (stops t.answer) (eqb (number_of t.answer) 17) 0 t ds (scheduled b 1 t.core p t.bytes (drop 1 ds)) (scheduled b 1 t.core p t.bytes ds))
      (too_busy_lem k p m (offered 1 ds) h))

  of_busy : refusal_of l (length e) ≡ 0 → 4 < k.busy
      → schedule_of b k p m l e ≡ record { run = record { answer = pick (eqb b 0) 24 5; count = 0; core = k; bytes = m }; numbers = replicate (length l / 5) 0 ++ drop (length l / 5) e }
  of_busy g h =
      let is = at_once b (records_of l) h in
      let many = length l / 5 in
      let zeros : ℕ → List ℕ = λ n. replicate n 0 in
      of_passed g (ap (λ z. z.run) is)
      (ap (λ z. numbers_of z.entries e) is ∙ ap (λ (c : ℕ). numbers_of (zeros c) e) (many_records l 0 many) ∙ ap (λ (c : ℕ). zeros many ++ drop c e) (length-replicate many 0))

  -- as the code hands it back
  handed_back : refusal_of l (length e) ≡ 0 → {x : Schedule} → schedule_of b k p m l e ≡ x → {y : Ran} → y ≡ ran_of x.run → Ok y ≡ listed (refusal_of l (length e)) (ran_of (schedule_of b k p m l e).run)
  handed_back g {x} is {y} f = ap (λ (z : Ran). Ok z) (f ∙ ap (λ z. ran_of z.run) (sym is)) ∙ listed_is (ran_of (schedule_of b k p m l e).run) g

  -- through its snapshot
  of_followed : refusal_of l (length e) ≡ 0 → (s : List ℕ) → read_of s ≡ record { refusal = 0; core = k } → (a : Over) {s' m' e' : List ℕ} → Follows s p m l 0 b e a s' m' e'
      → schedule_of b k p m l e ≡ record { run = record { answer = ended_number a.ended; count = a.ticks; core = said_by s'; bytes = m' }; numbers = e' }
  of_followed g s f a {s'} {m'} w =
      let same : rest_from b 0 s p m (records_of l) ≡ y = rw sub-zero (ap (λ r. scheduled b 0 r.core p m (records_of l)) f) in
      of_passed g (sym (w.run ∙ ap (λ t. t.run) same)) (sym (w.numbers ∙ ap (λ t. numbers_of t.entries e) same))

  -- ---- by what the code's calls hand back: its check of the list has passed
  module _ {r : Result Unit Unlisted} {x : Unit} (checked : said_check r ≡ refusal_of l (length e)) (ok : r ≡ Ok x) where
    abbrev passed : refusal_of l (length e) ≡ 0
    passed = list_passed checked ok

    -- and the core is too busy to be written
    module _ {q : Result Unit Unwritable} {y : Unwritable} (wrote : said_write q ≡ (write_of k (replicate 38 0)).refusal) (not : q ≡ Err y) where
      busy : (4 < k.busy) × (unwritable_number y ≡ 5)
      busy = not_written k (replicate 38 0) refl y (ap said_write (sym not) ∙ wrote)

      is : schedule_of b k p m l e ≡ record { run = record { answer = pick (eqb b 0) 24 5; count = 0; core = k; bytes = m }; numbers = replicate (length l / 5) 0 ++ drop (length l / 5) e }
      is = of_busy passed busy.0

      pub busy_spent : b ≡ 0 → Ok (record { ended = end.Budget; ticks = 0; core = k }) ≡ listed (refusal_of l (length e)) (ran_of (schedule_of b k p m l e).run)
      busy_spent h = handed_back passed is (rw (eq-eqb b 0 h))

      pub busy_refused : (b ≡ 0 → ⊥) → {n : ℕ} → n ≡ unwritable_number y
          → Ok (record { ended = end.Refused n; ticks = 0; core = k }) ≡ listed (refusal_of l (length e)) (ran_of (schedule_of b k p m l e).run)
      busy_refused z h = handed_back passed is (rw (h, busy.1, ne_eqb b 0 z))

      pub busy_data : m ≡ (schedule_of b k p m l e).run.bytes
      busy_data = sym (ap (λ z. z.run.bytes) is)

      pub busy_entered : {z : List ℕ} → z ≡ replicate (length (take (length l / 5) e)) 0 → z ++ drop (length l / 5) e ≡ (schedule_of b k p m l e).numbers
      busy_entered zeros = cleared l e passed refl zeros ∙ sym (ap (λ z. z.numbers) is)

    -- or its snapshot is run
    module _ (sound : Sound k) {s : List ℕ} (bytes : s ≡ (write_of k (replicate 38 0)).bytes) where
      written : read_of s ≡ record { refusal = 0; core = k }
      written = ap read_of bytes ∙ reading_undoes_writing k (replicate 38 0) sound refl

      pub may_follow : ((read_of s).refusal ≡ 0) × ((refusal_of l (length e) ≡ 0) × (0 ≤ b))
      may_follow = (ap (λ r. r.refusal) written, (passed, omega arith))

      module _ {a : Over} {s' m' e' : List ℕ} (w : Follows s p m l 0 b e a s' m' e') where
        ran : schedule_of b k p m l e ≡ record { run = record { answer = ended_number a.ended; count = a.ticks; core = said_by s'; bytes = m' }; numbers = e' }
        ran = of_followed passed s written a w

        pub ran_back : {q : Result Core Unreadable} {k' : Core} → said_read q ≡ read_of s' → q ≡ Ok k'
            → Ok (record { ended = a.ended; ticks = a.ticks; core = k' }) ≡ listed (refusal_of l (length e)) (ran_of (schedule_of b k p m l e).run)
        ran_back {q} {k'} f g =
            let core : k' ≡ said_by s' = ap (λ r. r.core) (sym (ap said_read g) ∙ f) in
            handed_back passed ran
            (ap (λ (x : Ended). record { ended = x; ticks = a.ticks; core = k' }) w.plain ∙ ap (λ (z : Core). record { ended = ended_of (ended_number a.ended); ticks = a.ticks; core = z }) core)

        pub ran_data : m' ≡ (schedule_of b k p m l e).run.bytes
        ran_data = sym (ap (λ z. z.run.bytes) ran)

        pub ran_entered : e' ≡ (schedule_of b k p m l e).numbers
        ran_entered = sym (ap (λ z. z.numbers) ran)

-- ---- the numbers of the checks
tick_apart : (n : ℕ) → TickNumber n → of_check n ≡ false
tick_apart n (inl h) = rw (lt-leb 7 n (omega (arith, h)), lt-leb 30 n (omega (arith, h)))
tick_apart n (inr h) = rw (le-leb 7 n (omega (arith, h)), lt-leb n 9 (omega (arith, h)), lt-leb 30 n (omega (arith, h)))

step_apart : (r s e : Bool) (j : ℕ) (t : Tick) (ds : List Record) (x y : Scheduled) → TickNumber (number_of t.answer) → of_check x.run.answer ≡ false → of_check y.run.answer ≡ false
    → of_check (step_by r s e j t ds x y).run.answer ≡ false
step_apart true s e j t ds x y h f g = tick_apart (number_of t.answer) h
step_apart false true e j t ds x y h f g = tick_apart (number_of t.answer) h
step_apart false false true j t ds x y h f g = f
step_apart false false false j t ds x y h f g = g

apart : (left j : ℕ) (k : Core) (p m : List ℕ) (ds : List Record) → of_check (scheduled left j k p m ds).run.answer ≡ false
unfolding scheduled
apart zero j k p m ds = refl
apart (suc left) j k p m ds =
    let t = tick_of k p m (offered (suc j) ds) in
    let rest : List Record → Scheduled = scheduled left (suc j) t.core p t.bytes in
    step_apart (refuses t.answer) (stops t.answer) (eqb (number_of t.answer) 17) j t ds (rest (drop 1 ds)) (rest ds) (ticks_answer_tick_numbers k p m (offered (suc j) ds))
    (apart left (suc j) t.core p t.bytes (drop 1 ds)) (apart left (suc j) t.core p t.bytes ds)

list_number : (w r t : Bool) → (let n : ℕ = pick w (pick r (pick t 32 0) 31) 30 in eqb n 0 ≡ false → of_check n ≡ true)
list_number true true true h = refl
list_number true true false h = clash h
list_number true false t h = refl
list_number false r t h = refl

module _ (s p m l : List ℕ) (b : ℕ) (e : List ℕ) where
  -- by the snapshot's refusal, as a run tells it
  read_number : eqb (read_of s).refusal 0 ≡ false → (leb 7 (read_of s).refusal && leb (read_of s).refusal 9) ≡ true
  read_number h = sym (ap (λ r. over.of_check r.answer) (run_in_refused s p m None 0 h)) ∙ check_told s p m None 0 ∙ ap not h

  number : (c : Bool) → eqb (read_of s).refusal 0 ≡ c → eqb (refusal_in s l (length e)) 0 ≡ false → of_check (refusal_in s l (length e)) ≡ true
  number true h f =
      let remains : refusal_in s l (length e) ≡ refusal_of l (length e) = rw h in
      rw h (list_number (eqb (length l % 5) 0) (rising 0 (records_of l)) (ltb (length e) (length l / 5)) (sym (ap (λ (n : ℕ). eqb n 0) remains) ∙ f))
  number false h f = rw (h, read_number h)

  -- so the answer tells whether a check refused
  told_by : (c : Bool) → eqb (refusal_in s l (length e)) 0 ≡ c → of_check (schedule_in s p m l b e).run.answer ≡ not c
  told_by true h = rw h (apart b 0 (said_by s) p m (records_of l))
  told_by false h = rw h (number (eqb (read_of s).refusal 0) refl h)

  pub schedule_told : of_check (schedule_in s p m l b e).run.answer ≡ not (eqb (refusal_in s l (length e)) 0)
  schedule_told = told_by (eqb (refusal_in s l (length e)) 0) refl
