-- A record over a snapshot: with no offer until it is due.
-- Assumes nothing.
use mathlib.Core.Path.{◌≡◌, refl, sym, ap, subst, ◌∙◌}
use mathlib.Core.Bool.{Bool, true, false}
use mathlib.Core.List.{List, ◌∷◌}
use Prim.Native.Nat.{ℕ, zero, suc, ◌+◌, ◌-◌, ◌≤◌, ◌<◌}
use native.Mathlib.Omega.{arith}
use lib.Dec.{ltb}
use borrow.Author.Tests.{ltb-true, ltb-false, lt-leb, ne_eqb, eq-eqb}
use Rattle.basis.specs.Bytes.{Bytes}
use Rattle.basis.proofs.Choice.{clash, cases}
use Rattle.cores.specs.declared.Core.{Core}
use Rattle.tick.specs.Tick.{Tick, refuses, stops, tick_of}
use Rattle.std.specs.Prelude.{None, Result, Ok, Err}
use Rattle.snapshot.specs.declared.Unreadable.{Unreadable}
use Rattle.snapshot.specs.Snapshot.{read_of, write_of}
use Rattle.snapshot.proofs.RoundTrips.{reading_undoes_writing}
use Rattle.run.specs.declared.Ended.TheVariants as end
use Rattle.run.specs.declared.over.Over.{Over}
use Rattle.run.specs.Run.{Run, ran, run_of, ended_number, ended_of}
use Rattle.run.specs.Over.{said_by, passed, over_of, said_run as said_answer, said_count, run_over, run_in, RunsIn}
use Rattle.run.proofs.Ends.{ends_have_their_numbers}
use Rattle.run.proofs.Unroll.{step}
use Rattle.run.proofs.Stretched.{long}
use Rattle.run.proofs.Turns.{said_sound}
use Rattle.run.proofs.Through.{run_sound}
use Rattle.run.proofs.Calls.{passed_is, run_in_passed}
use Rattle.schedule.specs.Schedule.{Record, rising, offered, stopped, scheduled}
use Rattle.schedule.specs.Follow.{Told, told, Plain, rest_from, said_run, until_of, Serves, Waits}
use Rattle.schedule.proofs.Steps.{ByNumber, by_number, not_due, quiet}

-- ---- how a run with no offer ends: its count is at most its budget, and is it where the answer is 24
record Ends (b : ℕ) (r : Run) : Type 0 where
  few : r.count ≤ b
  whole : r.answer ≡ 24 → r.count ≡ b

ends_step : (refused ends : Bool) (t : Tick) (b : ℕ) (r : Run) → ByNumber None t → Ends b r → Ends (suc b) (step refused ends t r)
ends_step true ends t b r n e = record { few = omega arith; whole = λ z. clash (sym (eq-eqb _ 24 z) ∙ n.unspent) }
ends_step false true t b r n e = record { few = omega arith; whole = λ z. clash (sym (eq-eqb _ 24 z) ∙ n.unspent) }
ends_step false false t b r n e = record { few = omega (arith, e.few); whole = λ z. omega (arith, e.whole z) }

run_ends : (b : ℕ) (k : Core) (p m : List ℕ) → Ends b (run_of b k p m None)
unfolding ran
run_ends zero k p m = record { few = omega arith; whole = λ _. refl }
run_ends (suc b) k p m =
    let t = tick_of k p m None in
    ends_step (refuses t.answer) (stops t.answer) t b (run_of b t.core p t.bytes None) (by_number k p m None) (run_ends b t.core p t.bytes)

-- ---- over a snapshot: u ticks with no offer from s to s' and from m to m', where the checks are passed
pub record Quiet : Type 0 where
  pub u : ℕ
  pub s : List ℕ
  pub p : List ℕ
  pub m : List ℕ
  pub s' : List ℕ
  pub m' : List ℕ
  pub x : Over
  pub read : (read_of s).refusal ≡ 0
  pub snapshot_bytes : Bytes s
  pub program_bytes : Bytes p
  pub data_bytes : Bytes m
  pub over : x ≡ over_of (run_over u s p m None)
  pub runs : RunsIn (run_in s p m None u) (ended_number x.ended) x.ticks s' m'

pub same_ok : {x y : Over} → ◌≡◌ {A = Result Over Unreadable} (Ok x) (Ok y) → x ≡ y
same_ok h = cc

-- by what the code hands back
abbrev pub handed : (s p m : List ℕ) (u : ℕ) {s' m' : List ℕ} {r : Result Over Unreadable} {x : Over} → (read_of s).refusal ≡ 0 → Bytes s → Bytes p → Bytes m → r ≡ Ok x
    → r ≡ passed (read_of s).refusal (over_of (run_over u s p m None)) → RunsIn (run_in s p m None u) (said_answer r) (said_count r) s' m' → Quiet
handed s p m u {s'} {m'} {r} {x} read bs bp bm is back runs =
    record {
      u = u;
      s = s;
      p = p;
      m = m;
      s' = s';
      m' = m';
      x = x;
      read = read;
      snapshot_bytes = bs;
      program_bytes = bp;
      data_bytes = bm;
      over = same_ok (sym is ∙ back ∙ passed_is read);
      runs = subst (λ (z : Result Over Unreadable). RunsIn (run_in s p m None u) (said_answer z) (said_count z) s' m') is runs;
    }

module _ (Q : Quiet) where
  open Q use {u, s, p, m, s', m', x, read, snapshot_bytes, program_bytes, data_bytes, over, runs}

  abbrev a : Told
  a = told x

  abbrev r : Run
  r = run_of u (said_by s) p m None

  is : run_in s p m None u ≡ record { answer = r.answer; count = r.count; snapshot = (write_of r.core s).bytes; bytes = r.bytes }
  is = run_in_passed s p m None u (eq-eqb (read_of s).refusal 0 read)

  answered : a.answer ≡ r.answer
  answered = runs.answer ∙ ap (λ x. x.answer) is

  counted : a.ticks ≡ r.count
  counted = runs.count ∙ ap (λ x. x.count) is

  left : m' ≡ r.bytes
  left = runs.bytes ∙ ap (λ x. x.bytes) is

  pub ran_read : read_of s' ≡ record { refusal = 0; core = r.core }
  ran_read =
      ap read_of (runs.snapshot ∙ ap (λ x. x.snapshot) is)
      ∙ reading_undoes_writing r.core s (run_sound u (said_by s) p m None (said_sound s snapshot_bytes read) program_bytes data_bytes tt) (long s read)

  pub few : a.ticks ≤ u
  few = omega (arith, counted, (run_ends u (said_by s) p m).few)

  -- its end is the one of its number, and the budget's is 24
  pub plain : Plain x
  plain =
      let n = (run_over u s p m None).answer in
      let is : x.ended ≡ ended_of n = ap (λ z. z.ended) over in
      is ∙ ap ended_of (sym (ends_have_their_numbers n) ∙ ap ended_number (sym is))

  pub not_spent : (x.ended ≡ end.Budget → ⊥) → a.answer ≡ 24 → ⊥
  not_spent z h = z (plain ∙ ap ended_of h)

  -- 24 says that all were done
  pub all_done : a.answer ≡ 24 → a.ticks ≡ u
  all_done e = counted ∙ (run_ends u (said_by s) p m).whole (sym answered ∙ e)

  core : said_by s' ≡ r.core
  core = ap (λ x. x.core) ran_read

  -- with `done` of b ticks done, where none of ds is due in the next u ticks
  module _ (b done : ℕ) (ds : List Record) (fits : done + u ≤ b) (none : (tick : ℕ) → done < tick → tick ≤ done + u → offered tick ds ≡ None) where
    begun : rest_from b done s p m ds ≡ scheduled (u + (b - done - u)) done (said_by s) p m ds
    begun = let more : b - done ≡ u + (b - done - u) = omega arith in ap (λ (z : ℕ). scheduled z done (said_by s) p m ds) more

    -- all were done
    pub goes_on : a.answer ≡ 24 → rest_from b done s p m ds ≡ rest_from b (done + a.ticks) s' p m' ds
    goes_on e =
        let spent : r.answer ≡ 24 = sym answered ∙ e in
        let count : r.count ≡ u = sym counted ∙ all_done e in
        let more : b - (done + u) ≡ b - done - u = omega arith in
        let here : done + a.ticks ≡ done + u = omega (arith, all_done e) in
        begun ∙ quiet u (b - done - u) done (said_by s) p m ds none ∙ rw (eq-eqb r.answer 24 spent, count)
        (sym (ap (λ (z : ℕ). rest_from b z s' p m' ds) here ∙ ap (λ (z : ℕ). scheduled z (done + u) (said_by s') p m' ds) more
        ∙ ap (λ (z : Core). scheduled (b - done - u) (done + u) z p m' ds) core ∙ ap (λ (z : List ℕ). scheduled (b - done - u) (done + u) r.core p z ds) left))

    -- or it ended before
    pub ends_there : (y : Told) → (a.answer ≡ 24 → ⊥) → y.answer ≡ a.answer → y.ticks ≡ done + a.ticks → rest_from b done s p m ds ≡ stopped (said_run y s' m') ds
    ends_there y z e c =
        let apart = ne_eqb r.answer 24 (λ h. z (answered ∙ h)) in
        let run : said_run y s' m' ≡ record { answer = r.answer; count = done + r.count; core = r.core; bytes = r.bytes } = cc (e, answered, c, counted, core, left) in
        begun ∙ quiet u (b - done - u) done (said_by s) p m ds none ∙ rw apart (ap (λ w. stopped w ds) (sym run))

-- ---- until a record is due
module _ (tick done b : ℕ) where
  abbrev u : ℕ
  u = until_of tick done b

  pub until_fits : done ≤ b → done + u ≤ b
  until_fits h = cases (λ z. done + z ≤ b) (ltb b tick) (b - done) (tick - 1 - done) (λ _. omega arith) (λ e. omega (arith, ltb-false b tick e))

  -- behind them it is due, or none is left
  pub due_then : done ≤ b → done + u < b → tick ≤ suc (done + u)
  due_then h =
      cases (λ z. done + z < b → tick ≤ suc (done + z)) (ltb b tick) (b - done) (tick - 1 - done) (λ _ g. absurd (omega arith)) (λ _ g. omega arith)

  -- and neither it nor one behind it is due before
  pub none_before : (d : Record) (ds : List Record) → d.tick ≡ tick → rising d.tick ds ≡ true → done ≤ b → (x : ℕ) → done < x → x ≤ done + u → offered x (d ∷ ds) ≡ None
  none_before d ds e f h x g i =
      let early : x < tick = cases (λ z. x ≤ done + z → x < tick) (ltb b tick) (b - done) (tick - 1 - done) (λ y j. omega (arith, ltb-true b tick y)) (λ y j. omega arith) i in
      rw (lt-leb d.tick x (omega (arith, e, early))) (not_due x d.tick ds (omega (arith, e, early)) f)

-- ---- a record
module _ (s p m : List ℕ) {u : ℕ} {s' m' : List ℕ} {r : Result Over Unreadable} {x : Over} (read : (read_of s).refusal ≡ 0) (bs : Bytes s) (bp : Bytes p) (bm : Bytes m)
    (is : r ≡ Ok x) (back : r ≡ passed (read_of s).refusal (over_of (run_over u s p m None))) (runs : RunsIn (run_in s p m None u) (said_answer r) (said_count r) s' m')
    (d : Record) (done b : ℕ) (low : done ≤ b) (many : u ≡ until_of d.tick done b) where
  abbrev Q : Quiet
  Q = handed s p m u read bs bp bm is back runs

  fits : done + u ≤ b
  fits = omega (arith, many, until_fits d.tick done b low)

  pub in_budget : done + x.ticks ≤ b
  in_budget = omega (arith, few Q, fits)

  none : (ds : List Record) → rising d.tick ds ≡ true → (z : ℕ) → done < z → z ≤ done + u → offered z (d ∷ ds) ≡ None
  none ds f z h i = none_before d.tick done b d ds refl f low z h (omega (arith, many, i))

  pub still_read : (read_of s').refusal ≡ 0
  still_read = ap (λ r. r.refusal) (ran_read Q)

  -- it is due, or no tick is left
  pub served_on : x.ended ≡ end.Budget → {a : Result ℕ Over} {s″ m″ : List ℕ} → Waits s' p m' d.vector (done + x.ticks) b a s″ m″ → Serves s p m d done b a s″ m″
  served_on e w =
      let spent : (told x).answer ≡ 24 = ap ended_number e in
      let now = all_done Q spent in
      let due : done + x.ticks < b → d.tick ≤ suc (done + x.ticks) = λ g. omega (arith, now, many, due_then d.tick done b low (omega (arith, now, many, g))) in
      let served = w d.tick due in
      record {
        read = served.read;
        onward = omega (arith, served.onward);
        bounded = served.bounded;
        plain = served.plain;
        rest = λ ds f. goes_on Q b done (d ∷ ds) fits (none ds f) spent ∙ served.rest ds f;
      }

  -- or the run ended before
  pub served_ended : (x.ended ≡ end.Budget → ⊥) → Serves s p m d done b (Err (record { ended = x.ended; ticks = done + x.ticks })) s' m'
  served_ended z =
      record {
        read = still_read;
        onward = omega arith;
        bounded = in_budget;
        plain = plain Q;
        rest = λ ds f. ends_there Q b done (d ∷ ds) fits (none ds f) (record { answer = ended_number x.ended; ticks = done + x.ticks }) (not_spent Q z) refl refl;
      }
