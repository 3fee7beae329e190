-- One tick over a snapshot while a record waits to be entered.
-- Assumes nothing.
use mathlib.Core.Path.{◌≡◌, refl, sym, ap, ◌∙◌}
use mathlib.Core.Bool.{true}
use mathlib.Core.Logic.{◌⊎◌, inl, inr}
use mathlib.Core.List.{List, ◌∷◌}
use Prim.Native.Nat.{ℕ, suc, ◌+◌, ◌-◌, ◌≤◌, ◌<◌}
use native.Mathlib.Omega.{arith}
use lib.Dec.{eqb, leb, ltb}
use borrow.Author.Tests.{ltb-true, lt-ltb, le-ltb, le-leb, lt-leb, ne_eqb, eq-eqb}
use Rattle.basis.specs.Bytes.{Bytes}
use Rattle.tick.specs.Tick.{Tick, number_of, refuses, tick_of}
use Rattle.tick.specs.declared.Answer.{Answer}
use Rattle.tick.specs.declared.Answer.TheVariants.{Refused, Waited, Entered, Ran, Sleep, Watchdog, Undefined, Break, End}
use Rattle.std.specs.Prelude.{Some, Result, Ok, Err}
use Rattle.snapshot.specs.declared.Unreadable.{Unreadable}
use Rattle.snapshot.specs.Snapshot.{read_of}
use Rattle.run.specs.declared.Ended.{Ended}
use Rattle.run.specs.declared.Ended.TheVariants as end
use Rattle.run.specs.Run.{ended, ended_number, ended_of, ended_by}
use Rattle.run.specs.Over.{said_by, tick_over, passed, said_tick, tick_in, TicksIn}
use Rattle.run.proofs.Calls.{passed_is}
use Rattle.run.proofs.Turns.{next_read}
use Rattle.schedule.specs.Schedule.{Record, offered, Scheduled, stopped, noted, scheduled}
use Rattle.schedule.specs.Follow.{Told, told, Plain, rest_from, said_run, Waits}
use Rattle.schedule.proofs.Steps.{by_number, step_by, tick_by}

-- the record that waits
abbrev pub waiting : ℕ → ℕ → Record
waiting tick vector = record { tick = tick; vector = vector }

-- where `wait` stands: the rest of the run from here is the rest from where it began
pub record Stands (s₀ p m₀ : List ℕ) (vector done₀ b : ℕ) (s m : List ℕ) (done : ℕ) : Type 0 where
  pub read : (read_of s).refusal ≡ 0
  pub snapshot_bytes : Bytes s
  pub data_bytes : Bytes m
  pub rest : (tick : ℕ) (ds : List Record) → (done₀ < b → tick ≤ suc done₀)
      → rest_from b done₀ s₀ p m₀ (waiting tick vector ∷ ds) ≡ rest_from b done s p m (waiting tick vector ∷ ds)

-- a tick with the vector offered, from the snapshot s to s' and from the data m to m', with `done` of b ticks done
pub record Turn : Type 0 where
  pub b : ℕ
  pub done : ℕ
  pub vector : ℕ
  pub s : List ℕ
  pub p : List ℕ
  pub m : List ℕ
  pub s' : List ℕ
  pub m' : List ℕ
  pub handed : Result Answer Unreadable
  pub a : Answer
  pub near : done < b
  pub read : (read_of s).refusal ≡ 0
  pub snapshot_bytes : Bytes s
  pub program_bytes : Bytes p
  pub data_bytes : Bytes m
  pub word : vector < 65536
  pub is : handed ≡ Ok a
  pub answer : handed ≡ passed (read_of s).refusal (tick_over s p m (Some vector)).answer
  pub ticks : TicksIn (tick_in s p m (Some vector)) (said_tick handed) s' m'

module _ (T : Turn) where
  open T use {b, done, vector, s, p, m, s', m', handed, a, near, read, snapshot_bytes, program_bytes, data_bytes, word, is, answer, ticks}

  abbrev t : Tick
  t = tick_over s p m (Some vector)

  abbrev number : ℕ
  number = number_of t.answer

  passes : eqb (read_of s).refusal 0 ≡ true
  passes = eq-eqb (read_of s).refusal 0 read

  abbrev n : ℕ
  n = number_of a

  -- the code has the tick's answer
  answered : a ≡ t.answer
  answered = let same = sym is ∙ answer ∙ passed_is read in cc

  numbered : n ≡ number
  numbered = ap number_of answered

  left : m' ≡ t.bytes
  left = ticks.bytes ∙ rw passes

  pub next_said : read_of s' ≡ record { refusal = 0; core = t.core }
  next_said = next_read s p m (Some vector) read snapshot_bytes program_bytes data_bytes word (ticks.snapshot ∙ rw passes)

  module _ (tick : ℕ) (ds : List Record) (due : tick ≤ suc done) where
    abbrev d : Record
    d = waiting tick vector

    abbrev entering : Scheduled
    entering = rest_from b (suc done) s' p m' ds

    abbrev onward : Scheduled
    onward = rest_from b (suc done) s' p m' (d ∷ ds)

    said : (x : List Record) → rest_from b (suc done) s' p m' x ≡ scheduled (b - suc done) (suc done) t.core p t.bytes x
    said x = ap (λ r. scheduled (b - suc done) (suc done) r.core p m' x) next_said ∙ ap (λ (z : List ℕ). scheduled (b - suc done) (suc done) t.core p z x) left

    offers : offered (suc done) (d ∷ ds) ≡ Some vector
    offers = rw (le-leb tick (suc done) due)

    by_tick : rest_from b done s p m (d ∷ ds) ≡ step_by (ltb n 16) (leb 22 n) (eqb n 17) done t (d ∷ ds) entering onward
    by_tick =
        let more : b - done ≡ suc (b - suc done) = omega arith in
        ap (λ (z : ℕ). scheduled z done (said_by s) p m (d ∷ ds)) more ∙ tick_by (b - suc done) done (said_by s) p m (d ∷ ds)
        ∙ ap (λ o. let t = tick_of (said_by s) p m o in let n = number_of t.answer in
        step_by (ltb n 16) (leb 22 n) (eqb n 17) done t (d ∷ ds) (scheduled (b - suc done) (suc done) t.core p t.bytes ds) (scheduled (b - suc done) (suc done) t.core p t.bytes (d ∷ ds))) offers
        ∙ rw (said ds, said (d ∷ ds), numbered)

    -- refused, or stopped: the run that the snapshot then says
    module _ (x : Told) (e : x.answer ≡ n) where
      ends : (count : ℕ) → x.ticks ≡ count → stopped (said_run x s' m') (d ∷ ds) ≡ stopped (ended count t) (d ∷ ds)
      ends count c =
          let core : said_by s' ≡ t.core = ap (λ r. r.core) next_said in
          let over : said_run x s' m' ≡ ended count t = cc (e, numbered, c, core, left) in
          ap (λ r. stopped r (d ∷ ds)) over

      waits_refused : n < 16 → x.ticks ≡ done → rest_from b done s p m (d ∷ ds) ≡ stopped (said_run x s' m') (d ∷ ds)
      waits_refused z c = by_tick ∙ rw (lt-ltb n 16 z) (sym (ends done c))

      waits_stopped : 22 ≤ n → x.ticks ≡ done + 1 → rest_from b done s p m (d ∷ ds) ≡ stopped (said_run x s' m') (d ∷ ds)
      waits_stopped z c = by_tick ∙ rw (le-ltb n 16 (omega arith), le-leb 22 n z) (sym (ends (suc done) (omega (arith, c))))

    waits_entered : n ≡ 17 → rest_from b done s p m (d ∷ ds) ≡ noted (done + 1) (rest_from b (done + 1) s' p m' ds)
    waits_entered z = let one : done + 1 ≡ suc done = omega arith in by_tick ∙ rw (z, one)

    waits_on : 16 ≤ n → (n ≡ 17 → ⊥) → n < 22 → rest_from b done s p m (d ∷ ds) ≡ rest_from b (done + 1) s' p m' (d ∷ ds)
    waits_on x y z = let one : done + 1 ≡ suc done = omega arith in by_tick ∙ rw (le-ltb n 16 x, lt-leb 22 n z, ne_eqb n 17 y, one)

-- no tick is left
waits_spent : (b done : ℕ) (s p m : List ℕ) (d : Record) (ds : List Record) (a : Told) → a.answer ≡ 24 → a.ticks ≡ done → b ≤ done
    → rest_from b done s p m (d ∷ ds) ≡ stopped (said_run a s m) (d ∷ ds)
unfolding scheduled
waits_spent b done s p m d ds a e c h = let none : b - done ≡ 0 = omega arith in rw (none, e, c)

-- ---- a turn of the loop
-- an answer with which the record still waits
goes_on : (a : Answer) → ((n : ℕ) → a ≡ Refused n → ⊥) → (a ≡ Entered → ⊥) → (a ≡ Break → ⊥) → (a ≡ End → ⊥) → (16 ≤ number_of a) × ((number_of a ≡ 17 → ⊥) × (number_of a < 22))
goes_on (Refused j) r e b x = absurd (r j refl)
goes_on Waited r e b x = (omega arith, (λ z. omega (arith, z), omega arith))
goes_on Entered r e b x = absurd (e refl)
goes_on Ran r e b x = (omega arith, (λ z. omega (arith, z), omega arith))
goes_on Sleep r e b x = (omega arith, (λ z. omega (arith, z), omega arith))
goes_on Watchdog r e b x = (omega arith, (λ z. omega (arith, z), omega arith))
goes_on Undefined r e b x = (omega arith, (λ z. omega (arith, z), omega arith))
goes_on Break r e b x = absurd (b refl)
goes_on End r e b x = absurd (x refl)

-- a refusal's end is the one of its number
plain_refusal : (j : ℕ) → j < 16 → end.Refused j ≡ ended_of j
plain_refusal j h = rw (ne_eqb j 24 (λ z. omega arith), ne_eqb j 22 (λ z. omega arith), ne_eqb j 23 (λ z. omega arith))

module _ {s₀ p m₀ : List ℕ} {vector from b : ℕ} {s m : List ℕ} {done : ℕ} (z : Stands s₀ p m₀ vector from b s m done) (low : from ≤ done) (near : done < b) (word : vector < 65536) (bp : Bytes p)
    {r : Result Answer Unreadable} {a : Answer} {s' m' : List ℕ} (is : r ≡ Ok a) (answer : r ≡ passed (read_of s).refusal (tick_over s p m (Some vector)).answer)
    (ticks : TicksIn (tick_in s p m (Some vector)) (said_tick r) s' m') where
  abbrev T : Turn
  T =
      record {
        b = b;
        done = done;
        vector = vector;
        s = s;
        p = p;
        m = m;
        s' = s';
        m' = m';
        handed = r;
        a = a;
        near = near;
        read = z.read;
        snapshot_bytes = z.snapshot_bytes;
        program_bytes = bp;
        data_bytes = z.data_bytes;
        word = word;
        is = is;
        answer = answer;
        ticks = ticks;
      }

  abbrev due_now : (tick : ℕ) → (from < b → tick ≤ suc from) → tick ≤ suc done
  due_now tick due = let h = due (omega (arith, low, near)) in omega (arith, h, low)

  read_on : (read_of s').refusal ≡ 0
  read_on = ap (λ r. r.refusal) (next_said T)

  pub turn_entered : a ≡ Entered → Waits s₀ p m₀ vector from b (Ok (done + 1)) s' m'
  turn_entered e tick due =
      record {
        read = read_on;
        onward = omega (arith, low);
        bounded = omega (arith, near);
        plain = tt;
        rest = λ ds _. z.rest tick ds due ∙ waits_entered T tick ds (due_now tick due) (ap number_of e);
      }

  pub turn_refused : (j : ℕ) → a ≡ Refused j → {y : Ended} → y ≡ ended_by a → Waits s₀ p m₀ vector from b (Err (record { ended = y; ticks = done })) s' m'
  turn_refused j e same_end tick due =
      let by = by_number (said_by s) p m (Some vector) in
      let is_tick : number_of (tick_over s p m (Some vector)).answer ≡ j = ap number_of (sym (answered T) ∙ e) in
      let told : refuses (tick_over s p m (Some vector)).answer ≡ true = ap refuses (sym (answered T) ∙ e) in
      let refused : j < 16 = omega (arith, ltb-true (number_of (tick_over s p m (Some vector)).answer) 16 (sym by.refused ∙ told), is_tick) in
      rw (same_end, e) (record {
        read = read_on;
        onward = omega (arith, low);
        bounded = omega (arith, near);
        plain = plain_refusal j refused;
        rest = λ ds _. z.rest tick ds due ∙ waits_refused T tick ds (due_now tick due) (record { answer = j; ticks = done }) (sym (ap number_of e)) (omega (arith, refused, ap number_of e)) refl;
      })

  turn_ended : (x : Answer) → a ≡ x → 22 ≤ number_of x → ended_number (ended_by x) ≡ number_of x → Plain (record { ended = ended_by x; ticks = done + 1 })
      → Waits s₀ p m₀ vector from b (Err (record { ended = ended_by x; ticks = done + 1 })) s' m'
  turn_ended x e h number plain tick due =
      record {
        read = read_on;
        onward = omega (arith, low);
        bounded = omega (arith, near);
        plain = plain;
        rest = λ ds _. z.rest tick ds due ∙ waits_stopped T tick ds (due_now tick due) (told (record { ended = ended_by x; ticks = done + 1 })) (number ∙ sym (ap number_of e)) (omega (arith, h, ap number_of e)) refl;
      }

  pub turn_stopped : (a ≡ Break) ⊎ (a ≡ End) → {y : Ended} → y ≡ ended_by a → Waits s₀ p m₀ vector from b (Err (record { ended = y; ticks = done + 1 })) s' m'
  turn_stopped (inl e) same_end = rw (same_end, e) (turn_ended Break e (omega arith) refl refl)
  turn_stopped (inr e) same_end = rw (same_end, e) (turn_ended End e (omega arith) refl refl)

  pub turn_waits : ((n : ℕ) → a ≡ Refused n → ⊥) → (a ≡ Entered → ⊥) → (a ≡ Break → ⊥) → (a ≡ End → ⊥) → Bytes s' → Bytes m'
      → Stands s₀ p m₀ vector from b s' m' (done + 1)
  turn_waits refused entered broke ended bs bm =
      let n = goes_on a refused entered broke ended in
      record {
        read = read_on;
        snapshot_bytes = bs;
        data_bytes = bm;
        rest = λ tick ds due. z.rest tick ds due ∙ waits_on T tick ds (due_now tick due) n.0 n.1.0 n.1.1;
      }

-- no tick is left
pub turns_spent : {s₀ p m₀ s m : List ℕ} {vector from b done : ℕ} → Stands s₀ p m₀ vector from b s m done → done ≡ b → from ≤ b → Waits s₀ p m₀ vector from b (Err (record { ended = end.Budget; ticks = b })) s m
turns_spent {s₀} {p} {m₀} {s} {m} {vector} {from} {b} {done} z all low tick due =
    record {
      read = z.read;
      onward = low;
      bounded = omega arith;
      plain = refl;
      rest = λ ds _. z.rest tick ds due ∙ waits_spent b done s p m (waiting tick vector) ds (record { answer = 24; ticks = b }) refl (sym all) (omega (arith, all));
    }
