-- A list over a snapshot, record by record.
-- Assumes nothing.
use mathlib.Core.Path.{◌≡◌, refl, sym, ap, subst, ◌∙◌}
use mathlib.Core.Bool.{Bool, true, false, ◌&&◌}
use mathlib.Core.List.{List, [], ◌∷◌, ◌++◌}
use Prim.Native.Nat.{ℕ, zero, suc, ◌+◌, ◌-◌, ◌/◌, ◌≤◌, ◌<◌}
use native.Mathlib.Omega.{arith}
use lib.Dec.{eqb, ltb}
use lib.ListN.{set, drop, length, replicate, length-append, length-replicate}
use lib.Seq.{set-append_seam}
use borrow.Author.Tests.{eqb-true, eqb-false}
use Rattle.basis.specs.Bytes.{Bytes}
use Rattle.basis.proofs.Choice.{clash, test}
use Rattle.snapshot.specs.Snapshot.{read_of}
use Rattle.std.specs.Prelude.{None, Result, Ok, Err}
use Rattle.snapshot.specs.declared.Unreadable.{Unreadable}
use Rattle.run.specs.Over.{passed, over_of, said_run as said_answer, said_count, run_over, run_in, RunsIn}
use Rattle.run.specs.declared.over.Over.{Over}
use Rattle.schedule.specs.Schedule.{Record, record_at, records_from, records_of, rising, Scheduled, stopped, scheduled, numbers_of}
use Rattle.schedule.specs.Follow.{told, rest_from, said_run, Serves, Follows}
use Rattle.schedule.proofs.Serving.{Quiet, handed, ran_read, few, plain, all_done, goes_on, ends_there}

-- the numbers of the records entered before stand in front
abbrev pub behind : List ℕ → Scheduled → Scheduled
behind ns x = record { run = x.run; entries = ns ++ x.entries }

-- where `follow` stands: it began with `from` of b ticks done, i records of the list are entered, and `done` ticks done; k are the numbers past the last record
pub record Stands (s₀ p m₀ l : List ℕ) (from b : ℕ) (k s m e : List ℕ) (i done : ℕ) : Type 0 where
  pub few : i ≤ length l / 5
  pub low : done ≤ b
  pub read : (read_of s).refusal ≡ 0
  pub snapshot_bytes : Bytes s
  pub data_bytes : Bytes m
  pub last : ℕ
  pub rises : rising last (records_from l i (length l / 5 - i)) ≡ true
  pub before : List ℕ
  pub many : length before ≡ i
  pub numbers : e ≡ before ++ (replicate (length l / 5 - i) 0 ++ k)
  pub rest : rest_from b from s₀ p m₀ (records_of l) ≡ behind before (rest_from b done s p m (records_from l i (length l / 5 - i)))

pub stands_first : (s p m l : List ℕ) (from b : ℕ) (k e : List ℕ) → (read_of s).refusal ≡ 0 → from ≤ b → Bytes s → Bytes m → rising 0 (records_of l) ≡ true
    → e ≡ replicate (length l / 5) 0 ++ k → Stands s p m l from b k s m e 0 from
stands_first s p m l from b k e h low bs bm r c =
    let records : length l / 5 - 0 ≡ length l / 5 = omega arith in
    record {
      few = omega arith;
      low = low;
      read = h;
      snapshot_bytes = bs;
      data_bytes = bm;
      last = 0;
      rises = rw records r;
      before = [];
      many = refl;
      numbers = rw records c;
      rest = rw records refl;
    }

joined : (a b c : List ℕ) → (a ++ b) ++ c ≡ a ++ (b ++ c)
joined [] b c = refl
joined (x ∷ a) b c = ap (λ (l : List ℕ). x ∷ l) (joined a b c)

pub past_zeros : (n : ℕ) (x : List ℕ) → drop n (replicate n 0 ++ x) ≡ x
past_zeros zero x = refl
past_zeros (suc n) x = past_zeros n x

pub many_records : (l : List ℕ) (i n : ℕ) → length (records_from l i n) ≡ n
many_records l i zero = refl
many_records l i (suc n) = ap suc (many_records l (suc i) n)

both : (x y : Bool) → (x && y) ≡ true → y ≡ true
both true y h = h
both false y h = clash (sym h)

-- ---- a record more
module _ {s₀ p m₀ l : List ℕ} {from b : ℕ} {k s m e : List ℕ} {i done : ℕ} (z : Stands s₀ p m₀ l from b k s m e i done) (more : i < length l / 5) where
  abbrev d : Record
  d = record_at l i

  abbrev ds : List Record
  ds = records_from l (suc i) (length l / 5 - suc i)

  left : length l / 5 - i ≡ suc (length l / 5 - suc i)
  left = omega arith

  rises_on : rising d.tick ds ≡ true
  rises_on = both (ltb z.last d.tick) (rising d.tick ds) (ap (λ (n : ℕ). rising z.last (records_from l i n)) (sym left) ∙ z.rises)

  zeros : e ≡ z.before ++ (0 ∷ (replicate (length l / 5 - suc i) 0 ++ k))
  zeros = z.numbers ∙ ap (λ (n : ℕ). z.before ++ (replicate n 0 ++ k)) left

  served : rest_from b from s₀ p m₀ (records_of l) ≡ behind z.before (rest_from b done s p m (d ∷ ds))
  served = z.rest ∙ ap (λ (n : ℕ). behind z.before (rest_from b done s p m (records_from l i n))) left

  -- by the record and the result as the code has them
  served_as : {x : Record} {r a : Result ℕ Over} {s' m' : List ℕ} → Serves s p m x done b r s' m' → x ≡ d → r ≡ a → Serves s p m d done b a s' m'
  served_as {x} {r} {a} {s'} {m'} w f g =
      let by_record : Serves s p m d done b r s' m' = subst (λ (y : Record). Serves s p m y done b r s' m') f w in
      subst (λ (y : Result ℕ Over). Serves s p m d done b y s' m') g by_record

  -- it was entered
  pub stands_next : {x : Record} {r : Result ℕ Over} {s' m' : List ℕ} → Serves s p m x done b r s' m' → x ≡ d → {t : ℕ} → r ≡ Ok t → Bytes s' → Bytes m' → Stands s₀ p m₀ l from b k s' m' (set e i t) (i + 1) t
  stands_next {x} {r} {s'} {m'} given f {t} g bs bm =
      let w : Serves s p m d done b (Ok t) s' m' = served_as given f g in
      let one : i + 1 ≡ suc i = omega arith in
      let ns = z.before in
      let rest : List ℕ = replicate (length l / 5 - suc i) 0 ++ k in
      let put : set (ns ++ (0 ∷ rest)) i t ≡ ns ++ (t ∷ rest) = ap (λ (n : ℕ). set (ns ++ (0 ∷ rest)) n t) (sym z.many) ∙ set-append_seam ns 0 rest t in
      record {
        few = omega arith;
        low = w.bounded;
        read = w.read;
        snapshot_bytes = bs;
        data_bytes = bm;
        last = d.tick;
        rises = rw one rises_on;
        before = ns ++ (t ∷ []);
        many = rw length-append (omega (arith, z.many));
        numbers = rw one (ap (λ (x : List ℕ). set x i t) zeros ∙ put ∙ sym (joined ns (t ∷ []) rest));
        rest = rw one (served ∙ ap (behind ns) (w.rest ds rises_on)
            ∙ ap (λ (x : List ℕ). record { run = (rest_from b t s' p m' ds).run; entries = x }) (sym (joined ns (t ∷ []) (rest_from b t s' p m' ds).entries)));
      }

  -- the run ended before
  pub follows_ended : {y : Record} {r : Result ℕ Over} {s' m' : List ℕ} → Serves s p m y done b r s' m' → y ≡ d → {x : Over} → r ≡ Err x → (e₀ : List ℕ) → k ≡ drop (length l / 5) e₀
      → Follows s₀ p m₀ l from b e₀ x s' m' e
  follows_ended {y} {r} {s'} {m'} given f {x} g e₀ kept =
      let w : Serves s p m d done b (Err x) s' m' = served_as given f g in
      let ns = z.before in
      let rest : List ℕ = replicate (length l / 5 - suc i) 0 in
      let whole : rest_from b from s₀ p m₀ (records_of l) ≡ behind ns (stopped (said_run (told x) s' m') (d ∷ ds)) = served ∙ ap (behind ns) (w.rest ds rises_on) in
      let entries : (rest_from b from s₀ p m₀ (records_of l)).entries ≡ ns ++ (0 ∷ rest) =
      ap (λ y. y.entries) whole ∙ ap (λ (n : ℕ). let none : List ℕ = replicate n 0 in ns ++ (0 ∷ none)) (many_records l (suc i) (length l / 5 - suc i)) in
      let long : length (ns ++ (0 ∷ rest)) ≡ length l / 5 = rw (length-append, length-replicate) (omega (arith, z.many)) in
      let numbers : numbers_of (rest_from b from s₀ p m₀ (records_of l)).entries e₀ ≡ (ns ++ (0 ∷ rest)) ++ drop (length l / 5) e₀ =
      ap (λ (y : List ℕ). numbers_of y e₀) entries ∙ ap (λ (n : ℕ). (ns ++ (0 ∷ rest)) ++ drop n e₀) long in
      record {
        read = w.read;
        plain = w.plain;
        run = sym (ap (λ y. y.run) whole);
        numbers = zeros ∙ sym (joined ns (0 ∷ rest) k) ∙ ap (λ (y : List ℕ). (ns ++ (0 ∷ rest)) ++ y) kept ∙ sym numbers;
      }

-- ---- no record is left, and what is left of the budget is run with no offer
module _ {s₀ p m₀ l : List ℕ} {from b : ℕ} {k s m e : List ℕ} {i done : ℕ} (z : Stands s₀ p m₀ l from b k s m e i done) (end : length l / 5 ≤ i) (bp : Bytes p)
    {r : Result Over Unreadable} {x : Over} {s' m' : List ℕ} (is : r ≡ Ok x) (back : r ≡ passed (read_of s).refusal (over_of (run_over (b - done) s p m None)))
    (w : RunsIn (run_in s p m None (b - done)) (said_answer r) (said_count r) s' m') where
  abbrev quiet : Quiet
  quiet = handed s p m (b - done) z.read z.snapshot_bytes bp z.data_bytes is back w

  fits : done + (b - done) ≤ b
  fits = omega (arith, z.low)

  pub count_fits : done + x.ticks ≤ b
  count_fits = omega (arith, z.low, few quiet)

  -- the run that the code then hands back
  abbrev over : Over
  over = record { ended = x.ended; ticks = done + x.ticks }

  spent : (told x).answer ≡ 24 → rest_from b done s p m [] ≡ stopped (said_run (told over) s' m') []
  unfolding scheduled
  spent f =
      let none : b - (done + x.ticks) ≡ 0 = omega (arith, all_done quiet f) in
      goes_on quiet b done [] fits (λ _ _ _. refl) f ∙ rw (none, f)

  rest : rest_from b done s p m [] ≡ stopped (said_run (told over) s' m') []
  rest =
      test (eqb (told x).answer 24) (λ f. spent (eqb-true (told x).answer 24 f))
      λ f. ends_there quiet b done [] fits (λ _ _ _. refl) (told over) (eqb-false (told x).answer 24 f) refl refl

  pub follows_last : (e₀ : List ℕ) → k ≡ drop (length l / 5) e₀ → Follows s₀ p m₀ l from b e₀ over s' m' e
  follows_last e₀ kept =
      let ns = z.before in
      let none : length l / 5 - i ≡ 0 = omega arith in
      let whole : rest_from b from s₀ p m₀ (records_of l) ≡ behind ns (stopped (said_run (told over) s' m') []) =
      z.rest ∙ ap (λ (n : ℕ). behind ns (rest_from b done s p m (records_from l i n))) none ∙ ap (behind ns) rest in
      let long : length (ns ++ []) ≡ length l / 5 = rw length-append (omega (arith, z.many, z.few, end)) in
      let numbers : numbers_of (rest_from b from s₀ p m₀ (records_of l)).entries e₀ ≡ (ns ++ []) ++ drop (length l / 5) e₀ =
      ap (λ y. numbers_of y.entries e₀) whole ∙ ap (λ (n : ℕ). (ns ++ []) ++ drop n e₀) long in
      record {
        read = ap (λ y. y.refusal) (ran_read quiet);
        plain = plain quiet;
        run = sym (ap (λ y. y.run) whole);
        numbers = z.numbers ∙ ap (λ (n : ℕ). ns ++ (replicate n 0 ++ k)) none ∙ sym (joined ns [] k) ∙ ap (λ (y : List ℕ). (ns ++ []) ++ y) kept ∙ sym numbers;
      }
