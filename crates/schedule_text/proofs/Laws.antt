-- The records of a text are a list that a scheduled run takes, wherever it is cut; and their bytes.
-- Assumes nothing.
use mathlib.Core.Path.{◌≡◌, refl}
use mathlib.Core.Bool.{true}
use mathlib.Core.List.{List, [], ◌∷◌, ◌++◌, append_assoc}
use Prim.Native.Nat.{ℕ, zero, suc, ◌+◌, ◌*◌, ◌/◌, ◌%◌, ◌-◌, ◌≤◌, ◌<◌}
use native.Mathlib.Omega.{arith}
use native.Mathlib.Nat.{add-zero}
use lib.Dec.{eqb}
use lib.ListN.{length, drop, get_or, length-append, length-drop}
use lib.Seq.{drop-nil, get_or-append-add}
use borrow.Author.Tests.{eqb-true, eq-eqb, lt-ltb, le-ltb}
use Rattle.basis.specs.Bytes.{Bytes}
use Rattle.basis.proofs.Choice.{cases}
use Rattle.hex_line.specs.Line.{lines_of}
use Rattle.schedule.specs.Schedule.{record_at, records_from, records_of, rising}
use Rattle.schedule.specs.declared.list.Record.{Record}
use Rattle.schedule_text.specs.Reading.{Said}
use Rattle.schedule_text.specs.Reading.{Nothing, Wrong, Firing}
use Rattle.schedule_text.specs.Reading.{line_of, fault_of, Told, told, behind, read_from, read_of, five_of, bytes_of}
use Rattle.schedule_text.specs.Laws.{TextListed}
use Rattle.schedule_text.proofs.Turns.{right}

-- ---- the bytes of records
pub bytes_length : (ds : List Record) → length (bytes_of ds) ≡ 5 * length ds
unfolding bytes_of
bytes_length [] = refl
bytes_length (d ∷ ds) = let k = bytes_length ds in omega arith

pub bytes_append : (ds es : List Record) → bytes_of (ds ++ es) ≡ bytes_of ds ++ bytes_of es
unfolding bytes_of
bytes_append [] es = refl
bytes_append (d ∷ ds) es = rw (bytes_append ds es)

pub drop_bytes : (ds : List Record) (k : ℕ) → drop (5 * k) (bytes_of ds) ≡ bytes_of (drop k ds)
unfolding bytes_of
drop_bytes ds zero = refl
drop_bytes [] (suc k) = drop-nil (5 * suc k)
drop_bytes (d ∷ ds) (suc k) = let five : 5 * suc k ≡ suc (suc (suc (suc (suc (5 * k))))) = omega arith in rw five (drop_bytes ds k)

-- a record is read back from its five bytes
one_back : (d : Record) (ys : List ℕ) → record_at (five_of d ++ ys) 0 ≡ d
one_back d ys = rw (three d.tick, two d.vector)
  where
    three : (t : ℕ) → t / 65536 * 65536 + t / 256 % 256 * 256 + t % 256 ≡ t
    three t = omega arith

    two : (v : ℕ) → v / 256 * 256 + v % 256 ≡ v
    two v = omega arith

-- and records from theirs, behind i others
from_back : (ds : List Record) (xs : List ℕ) (i : ℕ) → length xs ≡ 5 * i → records_from (xs ++ bytes_of ds) i (length ds) ≡ ds
unfolding bytes_of
from_back [] xs i h = refl
from_back (d ∷ ds) xs i h =
    let ys = five_of d ++ bytes_of ds in
    let at : (j : ℕ) → get_or (xs ++ ys) (5 * i + j) 0 ≡ get_or ys j 0 = λ j. rw (← h) (get_or-append-add xs ys j 0) in
    let first : get_or (xs ++ ys) (5 * i) 0 ≡ get_or ys 0 0 = rw add-zero at (at 0) in
    let one : record_at (xs ++ ys) i ≡ d = rw (first, at 1, at 2, at 3, at 4) (one_back d (bytes_of ds)) in
    let rest : records_from (xs ++ ys) (suc i) (length ds) ≡ ds = rw (← append_assoc xs (five_of d) (bytes_of ds)) (from_back ds (xs ++ five_of d) (suc i) (rw (length-append xs (five_of d)) (omega arith))) in
    rw (one, rest)

pub records_back : (ds : List Record) → records_of (bytes_of ds) ≡ ds
records_back ds = let many : length (bytes_of ds) / 5 ≡ length ds = rw (bytes_length ds) (omega arith) in rw many (from_back ds [] 0 refl)

-- ---- records with rising ticks behind `last`, of 24 and of 16 bits
data Rises : ℕ → List Record → Type 0 where
  none : {last : ℕ} → Rises last []
  one : {last : ℕ} {d : Record} {ds : List Record} → last < d.tick → d.tick < 16777216 → d.vector < 65536 → Rises d.tick ds → Rises last (d ∷ ds)

is_rising : {last : ℕ} {ds : List Record} → Rises last ds → rising last ds ≡ true
is_rising none = refl
is_rising (one {last} {d} {ds} a t v r) = rw (lt-ltb last d.tick a, is_rising r)

from_zero : {last : ℕ} {ds : List Record} → Rises last ds → Rises 0 ds
from_zero none = none
from_zero (one {last} {d} a t v r) = one {last = 0} {d = d} (omega arith) t v r

cut : {last : ℕ} {ds : List Record} (k : ℕ) → Rises last ds → Rises 0 (drop k ds)
cut zero r = from_zero r
cut (suc k) none = none
cut (suc k) (one a t v r) = cut k r

all_bytes : {last : ℕ} {ds : List Record} → Rises last ds → (i : ℕ) → get_or (bytes_of ds) i 0 < 256
unfolding bytes_of
all_bytes none i = omega arith
all_bytes (one a t v r) zero = omega arith
all_bytes (one a t v r) (suc zero) = omega arith
all_bytes (one a t v r) (suc (suc zero)) = omega arith
all_bytes (one a t v r) (suc (suc (suc zero))) = omega arith
all_bytes (one a t v r) (suc (suc (suc (suc zero)))) = omega arith
all_bytes (one a t v r) (suc (suc (suc (suc (suc i))))) = all_bytes r i

-- ---- the records of lines are such, and no more than there is room for
record Good (last room : ℕ) (x : Told) : Type 0 where
  rises : Rises last x.records
  few : length x.records ≤ room

no_more : (last room fault line : ℕ) → Good last room (told fault line)
no_more last room fault line = record { rises = none; few = omega arith }

one_more : (last room tick vector : ℕ) (x : Told) → fault_of tick vector last room ≡ 0 → Good tick (room - 1) x → Good last room (behind (record { tick = tick; vector = vector }) x)
one_more last room tick vector x z g =
    let f = right tick vector last room z in
    let some = f.has_room in
    let few = g.few in
    record { rises = one f.above f.tick_fits f.vector_fits g.rises; few = omega arith }

good_by : (room n last : ℕ) (l : List ℕ) (ls : List (List ℕ)) (s : Said) → line_of l ≡ s → ((room n last : ℕ) → Good last room (read_from room n last ls))
    → Good last room (read_from room n last (l ∷ ls))
unfolding read_from
good_by room n last l ls Nothing e r = rw (e, read_from) (r room (n + 1) last)
good_by room n last l ls Wrong e r = rw (e, read_from) (no_more last room 1 n)
good_by room n last l ls (Firing tick vector) e r =
    let fault = fault_of tick vector last room in
    rw (e, read_from) (cases (Good last room) (eqb fault 0) _ _ (λ z. one_more last room tick vector _ (eqb-true fault 0 z) (r (room - 1) (n + 1) tick)) (λ z. no_more last room fault n))

good : (ls : List (List ℕ)) (room n last : ℕ) → Good last room (read_from room n last ls)
unfolding read_from
good [] room n last = no_more last room 0 0
good (l ∷ ls) room n last = good_by room n last l ls (line_of l) refl (good ls)

-- ---- the theorem
pub text_listed : TextListed
text_listed t room k =
    let g = good (lines_of t) room 1 0 in
    let ds = (read_of t room).records in
    let es = drop k ds in
    let n : length (bytes_of es) ≡ 5 * length es = bytes_length es in
    let left : length es ≡ length ds - k = length-drop k ds in
    let whole : length (bytes_of es) % 5 ≡ 0 = omega arith in
    let few : length ds ≤ room = g.few in
    record {
      few = few;
      same = records_back es;
      taken = rw (eq-eqb (length (bytes_of es) % 5) 0 whole, records_back es, is_rising (cut k g.rises), le-ltb room (length (bytes_of es) / 5) (omega arith));
    }

pub text_bytes : (t : List ℕ) (room : ℕ) → Bytes (bytes_of (read_of t room).records)
text_bytes t room = record { byte_lt = all_bytes (good (lines_of t) room 1 0).rises }
