-- The line that the code finds at a place is the first of the lines from there on.
-- Assumes nothing.
use mathlib.Core.Path.{◌≡◌, refl, sym, ◌∙◌}
use mathlib.Core.Bool.{Bool, true, false, ◌&&◌}
use mathlib.Core.List.{List, [], ◌∷◌}
use Prim.Native.Nat.{ℕ, suc, ◌+◌, ◌-◌, ◌≤◌, ◌<◌}
use native.Mathlib.Omega.{arith}
use native.Mathlib.Nat.{zero-add, sub-zero, suc-add}
use native.Mathlib.Numerals.{add-one}
use lib.Dec.{eqb}
use lib.ListN.{length, drop, take, get_or, length-drop, drop_of_length-le}
use lib.Seq.{drop-cons, drop-drop}
use borrow.Author.Tests.{lt-ltb, le-ltb}
use Rattle.basis.proofs.Choice.{clash, either}
use Rattle.basis.proofs.Both.{both_true}
use Rattle.hex_line.specs.declared.Line.{Line}
use Rattle.hex_line.specs.Line.{starts_lf, on_first, lines_of}
use Rattle.hex_line.specs.Way.{end_length, line_length, stop_of, line_at}

-- ---- the line's end at a place
module _ (t : List ℕ) (i : ℕ) where
  pub end_out : length t ≤ i → end_length (drop i t) ≡ 0
  end_out h = rw (drop_of_length-le t {i = i} h)

-- ---- a character more
stop_at : (t : List ℕ) → 0 < end_length t → line_length t ≡ 0
unfolding line_length
stop_at [] h = refl
stop_at (c ∷ t) h = rw (lt-ltb 0 (end_length (c ∷ t)) h)

pub stops : (t : List ℕ) (i : ℕ) → 0 < end_length (drop i t) → stop_of t i ≡ i
stops t i h = rw (stop_at (drop i t) h) (omega arith)

pub stops_out : (t : List ℕ) (i : ℕ) → length t ≤ i → stop_of t i ≡ i
unfolding line_length
stops_out t i h = rw (drop_of_length-le t {i = i} h) (omega arith)

pub goes_on : (t : List ℕ) (i : ℕ) → i < length t → end_length (drop i t) ≤ 0 → stop_of t i ≡ stop_of t (i + 1)
unfolding line_length
goes_on t i h e =
    let d : drop i t ≡ get_or t i 0 ∷ drop (i + 1) t = drop-cons t i 0 h ∙ rw (add-one i) in
    let f : end_length (get_or t i 0 ∷ drop (i + 1) t) ≤ 0 = rw d at e in
    rw (d, le-ltb 0 (end_length (get_or t i 0 ∷ drop (i + 1) t)) f) (omega arith)

-- ---- the first line
abbrev next_of : List ℕ → ℕ
next_of t = line_length t + end_length (drop (line_length t) t)

record First (t : List ℕ) : Type 0 where
  lines : lines_of t ≡ take (line_length t) t ∷ lines_of (drop (next_of t) t)
  fits : next_of t ≤ length t
  moves : 0 < next_of t

by_lf : (t : List ℕ) → starts_lf t ≡ true → (u : List ℕ) × (lines_of t ≡ [] ∷ lines_of u) × ((n : ℕ) → drop (suc n) t ≡ drop n u) × (1 ≤ length t)
unfolding lines_of
by_lf [] h = clash (sym h)
by_lf (d ∷ u) h = (u, rw h, λ n. refl, omega arith)

step : (c : ℕ) (t : List ℕ) (a b : Bool) → eqb c 10 ≡ a → (eqb c 13 && starts_lf t) ≡ b → (0 < length t → First t) → First (c ∷ t)
unfolding lines_of line_length
step c t true b e f r =
    record {
      lines = rw (e, zero-add, e);
      fits = rw (e, zero-add, e) (omega arith);
      moves = rw (e, zero-add, e) (omega arith);
    }
step c t false true e f r =
    let (u, k, d, l) = by_lf t (both_true (eqb c 13) (starts_lf t) f).1 in
    record {
      lines = rw (e, f, zero-add, e, f, k, d 0);
      fits = rw (e, f, zero-add, e, f) (omega arith);
      moves = rw (e, f, zero-add, e, f) (omega arith);
    }
step c [] false false e f r =
    record {
      lines = rw (e, f);
      fits = rw (e, f) (omega arith);
      moves = rw (e, f) (omega arith);
    }
step c (d ∷ t) false false e f r =
    let q = r (omega arith) in
    record {
      lines = rw (e, f, q.lines, suc-add);
      fits = rw (e, f, suc-add) (omega (arith, q.fits));
      moves = rw (e, f, suc-add) (omega arith);
    }

first : (t : List ℕ) → 0 < length t → First t
first [] h = absurd (omega arith)
first (c ∷ t) h = step c t (eqb c 10) (eqb c 13 && starts_lf t) refl refl (first t)

-- ---- the line that starts at `at`
pub record Found (t : List ℕ) (at stop next : ℕ) : Type 0 where
  pub lines : lines_of (drop at t) ≡ take (stop - at) (drop at t) ∷ lines_of (drop next t)
  pub starts : at ≤ stop
  pub stops : stop ≤ next
  pub moves : at < next
  pub fits : next ≤ length t

first_at : (t : List ℕ) (at : ℕ) → at < length t → Found t at (line_at t at).stop (line_at t at).next
first_at t at h =
    let u = drop at t in
    let n : length u ≡ length t - at = length-drop at t in
    let q = first u (omega arith) in
    let m = q.moves in
    let k = q.fits in
    let w : stop_of t at - at ≡ line_length u = omega arith in
    let e : (line_at t at).next ≡ at + next_of u = rw (← drop-drop (line_length u) at t) (omega arith) in
    record {
      lines = rw (w, e, ← drop-drop (next_of u) at t) q.lines;
      starts = omega arith;
      stops = omega arith;
      moves = omega arith;
      fits = omega arith;
    }

pub found : (t : List ℕ) (at : ℕ) (r : Line) → at < length t → r ≡ line_at t at → Found t at r.stop r.next
found t at r h e = rw e (first_at t at h)

pub first_line : (t : List ℕ) (r : Line) → 0 < length t → r ≡ line_at t 0 → lines_of t ≡ take r.stop t ∷ lines_of (drop r.next t)
first_line t r h e = rw sub-zero at (found t 0 r h e).lines

pub no_lines : (t : List ℕ) (at : ℕ) → length t ≤ at → lines_of (drop at t) ≡ []
unfolding lines_of
no_lines t at h = rw (drop_of_length-le t {i = at} h)

pub no_rest : (t : List ℕ) (n : ℕ) → length t ≤ 0 → t ≡ drop n t
no_rest t n h = drop_of_length-le t {i = 0} h ∙ sym (drop_of_length-le t {i = n} (omega (arith, h)))

-- ---- a text has no more lines than characters
first_more : (c : ℕ) (ls : List (List ℕ)) → length (on_first c ls) ≤ suc (length ls)
first_more c [] = omega arith
first_more c (l ∷ ls) = omega arith

pub few_lines : (t : List ℕ) → length (lines_of t) ≤ length t
unfolding lines_of
few_lines [] = omega arith
few_lines (c ∷ t) =
    let few = few_lines t in
    let more = first_more c (lines_of t) in
    let Few : List (List ℕ) → Type 0 = λ ls. length ls ≤ suc (length t) in
    either Few (eqb c 10) _ _ (omega arith) (either Few (eqb c 13 && starts_lf t) _ _ (omega arith) (omega arith))
