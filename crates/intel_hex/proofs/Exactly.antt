-- Each number exactly where its condition holds: past good data lines the first other line decides.
-- Assumes nothing.
use mathlib.Core.Path.{◌≡◌, refl, sym, ap, ◌∙◌}
use mathlib.Core.Bool.{Bool, true, false, not, ◌&&◌}
use mathlib.Core.Logic.{◌⊎◌, inl, inr, ◌↔◌}
use mathlib.Core.List.{List, [], ◌∷◌, ◌++◌, append-nil}
use Prim.Native.Nat.{ℕ, suc, ◌+◌, ◌≤◌, ◌<◌}
use native.Mathlib.Omega.{arith}
use native.Mathlib.Nat.{add-zero}
use lib.Dec.{eqb, ltb}
use lib.ListN.{length}
use borrow.Author.Tests.{eq-eqb, eqb-true, eqb-false, lt-ltb, le-ltb, ltb-true, ltb-false, not-true}
use Rattle.basis.proofs.Both.{both_true}
use Rattle.hex_line.specs.Line.{lines_of, is_end, end_of, fault_of}
use Rattle.hex_line.proofs.Judged.{fault_numbers}
use Rattle.intel_hex.specs.Reading.{Read}
use Rattle.intel_hex.specs.Reading.{answer, behind_end, checked, read_of}
use Rattle.intel_hex.specs.Answers.{good_data, end_after, At, Ends, NoEnd, Behind, EachNumberExactly}
use Rattle.intel_hex.proofs.Checked.{faulty, last}

-- ---- from the lines to the answer
past : (size : ℕ) (before rest : List (List ℕ)) (n end : ℕ) → good_data size end before ≡ true
    → checked size n end (before ++ rest) ≡ checked size (n + length before) (end_after end before) rest
unfolding checked good_data end_after
past size [] rest n end h = rw (add-zero n)
past size (l ∷ before) rest n end h =
    let (good, rest-good) = both_true (eqb (fault_of size end l) 0 && not (is_end l)) (good_data size (end_of l) before) h in
    let (right, on) = both_true (eqb (fault_of size end l) 0) (not (is_end l)) good in
    let e : n + suc (length before) ≡ n + 1 + length before = omega arith in
    rw (right, not-true (is_end l) on, e) (past size before rest (n + 1) (end_of l) rest-good)

module _ (t : List ℕ) (size : ℕ) where
  small_read : size ≤ 65536 → read_of t size ≡ checked size 1 0 (lines_of t)
  small_read h = rw (le-ltb 65536 size h)

  from_at : (n k : ℕ) → (k ≡ 0 → ⊥) → At t size n (λ end l. eqb (fault_of size end l) k) → read_of t size ≡ answer k n
  from_at n k h w =
      let end = end_after 0 w.before in
      let f : fault_of size end w.line ≡ k = eqb-true _ k w.wrong in
      let e : 1 + length w.before ≡ n = omega (arith, w.number) in
      let refused = faulty size (1 + length w.before) end w.line w.after (λ z. h (sym f ∙ z)) in
      small_read w.small ∙ rw (w.lines, past size w.before (w.line ∷ w.after) 1 0 w.good, refused, f, e)

  from_ends : (after : List (List ℕ)) → (w : Ends t size after) → read_of t size ≡ behind_end (length w.before + 2) after
  from_ends after w =
      let e : 1 + length w.before + 1 ≡ length w.before + 2 = omega arith in
      let ended = last size (1 + length w.before) (end_after 0 w.before) w.line after w.right (eqb-true _ 1 w.ends) in
      small_read w.small ∙ rw (w.lines, past size w.before (w.line ∷ after) 1 0 w.good, ended, e)

  from_no_end : (n : ℕ) → NoEnd t size n → read_of t size ≡ answer 56 n
  unfolding checked
  from_no_end n w =
      let e : 1 + length (lines_of t) ≡ n = omega (arith, w.number) in
      small_read w.small ∙ ap (checked size 1 0) (sym (append-nil (lines_of t))) ∙ past size (lines_of t) [] 1 0 w.good ∙ rw e

  from_behind : (n : ℕ) → Behind t size n → read_of t size ≡ answer 56 n
  from_behind n w = from_ends (w.line ∷ w.after) w.end ∙ rw (← w.number)

-- ---- from the answer to the lines: the good data lines in front, and what stands behind them
data Rest (size end : ℕ) : List (List ℕ) → Type 0 where
  none : Rest size end []
  wrong : (l : List ℕ) (after : List (List ℕ)) → (fault_of size end l ≡ 0 → ⊥) → Rest size end (l ∷ after)
  ends : (l : List ℕ) (after : List (List ℕ)) → fault_of size end l ≡ 0 → is_end l ≡ true → Rest size end (l ∷ after)

record Split (size end : ℕ) (ls : List (List ℕ)) : Type 0 where
  before : List (List ℕ)
  rest : List (List ℕ)
  lines : ls ≡ before ++ rest
  good : good_data size end before ≡ true
  what : Rest size (end_after end before) rest

split_by : (size end : ℕ) (l : List ℕ) (ls : List (List ℕ)) (right end? : Bool) → eqb (fault_of size end l) 0 ≡ right → is_end l ≡ end? → Split size (end_of l) ls → Split size end (l ∷ ls)
unfolding good_data end_after
split_by size end l ls false end? e f s = record { before = []; rest = l ∷ ls; lines = refl; good = refl; what = wrong l ls (eqb-false _ 0 e) }
split_by size end l ls true true e f s = record { before = []; rest = l ∷ ls; lines = refl; good = refl; what = ends l ls (eqb-true _ 0 e) f }
split_by size end l ls true false e f s =
    record { before = l ∷ s.before; rest = s.rest; lines = rw (← s.lines); good = rw (e, f) s.good; what = s.what }

split : (size : ℕ) (ls : List (List ℕ)) (end : ℕ) → Split size end ls
unfolding good_data end_after
split size [] end = record { before = []; rest = []; lines = refl; good = refl; what = none }
split size (l ∷ ls) end = split_by size end l ls (eqb (fault_of size end l) 0) (is_end l) refl refl (split size ls (end_of l))

-- what reading can answer
data Outcome (t : List ℕ) (size : ℕ) (r : Read) : Type 0 where
  large : r ≡ answer 57 0 → 65536 < size → Outcome t size r
  faulty_at : (n k : ℕ) → r ≡ answer k n → (k ≡ 0 → ⊥) → k < 56 → At t size n (λ end l. eqb (fault_of size end l) k) → Outcome t size r
  missing : (n : ℕ) → r ≡ answer 56 n → NoEnd t size n → Outcome t size r
  behind : (n : ℕ) → r ≡ answer 56 n → Behind t size n → Outcome t size r
  whole : r ≡ answer 0 0 → Ends t size [] → Outcome t size r

fault_lt : (size end : ℕ) (l : List ℕ) → fault_of size end l < 56
unfolding fault_of
fault_lt size end l = (fault_numbers size end l).6

module _ (t : List ℕ) (size : ℕ) (small : size ≤ 65536) (before : List (List ℕ)) (good : good_data size 0 before ≡ true) where
  abbrev found_end : (l : List ℕ) (after : List (List ℕ)) → lines_of t ≡ before ++ (l ∷ after) → fault_of size (end_after 0 before) l ≡ 0 → is_end l ≡ true → Ends t size after
  found_end l after e h k = record { small = small; before = before; line = l; lines = e; good = good; right = h; ends = k }

  by_rest : {rest : List (List ℕ)} → lines_of t ≡ before ++ rest → Rest size (end_after 0 before) rest → Outcome t size (read_of t size)
  by_rest e none =
      let n = length before + 1 in
      let all : lines_of t ≡ before = e ∙ append-nil before in
      let w : NoEnd t size n = record { small = small; good = rw all good; number = rw all } in
      missing n (from_no_end t size n w) w
  by_rest e (wrong l after h) =
      let n = length before + 1 in
      let k = fault_of size (end_after 0 before) l in
      let w : At t size n (λ end l. eqb (fault_of size end l) k) =
      record { small = small; before = before; line = l; after = after; lines = e; number = refl; good = good; wrong = eq-eqb k k refl } in
      faulty_at n k (from_at t size n k h w) h (fault_lt size (end_after 0 before) l) w
  by_rest e (ends l [] h k) = let w = found_end l [] e h k in whole (from_ends t size [] w) w
  by_rest e (ends l (x ∷ after) h k) =
      let n = length before + 2 in
      let w : Behind t size n = record { line = x; after = after; end = found_end l (x ∷ after) e h k; number = refl } in
      behind n (from_behind t size n w) w

outcome_by : (t : List ℕ) (size : ℕ) (large? : Bool) → ltb 65536 size ≡ large? → Outcome t size (read_of t size)
outcome_by t size true e = large (rw e) (ltb-true 65536 size e)
outcome_by t size false e = let s = split size (lines_of t) 0 in by_rest t size (ltb-false 65536 size e) s.before s.good s.lines s.what

outcome : (t : List ℕ) (size : ℕ) → Outcome t size (read_of t size)
outcome t size = outcome_by t size (ltb 65536 size) refl

-- ---- each number
same_number : {r : Read} {k j m n : ℕ} → r ≡ answer k m → r ≡ answer j n → k ≡ j
same_number e f = ap (λ (r : Read). r.refusal) (sym e ∙ f)

same_line : {r : Read} {k j m n : ℕ} → r ≡ answer k m → r ≡ answer j n → m ≡ n
same_line e f = ap (λ (r : Read). r.line) (sym e ∙ f)

module _ {t : List ℕ} {size n : ℕ} where
  to_at : {r : Read} (k : ℕ) → (k ≡ 0 → ⊥) → k < 56 → r ≡ answer k n → Outcome t size r → At t size n (λ end l. eqb (fault_of size end l) k)
  to_at k h i f (large e g) = absurd (omega (arith, same_number e f))
  to_at k h i f (faulty_at m j e g b w) = rw (← same_number e f, ← same_line e f) w
  to_at k h i f (missing m e w) = absurd (omega (arith, same_number e f))
  to_at k h i f (behind m e w) = absurd (omega (arith, same_number e f))
  to_at k h i f (whole e w) = absurd (h (sym (same_number e f)))

  to_56 : {r : Read} → r ≡ answer 56 n → Outcome t size r → NoEnd t size n ⊎ Behind t size n
  to_56 f (large e g) = absurd (omega (arith, same_number e f))
  to_56 f (faulty_at m j e g b w) = absurd (omega (arith, same_number e f))
  to_56 f (missing m e w) = inl (rw (← same_line e f) w)
  to_56 f (behind m e w) = inr (rw (← same_line e f) w)
  to_56 f (whole e w) = absurd (omega (arith, same_number e f))

  to_57 : {r : Read} → r ≡ answer 57 n → Outcome t size r → (65536 < size) × (n ≡ 0)
  to_57 f (large e g) = (g, sym (same_line e f))
  to_57 f (faulty_at m j e g b w) = absurd (omega (arith, same_number e f))
  to_57 f (missing m e w) = absurd (omega (arith, same_number e f))
  to_57 f (behind m e w) = absurd (omega (arith, same_number e f))
  to_57 f (whole e w) = absurd (omega (arith, same_number e f))

  to_0 : {r : Read} → r ≡ answer 0 n → Outcome t size r → Ends t size [] × (n ≡ 0)
  to_0 f (large e g) = absurd (omega (arith, same_number e f))
  to_0 f (faulty_at m j e g b w) = absurd (g (same_number e f))
  to_0 f (missing m e w) = absurd (omega (arith, same_number e f))
  to_0 f (behind m e w) = absurd (omega (arith, same_number e f))
  to_0 f (whole e w) = (w, sym (same_line e f))

  same_at : (Wrong Also : ℕ → List ℕ → Bool) → ((end : ℕ) (l : List ℕ) → Wrong end l ≡ Also end l) → At t size n Wrong → At t size n Also
  same_at Wrong Also same w =
      let e = same (end_after 0 w.before) w.line in
      record { small = w.small; before = w.before; line = w.line; after = w.after; lines = w.lines; number = w.number; good = w.good; wrong = sym e ∙ w.wrong }

  -- a number of a line, by what is wrong with the line
  by_line : (k : ℕ) → (k ≡ 0 → ⊥) → k < 56 → (Wrong : ℕ → List ℕ → Bool) → ((end : ℕ) (l : List ℕ) → eqb (fault_of size end l) k ≡ Wrong end l)
      → (read_of t size ≡ answer k n) ↔ At t size n Wrong
  by_line k h i Wrong same =
      let Fault : ℕ → List ℕ → Bool = λ end l. eqb (fault_of size end l) k in
      (λ e. same_at Fault Wrong same (to_at k h i e (outcome t size)), λ w. from_at t size n k h (same_at Wrong Fault (λ end l. sym (same end l)) w))

pub each_number_exactly : EachNumberExactly
unfolding fault_of
each_number_exactly t size n =
    record {
      fifty = by_line 50 (λ z. omega arith) (omega arith) _ (λ end l. (fault_numbers size end l).0);
      fifty-one = by_line 51 (λ z. omega arith) (omega arith) _ (λ end l. (fault_numbers size end l).1);
      fifty-two = by_line 52 (λ z. omega arith) (omega arith) _ (λ end l. (fault_numbers size end l).2);
      fifty-three = by_line 53 (λ z. omega arith) (omega arith) _ (λ end l. (fault_numbers size end l).3);
      fifty-four = by_line 54 (λ z. omega arith) (omega arith) _ (λ end l. (fault_numbers size end l).4);
      fifty-five = by_line 55 (λ z. omega arith) (omega arith) _ (λ end l. (fault_numbers size end l).5);
      fifty-six = (λ e. to_56 e (outcome t size), λ w. either w);
      fifty-seven = (λ e. to_57 e (outcome t size), λ w. rw (lt-ltb 65536 size w.0, w.1));
      read = (λ e. to_0 e (outcome t size), λ w. from_ends t size [] w.0 ∙ rw w.1);
    }
  where
    either : NoEnd t size n ⊎ Behind t size n → read_of t size ≡ answer 56 n
    either (inl w) = from_no_end t size n w
    either (inr w) = from_behind t size n w
