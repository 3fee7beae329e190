-- Blanks in front of a text, and a line that is not two numbers.
-- Assumes nothing.
use mathlib.Core.Path.{◌≡◌, refl, sym, ◌∙◌}
use mathlib.Core.Bool.{Bool, true, false, not, ◌&&◌, ◌||◌}
use mathlib.Core.List.{List, [], ◌∷◌}
use Prim.Native.Nat.{ℕ, suc, ◌+◌, ◌≤◌, ◌<◌}
use native.Mathlib.Omega.{arith}
use native.Mathlib.Numerals.{add-one}
use lib.Dec.{eqb, ltb}
use lib.ListN.{length, drop, get_or, length-drop, drop_of_length-le}
use lib.Seq.{drop-cons}
use borrow.Author.Tests.{lt-ltb, le-ltb, ltb-true, ltb-false}
use Rattle.basis.specs.Pick.{pick}
use Rattle.basis.proofs.Choice.{test, either}
use Rattle.schedule_text.specs.Reading.{Said, Wrong, number_of, blanks, is_over, firing_of}

pub blanks_fit : (l : List ℕ) → blanks l ≤ length l
unfolding blanks
blanks_fit [] = omega arith
blanks_fit (c ∷ l) = let more = blanks_fit l in either (λ (n : ℕ). n ≤ suc (length l)) (eqb c 32 || eqb c 9) (suc (blanks l)) 0 (omega arith) (omega arith)

at_place : (l : List ℕ) (i : ℕ) → i < length l → drop i l ≡ get_or l i 0 ∷ drop (i + 1) l
at_place l i h = drop-cons l i 0 h ∙ rw (add-one i)

-- a character that is not a blank and not a tab, and one that is either
neither : (a b : Bool) → (not a && not b) ≡ true → (a || b) ≡ false
neither true b h = sym h
neither false true h = sym h
neither false false h = refl

one_of : (a b : Bool) → (not a && not b) ≡ false → (a || b) ≡ true
one_of true b h = refl
one_of false true h = refl
one_of false false h = sym h

-- the blanks at a place: one more, none, or none where the text ends
module _ (l : List ℕ) (i : ℕ) where
  pub blank : i < length l → (not (eqb (get_or l i 0) 32) && not (eqb (get_or l i 0) 9)) ≡ false → i + blanks (drop i l) ≡ i + 1 + blanks (drop (i + 1) l)
  unfolding blanks
  blank h e = let f = one_of (eqb (get_or l i 0) 32) (eqb (get_or l i 0) 9) e in rw (at_place l i h, f) (omega arith)

  pub no_blank : i < length l → (not (eqb (get_or l i 0) 32) && not (eqb (get_or l i 0) 9)) ≡ true → i + blanks (drop i l) ≡ i
  unfolding blanks
  no_blank h e = let f = neither (eqb (get_or l i 0) 32) (eqb (get_or l i 0) 9) e in rw (at_place l i h, f) (omega arith)

  pub blanks_out : length l ≤ i → i + blanks (drop i l) ≡ i
  unfolding blanks
  blanks_out h = rw (drop_of_length-le l {i = i} h) (omega arith)

shorter : (l : List ℕ) → ltb (length (drop (blanks l) l)) (length l) ≡ ltb 0 (blanks l)
shorter l =
    let d = length-drop (blanks l) l in
    let f = blanks_fit l in
    test (ltb 0 (blanks l))
    (λ e. let some = ltb-true 0 (blanks l) e in rw (e, lt-ltb (length (drop (blanks l) l)) (length l) (omega arith)))
    (λ e. let none = ltb-false 0 (blanks l) e in rw (e, le-ltb (length (drop (blanks l) l)) (length l) (omega arith)))

not_all : (a o : Bool) (x w : Said) → (a && o) ≡ false → w ≡ pick (a && true && o) x w
not_all true true x w h = absurd (cc h)
not_all true false x w h = refl
not_all false o x w h = refl

pub not_two : (text past second end rest : List ℕ) (over : Bool) → 0 < (number_of text).length → past ≡ drop (number_of text).length text → second ≡ drop (blanks past) past
    → 0 < (number_of second).length → end ≡ drop (number_of second).length second → rest ≡ drop (blanks end) end → over ≡ is_over rest
    → (ltb (length second) (length past) && over) ≡ false → Wrong ≡ firing_of text
not_two text past second end rest over t p s v e r o h =
    let a : ltb 0 (blanks past) ≡ ltb (length second) (length past) = rw (s, shorter past) in
    rw (← p, ← s, ← e, ← r, ← o, lt-ltb 0 (number_of text).length t, lt-ltb 0 (number_of second).length v, a) (not_all (ltb (length second) (length past)) over _ Wrong h)
