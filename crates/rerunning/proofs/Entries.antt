-- The numbers before the first 0, one after another, and numbers as bytes. e are numbers, and i of them are looked at.
-- Assumes nothing.
use mathlib.Core.Path.{◌≡◌, refl, sym, ap, ◌∙◌}
use mathlib.Core.Bool.{Bool, true, false}
use mathlib.Core.List.{List, [], ◌∷◌, ◌++◌, append_assoc}
use Prim.Native.Nat.{ℕ, ◌+◌, ◌*◌, ◌/◌, ◌≤◌}
use native.Mathlib.Omega.{arith}
use lib.Dec.{eqb}
use lib.ListN.{take, length, length-append, length-take}
use Rattle.std.specs.Prelude.{not}
use Rattle.std.specs.List.{take_while}
use Rattle.std.proofs.lemmas.List.Sums.{take_while-cons}
use Rattle.schedule.specs.Laws.{entered_of}
use Rattle.rerunning.specs.Rerun.{four, fours}

-- the numbers that come before a 0, as the code looks for them
abbrev some : ℕ → Bool
some n = not (eqb n 0)

abbrev while_some : List ℕ → List ℕ
while_some e = take_while some e

counted_by : (n : ℕ) (e : List ℕ) (b : Bool) → eqb n 0 ≡ b → while_some e ≡ entered_of e → while_some (n ∷ e) ≡ entered_of (n ∷ e)
unfolding entered_of
counted_by n e true h r = rw (take_while-cons some n e, h)
counted_by n e false h r = rw (take_while-cons some n e, h) (ap (λ (l : List ℕ). n ∷ l) r)

pub counted : (e : List ℕ) → while_some e ≡ entered_of e
unfolding entered_of
counted [] = refl
counted (n ∷ e) = counted_by n e (eqb n 0) refl (counted e)

-- they are the first of e
first_by : (n : ℕ) (e : List ℕ) (b : Bool) → eqb n 0 ≡ b → take (length (entered_of e)) e ≡ entered_of e → take (length (entered_of (n ∷ e))) (n ∷ e) ≡ entered_of (n ∷ e)
unfolding entered_of
first_by n e true h r = rw h
first_by n e false h r = rw h (ap (λ (l : List ℕ). n ∷ l) r)

first : (e : List ℕ) → take (length (entered_of e)) e ≡ entered_of e
unfolding entered_of
first [] = refl
first (n ∷ e) = first_by n e (eqb n 0) refl (first e)

module _ (e : List ℕ) (n : ℕ) (is : n ≡ length (entered_of e)) where
  pub entered_first : take n e ≡ entered_of e
  entered_first = rw is (first e)

  pub entered_few : n ≤ length e
  entered_few = let h = length-take (length (entered_of e)) e in omega (arith, is, h, ap length (first e))

pub fours_none : fours [] ≡ []
unfolding fours
fours_none = refl

-- one number more
pub fours_more : (e : List ℕ) (n : ℕ) → fours (e ++ (n ∷ [])) ≡ fours e ++ four n
unfolding fours
fours_more [] n = refl
fours_more (x ∷ e) n = ap (λ (l : List ℕ). four x ++ l) (fours_more e n) ∙ sym (append_assoc (four x) (fours e) (four n))

pub fours_long : (e : List ℕ) → length (fours e) ≡ 4 * length e
unfolding fours
fours_long [] = refl
fours_long (n ∷ e) = let h = fours_long e in omega (arith, h)

-- how many entries are behind those that were there
pub many_more : (s e : List ℕ) → length (s ++ fours e) / 4 ≡ length s / 4 + length e
many_more s e = rw (length-append, fours_long) (omega arith)
