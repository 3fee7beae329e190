-- What a line's fault says of the line: each number its condition, and 0 that nothing is wrong with it.
-- Assumes nothing.
use mathlib.Core.Path.{◌≡◌, refl}
use mathlib.Core.Bool.{Bool, true, false, not, ◌&&◌, ◌||◌}
use mathlib.Core.List.{List, [], ◌∷◌}
use Prim.Native.Nat.{ℕ, suc, ◌*◌, ◌+◌, ◌≤◌, ◌<◌}
use native.Mathlib.Omega.{arith}
use lib.Dec.{eqb, ltb}
use lib.ListN.{length, drop}
use borrow.Author.Tests.{eqb-true, ltb-false, lt-ltb, not-false}
use Rattle.basis.specs.Pick.{pick}
use Rattle.basis.proofs.Choice.{clash}
use Rattle.basis.proofs.Both.{both_true}
use Rattle.hex_line.specs.Line.{all_digits, count_of, address_of, end_of, is_end, wrong_character, wrong_length, wrong_sum, wrong_type, outside, falls, fault_of, number_of}
use Rattle.hex_line.specs.declared.faults.LineFault.{LineFault}
use Rattle.hex_line.specs.declared.faults.LineFault.TheVariants.{Character, Length, Sum, Kind, Outside, Falls}
use Rattle.hex_line.specs.Way.{Fits}

-- the number by the six tests
abbrev lowest : Bool → Bool → Bool → Bool → Bool → Bool → ℕ
lowest a b c d e f = pick a 50 (pick b 51 (pick c 52 (pick d 53 (pick e 54 (pick f 55 0)))))

abbrev Numbers : Bool → Bool → Bool → Bool → Bool → Bool → Type 0
Numbers a b c d e f =
    let n = lowest a b c d e f in
    (eqb n 50 ≡ a) × (eqb n 51 ≡ (not a && b)) × (eqb n 52 ≡ (not a && not b && c)) × (eqb n 53 ≡ (not a && not b && not c && d))
    × (eqb n 54 ≡ (not a && not b && not c && not d && e)) × (eqb n 55 ≡ (not a && not b && not c && not d && not e && f)) × (n < 56)

numbers : (a b c d e f : Bool) → Numbers a b c d e f
numbers true b c d e f = (refl, refl, refl, refl, refl, refl, omega arith)
numbers false true c d e f = (refl, refl, refl, refl, refl, refl, omega arith)
numbers false false true d e f = (refl, refl, refl, refl, refl, refl, omega arith)
numbers false false false true e f = (refl, refl, refl, refl, refl, refl, omega arith)
numbers false false false false true f = (refl, refl, refl, refl, refl, refl, omega arith)
numbers false false false false false true = (refl, refl, refl, refl, refl, refl, omega arith)
numbers false false false false false false = (refl, refl, refl, refl, refl, refl, omega arith)

pub fault_numbers : (size end : ℕ) (l : List ℕ) → Numbers (wrong_character l) (wrong_length l) (wrong_sum l) (wrong_type l) (outside size l) (falls end l)
fault_numbers size end l = numbers (wrong_character l) (wrong_length l) (wrong_sum l) (wrong_type l) (outside size l) (falls end l)

-- ---- a line without a fault
-- no number of a refusal is 0
pub never : {X : Type 0} (n : ℕ) → suc n ≡ 0 → X
never n h = absurd (omega arith)

pub fault_never : (f : LineFault) → number_of f ≡ 0 → ⊥
fault_never Character h = never 49 h
fault_never Length h = never 50 h
fault_never Sum h = never 51 h
fault_never Kind h = never 52 h
fault_never Outside h = never 53 h
fault_never Falls h = never 54 h

all_false : (a b c d e f : Bool) → lowest a b c d e f ≡ 0 → (a ≡ false) × (b ≡ false) × (e ≡ false) × (f ≡ false)
all_false true b c d e f h = never 49 h
all_false false true c d e f h = never 50 h
all_false false false true d e f h = never 51 h
all_false false false false true e f h = never 52 h
all_false false false false false true f h = never 53 h
all_false false false false false false true h = never 54 h
all_false false false false false false false h = (refl, refl, refl, refl)

or_false : (a b : Bool) → (a || b) ≡ false → (a ≡ false) × (b ≡ false)
or_false true b h = clash h
or_false false b h = (refl, h)

pub colon_digits : (l : List ℕ) → wrong_character l ≡ false → all_digits (drop 1 l) ≡ true
unfolding wrong_character all_digits
colon_digits [] h = refl
colon_digits (c ∷ t) h = (both_true (eqb c 58) (all_digits t) (not-false _ h)).1

module _ (size end : ℕ) (l : List ℕ) (h : fault_of size end l ≡ 0) where
  right : (wrong_character l ≡ false) × (wrong_length l ≡ false) × (outside size l ≡ false) × (falls end l ≡ false)
  unfolding fault_of
  right = all_false (wrong_character l) (wrong_length l) (wrong_sum l) (wrong_type l) (outside size l) (falls end l) h

  pub fits : Fits size l
  fits =
      let (characters, long, inside, up) = right in
      record {
        digits = colon_digits l characters;
        long = eqb-true (length l) (count_of l * 2 + 11) (not-false _ (or_false _ _ long).0);
        inside = λ q. ltb-false size (end_of l) (rw (lt-ltb 0 (count_of l) q) at inside);
      }

  -- a data line starts at or above the end of the one before
  pub rises : is_end l ≡ false → end ≤ address_of l
  rises k = let (characters, long, inside, up) = right in ltb-false (address_of l) end (rw k at up)

  -- an end record has no data
  pub end_empty : is_end l ≡ true → count_of l ≤ 0
  end_empty k =
      let (characters, long, inside, up) = right in
      let none : (is_end l && ltb 0 (count_of l)) ≡ false = (or_false (not (eqb (length l) (count_of l * 2 + 11))) (is_end l && ltb 0 (count_of l)) long).1 in
      ltb-false 0 (count_of l) (rw k at none)
