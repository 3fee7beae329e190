-- A line filled byte by byte, lines filled one after another, and a text read.
-- Assumes nothing.
use mathlib.Core.Path.{◌≡◌, refl, sym, ◌∙◌}
use mathlib.Core.List.{List, [], ◌∷◌, ◌++◌}
use Prim.Native.Nat.{ℕ, zero, suc, ◌+◌, ◌*◌, ◌-◌, ◌≤◌, ◌<◌}
use native.Mathlib.Omega.{arith}
use native.Mathlib.Numerals.{add-one}
use native.Mathlib.Nat.{add-zero}
use lib.ListN.{length, drop, take, get_or, set, replicate, length-drop}
use lib.Seq.{sets, take-suc, take_all, get_or-take, get_or-drop, length-take-le}
use borrow.Author.Tests.{le-ltb, ne_eqb}
use Rattle.hex_line.specs.Line.{lines_of, said, record_of, count_of, address_of, data_of}
use Rattle.hex_line.specs.Way.{Fits}
use Rattle.intel_hex.specs.Reading.{Read}
use Rattle.intel_hex.specs.Reading.{checked, read_of, filled, program_of}

-- ---- a byte more
sets_snoc : (p : List ℕ) (i : ℕ) (s : List ℕ) (x : ℕ) → set (sets p i s) (i + length s) x ≡ sets p i (s ++ (x ∷ []))
sets_snoc p i [] x = rw (add-zero i)
sets_snoc p i (b ∷ s) x = let e : i + suc (length s) ≡ suc i + length s = omega arith in rw e (sets_snoc (set p i b) (suc i) s x)

length_said : (t : List ℕ) (k : ℕ) → length t ≡ k * 2 → length (said t) ≡ k
unfolding said
length_said [] k h = omega arith
length_said (c ∷ []) k h = absurd (omega arith)
length_said (c ∷ d ∷ t) zero h = absurd (omega arith)
length_said (c ∷ d ∷ t) (suc k) h = rw (length_said t k (omega arith))

module _ {size : ℕ} (l : List ℕ) (f : Fits size l) where
  pub length_data : length (data_of l) ≡ count_of l
  length_data =
      let h = f.long in
      let r : length (record_of l) ≡ count_of l + 5 = length_said (drop 1 l) (count_of l + 5) (length-drop 1 l ∙ omega arith) in
      let d : length (drop 4 (record_of l)) ≡ length (record_of l) - 4 = length-drop 4 (record_of l) in
      length-take-le (count_of l) (drop 4 (record_of l)) (omega arith)

  pub fill_step : (p : List ℕ) (j x : ℕ) → j < count_of l → x ≡ get_or (record_of l) (j + 4) 0
      → set (sets p (address_of l) (take j (data_of l))) (address_of l + j) x ≡ sets p (address_of l) (take (j + 1) (data_of l))
  fill_step p j x h e =
      let n = length_data in
      let k : length (take j (data_of l)) ≡ j = length-take-le j (data_of l) (omega arith) in
      let i : 4 + j ≡ j + 4 = omega arith in
      let v : get_or (data_of l) j 0 ≡ x = get_or-take (count_of l) (drop 4 (record_of l)) j 0 h ∙ get_or-drop 4 (record_of l) j 0 ∙ rw i (sym e) in
      let s : take (j + 1) (data_of l) ≡ take j (data_of l) ++ (x ∷ []) = rw (add-one j, take-suc (data_of l) j 0 (omega arith), v) in
      rw s (rw k at (sets_snoc p (address_of l) (take j (data_of l)) x))

  pub fill_done : (p : List ℕ) (j : ℕ) → count_of l ≤ j → sets p (address_of l) (take j (data_of l)) ≡ sets p (address_of l) (data_of l)
  fill_done p j h = rw (take_all j (data_of l) (omega (arith, length_data)))

-- ---- a line more
pub filled_line : (l : List ℕ) (ls : List (List ℕ)) (p : List ℕ) → filled (l ∷ ls) p ≡ filled ls (sets p (address_of l) (data_of l))
unfolding filled
filled_line l ls p = refl

pub filled_end : (t p : List ℕ) → length t ≡ 0 → filled (lines_of t) p ≡ p
unfolding filled lines_of
filled_end [] p h = refl
filled_end (c ∷ t) p h = absurd (omega arith)

-- ---- a text read
module _ (t p : List ℕ) (r : Read) (small : length p ≤ 65536) (is : r ≡ checked (length p) 1 0 (lines_of t)) where
  pub answered : r ≡ read_of t (length p)
  answered = rw (le-ltb 65536 (length p) small) is

  pub taken : (after : List ℕ) → r.refusal ≡ 0 → after ≡ filled (lines_of t) (replicate (length p) 0xFF) → after ≡ program_of t p
  taken after h e = rw (← answered, h) e

  pub refused : (r.refusal ≡ 0 → ⊥) → p ≡ program_of t p
  refused h = rw (← answered, ne_eqb r.refusal 0 h)
