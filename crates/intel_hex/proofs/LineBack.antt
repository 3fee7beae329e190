-- A line that the writer made, read: its record, and no fault in it.
-- Assumes nothing.
use mathlib.Core.Path.{◌≡◌, refl, ◌∙◌}
use mathlib.Core.Bool.{false, and-false}
use mathlib.Core.List.{List, [], ◌∷◌, ◌++◌}
use Prim.Native.Nat.{ℕ, ◌+◌, ◌*◌, ◌/◌, ◌%◌, ◌<◌, ◌≤◌}
use native.Mathlib.Omega.{arith}
use lib.Dec.{eqb}
use lib.ListN.{length, length-append}
use lib.Seq.{take_at}
use borrow.Author.Tests.{eq-eqb, le-ltb}
use Rattle.basis.specs.Bytes.{Bytes}
use Rattle.hex_line.specs.Line.{lines_of, on_first, sum_of, wrong_character, record_of, count_of, address_of, type_of, data_of, fault_of}
use Rattle.intel_hex.specs.Writing.{digits_of, sum_from, line_of}
use Rattle.intel_hex.proofs.Spelled.{no_lf, no_cr, cons, snoc, said_back, all_digits_lem, length_digits, sums_to_zero}

-- ---- the text's lines
in_line : (c : ℕ) (t : List ℕ) → eqb c 10 ≡ false → eqb c 13 ≡ false → lines_of (c ∷ t) ≡ on_first c (lines_of t)
unfolding lines_of
in_line c t h k = rw (h, k)

digits_line : (s t : List ℕ) → lines_of (digits_of s ++ (10 ∷ t)) ≡ digits_of s ∷ lines_of t
unfolding lines_of digits_of
digits_line [] t = refl
digits_line (b ∷ s) t = rw (no_lf (b / 16), no_cr (b / 16), no_lf b, no_cr b, digits_line s t)

pub first_line : (kind at : ℕ) (s t : List ℕ) → lines_of (line_of kind at s ++ (10 ∷ t)) ≡ line_of kind at s ∷ lines_of t
first_line kind at s t = in_line 58 _ refl refl ∙ rw digits_line

-- ---- a line of the bytes s
module _ (kind at : ℕ) (s : List ℕ) (b : Bytes s) (short : length s < 256) (low : at < 65536) (known : kind < 256) where
  abbrev head : List ℕ
  head = length s ∷ at / 256 ∷ at % 256 ∷ kind ∷ s

  record_is : record_of (line_of kind at s) ≡ head ++ (sum_from (sum_of head) ∷ [])
  record_is = said_back _ (snoc head (sum_from (sum_of head)) (cons _ _ short (cons _ _ (omega arith) (cons _ _ (omega arith) (cons _ _ known b)))) (omega arith))

  pub count_is : count_of (line_of kind at s) ≡ length s
  count_is = rw record_is

  pub address_is : address_of (line_of kind at s) ≡ at
  address_is = rw record_is (omega arith)

  pub type_is : type_of (line_of kind at s) ≡ kind
  type_is = rw record_is

  pub data_is : data_of (line_of kind at s) ≡ s
  data_is = rw record_is (take_at s _ (length s) refl)

  long : length (line_of kind at s) ≡ length s * 2 + 11
  long = rw (length_digits (head ++ (sum_from (sum_of head) ∷ [])), length-append head (sum_from (sum_of head) ∷ [])) (omega arith)

  sum_is : sum_of (record_of (line_of kind at s)) % 256 ≡ 0
  sum_is = rw record_is (sums_to_zero head)

  characters : wrong_character (line_of kind at s) ≡ false
  unfolding wrong_character
  characters = rw all_digits_lem

-- a data line inside the buffer, and not below the end of the one before
module _ (size end at : ℕ) (s : List ℕ) (b : Bytes s) (short : length s < 256) (low : at < 65536) (up : end ≤ at) (inside : at + length s ≤ size) where
  pub no_fault : fault_of size end (line_of 0 at s) ≡ 0
  unfolding fault_of
  no_fault =
      let c = count_is 0 at s b short low (omega arith) in
      let a = address_is 0 at s b short low (omega arith) in
      let t = type_is 0 at s b short low (omega arith) in
      let z = sum_is 0 at s b short low (omega arith) in
      let g = characters 0 at s b short low (omega arith) in
      let l = long 0 at s b short low (omega arith) in
      rw (g, c, t, z, a, eq-eqb _ _ l, le-ltb at end up, le-ltb size (at + length s) inside, and-false)
