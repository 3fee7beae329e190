-- The text of a program, line by line, and its length.
-- Assumes nothing.
use mathlib.Core.Path.{◌≡◌, refl, sym, ap, ◌∙◌}
use mathlib.Core.List.{List, [], ◌∷◌, ◌++◌, append_assoc, append-nil}
use Prim.Native.Nat.{ℕ, zero, suc, ◌+◌, ◌*◌, ◌/◌, ◌%◌, ◌-◌, ◌≤◌, ◌<◌, min}
use native.Mathlib.Omega.{arith}
use native.Mathlib.Nat.{zero-add}
use lib.Dec.{leb, ltb}
use lib.ListN.{length, take, drop, length-append, length-take, length-drop, drop_of_length-le}
use lib.Seq.{sets, sets-eq, take_all, take_at, drop_at}
use borrow.Author.Tests.{lt-ltb, le-ltb, ltb-true, ltb-false, leb-true, leb-false}
use Rattle.basis.proofs.Choice.{test}
use Rattle.hex_line.specs.Line.{sum_of}
use Rattle.intel_hex.specs.Writing.{sum_from, line_of, text_from, text_of, written, write_of, buffer_of}
use Rattle.intel_hex.specs.Promises.{TextLength}
use Rattle.intel_hex.proofs.Spelled.{length_digits}
use Rattle.intel_hex.proofs.Pieces.{sets_append}

-- the text of what is left of a program, from an address on
abbrev pub rest_of : ℕ → List ℕ → List ℕ
rest_of address p = text_from ((length p + 15) / 16) address p

-- a line with its LF
abbrev pub ended : ℕ → ℕ → List ℕ → List ℕ
ended kind at s = line_of kind at s ++ (10 ∷ [])

pub length_line : (kind at : ℕ) (s : List ℕ) → length (ended kind at s) ≡ length s * 2 + 12
length_line kind at s =
    let head = length s ∷ at / 256 ∷ at % 256 ∷ kind ∷ s in
    rw (length-append (line_of kind at s) (10 ∷ []), length_digits (head ++ (sum_from (sum_of head) ∷ [])), length-append head (sum_from (sum_of head) ∷ [])) (omega arith)

from_first : (lines i : ℕ) (p : List ℕ) → text_from (suc lines) i p ≡ ended 0 i (take 16 p) ++ text_from lines (i + 16) (drop 16 p)
unfolding text_from
from_first lines i p = sym (append_assoc (line_of 0 i (take 16 p)) (10 ∷ []) (text_from lines (i + 16) (drop 16 p)))

pub rest_end : (address : ℕ) (p : List ℕ) → length p ≡ 0 → rest_of address p ≡ ended 1 0 []
unfolding text_from
rest_end address p h = rw h

empty : (p : List ℕ) → length p ≡ 0 → p ≡ []
empty [] h = refl
empty (b ∷ p) h = absurd (omega arith)

-- ---- its length
length_end : (i : ℕ) (p : List ℕ) → length p ≤ 0 → length (text_from zero i p) ≡ length p * 2 + 0 * 12 + 12
unfolding text_from
length_end i [] k = length_line 1 0 []
length_end i (b ∷ p) k = absurd (omega arith)

length_from : (lines i : ℕ) (p : List ℕ) → length p ≤ lines * 16 → length (text_from lines i p) ≡ length p * 2 + lines * 12 + 12
length_from zero i p h = length_end i p (omega arith)
length_from (suc lines) i p h =
    let d : length (drop 16 p) ≡ length p - 16 = length-drop 16 p in
    let t : length (take 16 p) ≡ min 16 (length p) = length-take 16 p in
    rw (
      from_first lines i p,
      length-append (ended 0 i (take 16 p)) (text_from lines (i + 16) (drop 16 p)),
      length_line 0 i (take 16 p),
      length_from lines (i + 16) (drop 16 p) (omega arith),
    )
    (omega arith)

pub length_text : TextLength
length_text p = length_from ((length p + 15) / 16) 0 p (omega arith)

-- ---- a line more; past the last the address does not count, so it may wrap
module _ (rest line left : List ℕ) (address : ℕ) (cut : rest ≡ line ++ left) (long : length line ≡ min 16 (length rest)) (some : 0 < length rest) (low : address + length rest ≤ 65536) where
  both : length rest ≡ length line + length left
  both = rw cut (length-append line left)

  line_is : take 16 rest ≡ line
  line_is =
      test (leb 16 (length rest))
      (λ h. let k = leb-true 16 (length rest) h in rw cut (take_at line left 16 (omega arith)))
      (λ h. let k = leb-false 16 (length rest) h in take_all 16 rest (omega arith) ∙ rw (cut, empty left (omega (arith, both)), append-nil line))

  left_is : drop 16 rest ≡ left
  left_is =
      test (leb 16 (length rest))
      (λ h. let k = leb-true 16 (length rest) h in rw cut (drop_at line left 16 (omega arith)))
      (λ h. let k = leb-false 16 (length rest) h in rw (drop_of_length-le rest {i = 16} (omega arith), empty left (omega (arith, both))))

  next_address : rest_of (address + 16) left ≡ rest_of ((address + 16) % 65536) left
  unfolding text_from
  next_address =
      test (ltb 0 (length left))
      (λ h. let k = ltb-true 0 (length left) h in let e : (address + 16) % 65536 ≡ address + 16 = omega (arith, both) in rw e)
      (λ h. let k = ltb-false 0 (length left) h in rw (empty left (omega arith)))

  next_text : rest_of address rest ≡ ended 0 address line ++ rest_of ((address + 16) % 65536) left
  next_text =
      let e : (length rest + 15) / 16 ≡ suc ((length left + 15) / 16) = omega (arith, both) in
      rw (e, from_first, line_is, left_is, next_address)

  pub next_low : (address + 16) % 65536 + length left ≤ 65536
  next_low = omega (arith, both)

  pub next_length : length (rest_of address rest) ≡ length line * 2 + 12 + length (rest_of ((address + 16) % 65536) left)
  next_length = ap length next_text ∙ rw (length-append (ended 0 address line) (rest_of ((address + 16) % 65536) left), length_line 0 address line)

  pub next_put : (o : List ℕ) (at : ℕ) → sets o at (rest_of address rest) ≡ sets (sets o at (ended 0 address line)) (at + (length line * 2 + 12)) (rest_of ((address + 16) % 65536) left)
  next_put o at = rw (next_text, sets_append o at (ended 0 address line) (rest_of ((address + 16) % 65536) left), length_line 0 address line)

-- ---- a text written, of n characters
module _ (p o : List ℕ) (n : ℕ) (small : length p ≤ 65536) (is : n ≡ length p * 2 + (length p + 15) / 16 * 12 + 12) where
  pub short : length o < n → (written 58 0 ≡ write_of p (length o)) × (o ≡ buffer_of p o)
  short h =
      let e = le-ltb 65536 (length p) small in
      let f = lt-ltb (length o) (length (text_of p)) (omega (arith, length_text p)) in
      (rw (e, f), rw (e, f))

  pub enough : n ≤ length o → length (text_of p) ≤ length o
  enough h = omega (arith, length_text p)

  pub put : (after : List ℕ) → n ≤ length o → after ≡ sets o 0 (text_of p) → (written 0 n ≡ write_of p (length o)) × (after ≡ buffer_of p o)
  put after h w =
      let e = le-ltb 65536 (length p) small in
      let f = le-ltb (length o) (length (text_of p)) (enough h) in
      let k : n ≡ length (text_of p) = is ∙ sym (length_text p) in
      let g : after ≡ text_of p ++ drop (length (text_of p)) o = w ∙ sets-eq (text_of p) o 0 (rw zero-add (enough h)) ∙ rw zero-add in
      (rw (e, f, k), rw (e, f) g)
