-- Reading undoes writing, line by line.
-- Assumes nothing.
use mathlib.Core.Path.{◌≡◌, refl, ◌∙◌}
use mathlib.Core.Bool.{Bool, true, false}
use mathlib.Core.List.{List, [], ◌∷◌, ◌++◌, append_assoc}
use Prim.Native.Nat.{ℕ, zero, suc, ◌+◌, ◌*◌, ◌/◌, ◌-◌, ◌<◌, ◌≤◌, min}
use native.Mathlib.Omega.{arith}
use lib.Dec.{ltb}
use lib.ListN.{take, drop, length, replicate, length-append, length-take, length-drop, length-replicate, take-append-drop, replicate-append-replicate}
use lib.Seq.{sets, sets-eq, take_at, drop_at, drop-append-add, get_or-drop}
use borrow.Author.Tests.{le-ltb, ltb-false}
use Rattle.basis.specs.Bytes.{Bytes}
use Rattle.hex_line.specs.Line.{lines_of, is_digit, value_of, all_digits, said, sum_of, wrong_character, fault_of}
use Rattle.hex_line.proofs.Judged.{never}
use Rattle.intel_hex.specs.Reading.{answer, checked, read_of, filled}
use Rattle.intel_hex.specs.Writing.{digits_of, line_of, text_from, text_of, write_of, buffer_of}
use Rattle.intel_hex.specs.Promises.{GivenBack, WritingIsGivenBack}
use Rattle.intel_hex.proofs.Filled.{filled_line}
use Rattle.intel_hex.proofs.Spelled.{none, cons, tail}
use Rattle.intel_hex.proofs.LineBack.{first_line, no_fault, count_is, address_is, type_is, data_is}

-- ---- parts of a program
some : (n : ℕ) (p : List ℕ) → Bytes p → Bytes (take n p)
some zero p h = none
some (suc n) [] h = none
some (suc n) (b ∷ p) h = cons b _ (h.byte_lt 0) (some n p (tail b p h))

later : (n : ℕ) (p : List ℕ) → Bytes p → Bytes (drop n p)
later n p h = record { byte_lt = λ i. rw (get_or-drop n p i 0) (h.byte_lt (n + i)) }

drop_replicate : (m n x : ℕ) → drop m (replicate (m + n) x) ≡ replicate n x
drop_replicate m n x = rw (← replicate-append-replicate m n x) (drop_at (replicate m x) (replicate n x) m (length-replicate m x))

empty : (p : List ℕ) → length p ≤ 0 → p ≡ []
empty [] h = refl
empty (b ∷ p) h = absurd (omega arith)

-- ---- no line is refused
end_checks : (at n end size : ℕ) (p : List ℕ) → checked size n end (lines_of (text_from zero at p)) ≡ answer 0 0
unfolding text_from checked lines_of is_digit value_of all_digits said sum_of wrong_character fault_of digits_of
end_checks at n end size p = refl

checks : (lines at n end size : ℕ) (p : List ℕ) → Bytes p → lines * 16 < length p + 16 → end ≤ at → length p ≤ size - at → size ≤ 65536
    → checked size n end (lines_of (text_from lines at p)) ≡ answer 0 0
unfolding text_from checked
checks zero at n end size p b h up fits small = end_checks at n end size p
checks (suc lines) at n end size p b h up fits small =
    let s = take 16 p in
    let e : length s ≡ min 16 (length p) = length-take 16 p in
    let d : length (drop 16 p) ≡ length p - 16 = length-drop 16 p in
    let short : length s < 256 = omega arith in
    let low : at < 65536 = omega arith in
    rw (
      first_line 0 at s (text_from lines (at + 16) (drop 16 p)),
      no_fault size end at s (some 16 p b) short low up (omega arith),
      type_is 0 at s (some 16 p b) short low (omega arith),
      address_is 0 at s (some 16 p b) short low (omega arith),
      count_is 0 at s (some 16 p b) short low (omega arith),
    )
    (checks lines (at + 16) (n + 1) (at + length s) size (drop 16 p) (later 16 p b) (omega arith) (omega arith) (omega arith) small)

-- ---- every byte comes to its place: behind what is filled, `done`, stand as many bytes as are still to come
one_line : (done s : List ℕ) (n x : ℕ) → sets (done ++ replicate (length s + n) x) (length done) s ≡ (done ++ s) ++ replicate n x
one_line done s n x =
    let r = replicate (length s + n) x in
    let e : length (done ++ r) ≡ length done + (length s + n) = rw (length-append, length-replicate) in
    sets-eq s (done ++ r) (length done) (omega arith)
    ∙ rw (take_at done r (length done) refl, drop-append-add done r (length s), drop_replicate (length s) n x)

text_end : (at : ℕ) (p q : List ℕ) → filled (lines_of (text_from zero at p)) q ≡ q
unfolding text_from filled lines_of value_of said digits_of sum_of
text_end at p q = refl

text_first : (lines at : ℕ) (p : List ℕ) → text_from (suc lines) at p ≡ line_of 0 at (take 16 p) ++ (10 ∷ text_from lines (at + 16) (drop 16 p))
unfolding text_from
text_first lines at p = refl

fills : (lines at : ℕ) (p done : List ℕ) → Bytes p → lines * 16 < length p + 16 → length p ≤ lines * 16 → length p ≤ 65536 - at → (0 < length p → length done ≡ at)
    → filled (lines_of (text_from lines at p)) (done ++ replicate (length p) 0xFF) ≡ done ++ p
fills zero at p done b h k small e = rw (text_end, empty p (omega arith))
fills (suc lines) at p done b h k small e =
    let s = take 16 p in
    let rest = drop 16 p in
    let here : length done ≡ at = e (omega arith) in
    let t : length s ≡ min 16 (length p) = length-take 16 p in
    let d : length rest ≡ length p - 16 = length-drop 16 p in
    let short : length s < 256 = omega arith in
    let low : at < 65536 = omega arith in
    let whole : length p ≡ length s + length rest = omega arith in
    let fits : length rest ≤ 65536 - (at + 16) = omega arith in
    let next : 0 < length rest → length (done ++ s) ≡ at + 16 = λ q. rw length-append (omega arith) in
    rw (
      text_first,
      first_line 0 at s (text_from lines (at + 16) rest),
      filled_line,
      address_is 0 at s (some 16 p b) short low (omega arith),
      data_is 0 at s (some 16 p b) short low (omega arith),
      ← here,
      whole,
      one_line done s (length rest) 0xFF,
    )
    (rw (here, fills lines (at + 16) rest (done ++ s) (later 16 p b) (omega arith) (omega arith) fits next, append_assoc, take-append-drop))

read_back : (p b : List ℕ) → Bytes p → length p ≤ 65536 → length b ≡ length p → GivenBack (text_of p) p b
read_back p b h small e =
    let lines = (length p + 15) / 16 in
    let a : read_of (text_of p) (length b) ≡ answer 0 0 =
    rw (e, le-ltb 65536 (length p) small) (checks lines 0 1 0 (length p) p h (omega arith) (omega arith) (omega arith) small) in
    record { answered = a; bytes = rw (a, e) (fills lines 0 p [] h (omega arith) (omega arith) small (λ q. refl)) }

-- ---- over what the writer left in its buffer
given_by : (p o b : List ℕ) (large short : Bool) → ltb 65536 (length p) ≡ large → ltb (length o) (length (text_of p)) ≡ short
    → Bytes p → (write_of p (length o)).refusal ≡ 0 → length b ≡ length p → GivenBack (take (write_of p (length o)).length (buffer_of p o)) p b
given_by p o b true short e f h k q = never 56 (rw e at k)
given_by p o b false true e f h k q = never 57 (rw (e, f) at k)
given_by p o b false false e f h k q =
    let t : take (length (text_of p)) (text_of p ++ drop (length (text_of p)) o) ≡ text_of p = take_at (text_of p) (drop (length (text_of p)) o) (length (text_of p)) refl in
    rw (e, f, t) (read_back p b h (ltb-false 65536 (length p) e) q)

pub given_back : WritingIsGivenBack
given_back p o b h k q = given_by p o b (ltb 65536 (length p)) (ltb (length o) (length (text_of p))) refl refl h k q
