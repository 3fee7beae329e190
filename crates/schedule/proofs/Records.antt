-- The records of a list, by its parts of five bytes.
-- Assumes nothing.
use Rattle.std.proofs.Common.{◌≡◌, refl, ap, ◌∙◌, ℕ, zero, suc, ◌+◌, ◌*◌, ◌/◌, ◌<◌, List, [], ◌∷◌, map, length, get_or, take, drop, arith, add-zero, get_or-take, get_or-drop, drop-drop}
use Rattle.std.specs.Simd.{first_chunks}
use Rattle.schedule.specs.Schedule.{Record, record_at, records_from, records_of}

-- the record that five bytes say
abbrev pub record_of : List ℕ → Record
record_of r = record_at r 0

byte : (l : List ℕ) (i j : ℕ) → j < 5 → get_or (take 5 (drop (5 * i) l)) j 0 ≡ get_or l (5 * i + j) 0
byte l i j h = get_or-take 5 (drop (5 * i) l) j 0 h ∙ get_or-drop (5 * i) l j 0

part : (l : List ℕ) (i : ℕ) → record_of (take 5 (drop (5 * i) l)) ≡ record_at l i
part l i = rw (byte l i 0 (omega arith), byte l i 1 (omega arith), byte l i 2 (omega arith), byte l i 3 (omega arith), byte l i 4 (omega arith), add-zero)

further : (l : List ℕ) (i : ℕ) → drop 5 (drop (5 * i) l) ≡ drop (5 * suc i) l
further l i = let n : 5 * i + 5 ≡ 5 * suc i = omega arith in drop-drop 5 (5 * i) l ∙ ap (λ (k : ℕ). drop k l) n

from : (l : List ℕ) (i n : ℕ) → map record_of (first_chunks 5 n (drop (5 * i) l)) ≡ records_from l i n
from l i zero = refl
from l i (suc n) = rw (part l i) (ap (λ (ds : List Record). record_at l i ∷ ds) (ap (λ (x : List ℕ). map record_of (first_chunks 5 n x)) (further l i) ∙ from l (suc i) n))

pub records_are : (l : List ℕ) → map record_of (first_chunks 5 (length l / 5) l) ≡ records_of l
records_are l = from l 0 (length l / 5)

nth_from : (l : List ℕ) (k n i : ℕ) (d : List ℕ) → i < n → get_or (first_chunks 5 n (drop (5 * k) l)) i d ≡ take 5 (drop (5 * (k + i)) l)
nth_from l k zero i d h = absurd (omega arith)
nth_from l k (suc n) zero d h = rw add-zero
nth_from l k (suc n) (suc i) d h =
    let on : suc k + i ≡ k + suc i = omega arith in
    ap (λ (x : List ℕ). get_or (first_chunks 5 n x) i d) (further l k) ∙ nth_from l (suc k) n i d (omega arith) ∙ ap (λ (j : ℕ). take 5 (drop (5 * j) l)) on

pub nth_is : (l : List ℕ) (n i : ℕ) (d : List ℕ) → i < n → record_at (get_or (first_chunks 5 n l) i d) 0 ≡ record_at l i
nth_is l n i d h =
    let none : 0 + i ≡ i = omega arith in
    ap record_of (nth_from l 0 n i d h ∙ ap (λ (j : ℕ). take 5 (drop (5 * j) l)) none) ∙ part l i

-- as the code takes it
pub chunk_is : (l : List ℕ) {cs : List (List ℕ)} → cs ≡ first_chunks 5 (length l / 5) l → {d : Record} (i : ℕ) → d ≡ record_at (get_or cs i []) 0 → i < length l / 5 → d ≡ record_at l i
chunk_is l e i is h = is ∙ ap (λ (x : List (List ℕ)). record_at (get_or x i []) 0) e ∙ nth_is l (length l / 5) i [] h
