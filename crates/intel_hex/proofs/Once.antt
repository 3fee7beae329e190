-- A file that is read names each byte at most once: its data lines rise.
-- Assumes nothing.
use mathlib.Core.Path.{◌≡◌, refl, ap}
use mathlib.Core.Bool.{Bool, true, false}
use mathlib.Core.Logic.{inl, inr}
use mathlib.Core.List.{List, [], ◌∷◌, ◌++◌}
use Prim.Native.Nat.{ℕ, ◌+◌, ◌≤◌}
use native.Mathlib.Omega.{arith}
use lib.Dec.{ltb}
use lib.ListN.{length, length-append}
use Rattle.hex_line.specs.Line.{lines_of, end_of, is_end, fault_of}
use Rattle.hex_line.proofs.Judged.{never, rises, end_empty}
use Rattle.intel_hex.specs.Reading.{checked, read_of}
use Rattle.intel_hex.specs.Promises.{Names, NamedAtMostOnce}
use Rattle.intel_hex.proofs.Checked.{Then, passed}

no_line_left : {X : Type 0} (l : List ℕ) (ls ms : List (List ℕ)) → ls ++ (l ∷ ms) ≡ [] → X
no_line_left l ls ms h =
    let n : length (ls ++ (l ∷ ms)) ≡ 0 = ap length h in
    absurd (omega (arith, length-append ls (l ∷ ms)))

-- the line after an end record is none; after a data line the rest is checked on
module _ (size n end : ℕ) (l : List ℕ) (ls : List (List ℕ)) (m : List ℕ) (after : List (List ℕ)) (h : (checked size n end (l ∷ (ls ++ (m ∷ after)))).refusal ≡ 0) where
  a_data_line : (is_end l ≡ false) × ((checked size (n + 1) (end_of l) (ls ++ (m ∷ after))).refusal ≡ 0)
  a_data_line = go (passed size n end l (ls ++ (m ∷ after)) h).rest
    where
      go : Then size n l (ls ++ (m ∷ after)) → (is_end l ≡ false) × ((checked size (n + 1) (end_of l) (ls ++ (m ∷ after))).refusal ≡ 0)
      go (inl (e, k)) = no_line_left m ls after k
      go (inr q) = q

-- an end record names nothing, and a data line nothing below where it may start
not_below : (size end : ℕ) (l : List ℕ) (x : Bool) → is_end l ≡ x → fault_of size end l ≡ 0 → (a : ℕ) → Names l a → end ≤ a
not_below size end l true e h a (p, q) = let z = end_empty size end l h e in absurd (omega arith)
not_below size end l false e h a (p, q) = let z = rises size end l h e in omega arith

-- nor does any line after it
none_below : (size : ℕ) (between : List (List ℕ)) (m : List ℕ) (after : List (List ℕ)) (n end : ℕ) → (checked size n end (between ++ (m ∷ after))).refusal ≡ 0
    → (a : ℕ) → Names m a → end ≤ a
none_below size [] m after n end h a names = not_below size end m (is_end m) refl (passed size n end m after h).right a names
none_below size (l ∷ between) m after n end h a names =
    let (e, k) = a_data_line size n end l between m after h in
    let up = rises size end l (passed size n end l (between ++ (m ∷ after)) h).right e in
    let below = none_below size between m after (n + 1) (end_of l) k a names in
    omega arith

once : (size : ℕ) (before : List (List ℕ)) (l : List ℕ) (between : List (List ℕ)) (m : List ℕ) (after : List (List ℕ)) (n end : ℕ)
    → (checked size n end (before ++ (l ∷ (between ++ (m ∷ after))))).refusal ≡ 0 → (a : ℕ) → Names l a → Names m a → ⊥
once size [] l between m after n end h a (p, q) names =
    let (e, k) = a_data_line size n end l between m after h in
    let below = none_below size between m after (n + 1) (end_of l) k a names in
    absurd (omega arith)
once size (x ∷ before) l between m after n end h a names names' =
    let (e, k) = a_data_line size n end x before l (between ++ (m ∷ after)) h in
    once size before l between m after (n + 1) (end_of x) k a names names'

pub by_size : (t : List ℕ) (size : ℕ) (large : Bool) → ltb 65536 size ≡ large → (read_of t size).refusal ≡ 0 → (checked size 1 0 (lines_of t)).refusal ≡ 0
by_size t size true e h = never 56 (rw e at h)
by_size t size false e h = rw e at h

pub named_at_most_once : NamedAtMostOnce
named_at_most_once t size h before between after l m e a names names' =
    once size before l between m after 1 0 (rw e at (by_size t size (ltb 65536 size) refl h)) a names names'
