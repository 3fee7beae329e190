-- A text checked line by line: as the code's loop goes, and what holds of a text that is not refused.
-- Assumes nothing.
use mathlib.Core.Path.{◌≡◌, refl, sym}
use mathlib.Core.Bool.{Bool, true, false}
use mathlib.Core.Logic.{◌⊎◌, inl, inr}
use mathlib.Core.List.{List, [], ◌∷◌}
use Prim.Native.Nat.{ℕ, ◌+◌, ◌*◌, ◌-◌, ◌≤◌, ◌<◌}
use native.Mathlib.Omega.{arith}
use lib.Dec.{eqb}
use lib.ListN.{length, drop, take, length-drop}
use lib.Seq.{drop-drop, length-take-le}
use borrow.Author.Tests.{ne_eqb, eqb-true, eqb-false}
use Rattle.hex_line.specs.Line.{lines_of, type_of, is_end, end_of, fault_of}
use Rattle.hex_line.specs.Way.{end_length, stop_of, line_at, byte_of, Fits}
use Rattle.hex_line.proofs.Found.{found, first_line}
use Rattle.hex_line.proofs.RecordBytes.{count_is, count_of_part}
use Rattle.hex_line.proofs.Judged.{never, fault_never, fits}
use Rattle.intel_hex.specs.Reading.{answer, behind_end, checked, number_of}
use Rattle.intel_hex.specs.declared.errors.ReadError.{ReadError}
use Rattle.intel_hex.specs.declared.errors.ReadError.TheVariants.{Fault, End, TooLarge}

-- no error has the number 0
pub error_never : (e : ReadError) → number_of e ≡ 0 → ⊥
error_never (Fault n fault) h = fault_never fault h
error_never (End n) h = never 55 h
error_never TooLarge h = never 56 h

-- ---- one line more
module _ (size n end : ℕ) (l : List ℕ) (ls : List (List ℕ)) where
  pub faulty : (fault_of size end l ≡ 0 → ⊥) → checked size n end (l ∷ ls) ≡ answer (fault_of size end l) n
  unfolding checked
  faulty h = rw (ne_eqb (fault_of size end l) 0 h)

  pub last : fault_of size end l ≡ 0 → type_of l ≡ 1 → checked size n end (l ∷ ls) ≡ behind_end (n + 1) ls
  unfolding checked
  last h k = rw (h, k)

  pub onwards : fault_of size end l ≡ 0 → (type_of l ≡ 1 → ⊥) → checked size n end (l ∷ ls) ≡ checked size (n + 1) (end_of l) ls
  unfolding checked
  onwards h k = rw (h, ne_eqb (type_of l) 1 k)

pub missing : (size n end : ℕ) → checked size n end [] ≡ answer 56 n
unfolding checked
missing size n end = refl

-- ---- lines that are not refused
nothing_behind : (n : ℕ) (ls : List (List ℕ)) → (behind_end n ls).refusal ≡ 0 → ls ≡ []
nothing_behind n [] h = refl
nothing_behind n (l ∷ ls) h = never 55 h

-- behind a line without a fault: it is the end record and the last, or the rest is not refused
abbrev pub Then : ℕ → ℕ → List ℕ → List (List ℕ) → Type 0
Then size n l ls = ((is_end l ≡ true) × (ls ≡ [])) ⊎ ((is_end l ≡ false) × ((checked size (n + 1) (end_of l) ls).refusal ≡ 0))

pub record Passed (size n end : ℕ) (l : List ℕ) (ls : List (List ℕ)) : Type 0 where
  pub right : fault_of size end l ≡ 0
  pub rest : Then size n l ls

passed_by : (size n end : ℕ) (l : List ℕ) (ls : List (List ℕ)) (a b : Bool) → eqb (fault_of size end l) 0 ≡ a → is_end l ≡ b
    → (checked size n end (l ∷ ls)).refusal ≡ 0 → Passed size n end l ls
unfolding checked
passed_by size n end l ls true true e f h = record { right = eqb-true _ 0 e; rest = inl (f, nothing_behind (n + 1) ls (rw (e, f) at h)) }
passed_by size n end l ls true false e f h = record { right = eqb-true _ 0 e; rest = inr (f, rw (e, f) at h) }
passed_by size n end l ls false b e f h = absurd (eqb-false (fault_of size end l) 0 e (rw e at h))

pub passed : (size n end : ℕ) (l : List ℕ) (ls : List (List ℕ)) → (checked size n end (l ∷ ls)).refusal ≡ 0 → Passed size n end l ls
passed size n end l ls h = passed_by size n end l ls (eqb (fault_of size end l) 0) (is_end l) refl refl h

-- ---- so every line of a text that is not refused fits
pub data AllFit (size : ℕ) : List (List ℕ) → Type 0 where
  no_line : AllFit size []
  line : {l : List ℕ} {ls : List (List ℕ)} → Fits size l → AllFit size ls → AllFit size (l ∷ ls)

pub all_fit : (size : ℕ) (ls : List (List ℕ)) (n end : ℕ) → (checked size n end ls).refusal ≡ 0 → AllFit size ls
all_fit size [] n end h = no_line
all_fit size (l ∷ ls) n end h = let p = passed size n end l ls h in line (fits size end l p.right) (go (all_fit size ls) p.rest)
  where
    go : ((n end : ℕ) → (checked size n end ls).refusal ≡ 0 → AllFit size ls) → Then size n l ls → AllFit size ls
    go later (inl (e, k)) = rw k no_line
    go later (inr (e, k)) = later (n + 1) (end_of l) k

pub first_fits : {size : ℕ} {l : List ℕ} {ls : List (List ℕ)} → AllFit size (l ∷ ls) → Fits size l
first_fits (line f r) = f

pub rest_fits : {size : ℕ} {l : List ℕ} {ls : List (List ℕ)} → AllFit size (l ∷ ls) → AllFit size ls
rest_fits (line f r) = r

-- a line that fits ends where its count, n, says
pub record Counted (size stop : ℕ) (t : List ℕ) : Type 0 where
  pub inside : stop ≤ length t
  pub ends : end_length (drop stop t) ≤ length (drop stop t)
  pub lines : lines_of t ≡ take stop t ∷ lines_of (drop (end_length (drop stop t)) (drop stop t))
  pub fits : Fits size (take stop t)
  pub rest : AllFit size (lines_of (drop (end_length (drop stop t)) (drop stop t)))

pub by_count : {size : ℕ} (t : List ℕ) (n : ℕ) → 0 < length t → AllFit size (lines_of t) → n ≡ byte_of t 0 → Counted size (n * 2 + 11) t
by_count {size} t n h fit e =
    let f = found t 0 (line_at t 0) h refl in
    let stop = stop_of t 0 in
    let b = f.stops in
    let c = f.fits in
    let next : drop (line_at t 0).next t ≡ drop (end_length (drop stop t)) (drop stop t) = sym (drop-drop (end_length (drop stop t)) stop t) in
    let lines : lines_of t ≡ take stop t ∷ lines_of (drop (end_length (drop stop t)) (drop stop t)) = rw (← next) (first_line t (line_at t 0) h refl) in
    let all : AllFit size (take stop t ∷ lines_of (drop (end_length (drop stop t)) (drop stop t))) = rw lines at fit in
    let line = first_fits all in
    let long = line.long in
    let m : length (take stop t) ≡ stop = length-take-le stop t (omega arith) in
    let count = count_is (take stop t) line.digits in
    let first : byte_of (take stop t) 0 ≡ byte_of t 0 = count_of_part stop t (omega arith) (omega arith) in
    let k : stop ≡ n * 2 + 11 = omega arith in
    let d : length (drop stop t) ≡ length t - stop = length-drop stop t in
    rw (← k) (record { inside = omega arith; ends = omega arith; lines = lines; fits = line; rest = rest_fits all })
