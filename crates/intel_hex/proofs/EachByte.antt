-- Each byte of a file that is read: what its line says, or 0xFF.
-- Assumes nothing.
use mathlib.Core.Path.{◌≡◌, refl, ap, ◌∙◌}
use mathlib.Core.List.{List, [], ◌∷◌, ◌++◌}
use Prim.Native.Nat.{ℕ, suc, ◌+◌, ◌-◌, ◌≤◌, ◌<◌}
use native.Mathlib.Omega.{arith}
use lib.Dec.{eqb, ltb}
use lib.ListN.{length, get_or, set, replicate, length-set, length-replicate, get_or-replicate}
use lib.Seq.{sets, length-sets, get_or-set_same, get_or-set_other}
use borrow.Author.Tests.{eqb-true, eqb-false, ltb-true, ltb-false}
use Rattle.basis.proofs.Choice.{test}
use Rattle.hex_line.specs.Line.{lines_of, address_of, count_of, data_of, end_of}
use Rattle.intel_hex.specs.Reading.{filled, program_of}
use Rattle.intel_hex.specs.Promises.{Names, EachByteOfAFileRead}
use Rattle.intel_hex.proofs.Checked.{AllFit, all_fit, first_fits, rest_fits}
use Rattle.intel_hex.proofs.Filled.{length_data, filled_line}
use Rattle.intel_hex.proofs.Once.{by_size, named_at_most_once}

-- ---- several bytes stored, at each place
before_sets : (s p : List ℕ) (i a : ℕ) → a < i → get_or (sets p i s) a 0 ≡ get_or p a 0
before_sets [] p i a h = refl
before_sets (b ∷ s) p i a h = before_sets s (set p i b) (suc i) a (omega arith) ∙ get_or-set_other p i a b 0 (λ e. omega arith)

behind_sets : (s p : List ℕ) (i a : ℕ) → i + length s ≤ a → get_or (sets p i s) a 0 ≡ get_or p a 0
behind_sets [] p i a h = refl
behind_sets (b ∷ s) p i a h = behind_sets s (set p i b) (suc i) a (omega arith) ∙ get_or-set_other p i a b 0 (λ e. omega arith)

in_sets : (s p : List ℕ) (i a : ℕ) → i ≤ a → a < i + length s → a < length p → get_or (sets p i s) a 0 ≡ get_or s (a - i) 0
in_sets [] p i a h k j = absurd (omega arith)
in_sets (b ∷ s) p i a h k j =
    test (eqb a i)
    (λ e. let f = eqb-true a i e in
    let z : a - i ≡ 0 = omega arith in
    before_sets s (set p i b) (suc i) a (omega arith) ∙ rw (z, f) (get_or-set_same p i b 0 (omega arith)))
    (λ e. let f = eqb-false a i e in
    let z : a - i ≡ suc (a - suc i) = omega arith in
    rw z (in_sets s (set p i b) (suc i) a (omega arith) (omega arith) (rw (length-set p i b) j)))

-- ---- lines that do not name a byte leave it
leaves : (l p : List ℕ) (a : ℕ) → length (data_of l) ≡ count_of l → (Names l a → ⊥) → get_or (sets p (address_of l) (data_of l)) a 0 ≡ get_or p a 0
leaves l p a n h =
    test (ltb a (address_of l))
    (λ e. before_sets (data_of l) p (address_of l) a (ltb-true a (address_of l) e))
    (λ e. let up = ltb-false a (address_of l) e in
    test (ltb a (end_of l))
    (λ f. absurd (h (up, ltb-true a (end_of l) f)))
    (λ f. let out = ltb-false a (end_of l) f in behind_sets (data_of l) p (address_of l) a (omega arith)))

abbrev NoneNames : List (List ℕ) → ℕ → Type 0
NoneNames ls a = (before after : List (List ℕ)) (l : List ℕ) → ls ≡ before ++ (l ∷ after) → Names l a → ⊥

elsewhere : {size : ℕ} (ls : List (List ℕ)) (p : List ℕ) (a : ℕ) → AllFit size ls → NoneNames ls a → get_or (filled ls p) a 0 ≡ get_or p a 0
unfolding filled
elsewhere [] p a fit h = refl
elsewhere (l ∷ ls) p a fit h =
    elsewhere ls (sets p (address_of l) (data_of l)) a (rest_fits fit) (λ before after m e. h (l ∷ before) after m (ap (λ (r : List (List ℕ)). l ∷ r) e))
    ∙ leaves l p a (length_data l (first_fits fit)) (h [] ls l refl)

-- ---- the line that names it
at_line : (before : List (List ℕ)) (l : List ℕ) (after : List (List ℕ)) (p : List ℕ) (a : ℕ) → AllFit (length p) (before ++ (l ∷ after)) → NoneNames after a → Names l a
    → get_or (filled (before ++ (l ∷ after)) p) a 0 ≡ get_or (data_of l) (a - address_of l) 0
at_line [] l after p a fit h (low, high) =
    let f = first_fits fit in
    let n = length_data l f in
    let i = f.inside (omega arith) in
    rw filled_line (elsewhere after (sets p (address_of l) (data_of l)) a (rest_fits fit) h ∙ in_sets (data_of l) p (address_of l) a low (omega arith) (omega arith))
at_line (x ∷ before) l after p a fit h names =
    rw filled_line (at_line before l after (sets p (address_of x) (data_of x)) a (rw length-sets (rest_fits fit)) h names)

pub each_byte : EachByteOfAFileRead
each_byte t b h a =
    let blank : List ℕ = replicate (length b) 0xFF in
    let n : length blank ≡ length b = length-replicate (length b) 0xFF in
    let fit : AllFit (length b) (lines_of t) = all_fit (length b) (lines_of t) 1 0 (by_size t (length b) (ltb 65536 (length b)) refl h) in
    let is : program_of t b ≡ filled (lines_of t) blank = rw h in
    record {
      named = λ before after l e names.
          let once : NoneNames after a = λ between rest m f names'. named_at_most_once t (length b) h before between rest l m (rw (← f) e) a names names' in
          rw (is, e) (at_line before l after blank a (rw (n, ← e) fit) once names);
      unnamed = λ none inside. rw is (elsewhere (lines_of t) blank a fit none ∙ get_or-replicate (length b) a 0xFF 0 inside);
    }
