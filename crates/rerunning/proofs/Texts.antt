-- What is told of the texts: f is what reading the HEX text answers, q what reading the schedule does; u and v are what the buffers have room for.
-- Assumes nothing.
use mathlib.Core.Path.{◌≡◌, sym, ap, ◌∙◌}
use mathlib.Core.List.{List, ◌∷◌, ◌++◌}
use Prim.Native.Nat.{ℕ, ◌*◌, ◌≤◌}
use native.Mathlib.Omega.{arith}
use lib.ListN.{take, drop, length}
use lib.Seq.{take-append_seam}
use borrow.Author.Tests.{eq-eqb, ne_eqb}
use Rattle.intel_hex.specs.Reading as hex
use Rattle.intel_hex.specs.Reading.{Read}
use Rattle.schedule.specs.declared.list.Record.{Record}
use Rattle.schedule_text.specs.Reading.{Told, read_of, bytes_of}
use Rattle.schedule_text.specs.Reading.{Outcome}
use Rattle.schedule_text.proofs.Laws.{text_listed, bytes_length}
use Rattle.rerunning.specs.Rerun.{State, four, image_of, gone_on, told_of}

-- how the code tells it
abbrev pub outcome : Told → Outcome
outcome x = record { fault = x.fault; line = x.line; records = length x.records }

module _ (b : ℕ) (z : State) (t l : List ℕ) where
  module _ (f : Read) (u : ℕ) (room : u ≡ 49152) (is : f ≡ hex.read_of t u) where
    hex_is : f ≡ hex.read_of t 49152
    hex_is = is ∙ ap (λ (n : ℕ). hex.read_of t n) room

    pub hex_refused : (f.refusal ≡ 0 → ⊥) → 2 ∷ f.refusal ∷ four f.line ≡ told_of b z t l
    hex_refused n =
        let no = ne_eqb (hex.read_of t 49152).refusal 0 (λ e. n (ap (λ r. r.refusal) hex_is ∙ e)) in
        ap (λ r. 2 ∷ r.refusal ∷ four r.line) hex_is ∙ sym (rw no)

    module _ (read : f.refusal ≡ 0) (q : Outcome) (v : ℕ) (many : v ≡ 65536) (told : q ≡ outcome (read_of l v)) where
      yes : (hex.read_of t 49152).refusal ≡ 0
      yes = sym (ap (λ r. r.refusal) hex_is) ∙ read

      told_is : q ≡ outcome (read_of l 65536)
      told_is = told ∙ ap (λ (n : ℕ). outcome (read_of l n)) many

      pub list_refused : (q.fault ≡ 0 → ⊥) → 3 ∷ q.fault ∷ four q.line ≡ told_of b z t l
      list_refused n =
          let no = ne_eqb (read_of l 65536).fault 0 (λ e. n (ap (λ r. r.fault) told_is ∙ e)) in
          ap (λ r. 3 ∷ r.fault ∷ four r.line) told_is ∙ sym (rw (eq-eqb (hex.read_of t 49152).refusal 0 yes, no))

      pub passed : (p r : List ℕ) → p ≡ image_of t → r ≡ bytes_of (read_of l 65536).records → q.fault ≡ 0 → gone_on b z p r ≡ told_of b z t l
      passed p r image list none =
          let good : (read_of l 65536).fault ≡ 0 = sym (ap (λ r. r.fault) told_is) ∙ none in
          ap (λ (p : List ℕ). gone_on b z p r) image ∙ ap (λ (r : List ℕ). gone_on b z (image_of t) r) list
          ∙ sym (rw (eq-eqb (hex.read_of t 49152).refusal 0 yes, eq-eqb (read_of l 65536).fault 0 good))

-- the list in its buffer
module _ (l : List ℕ) (v n : ℕ) (many : v ≡ 65536) (is : n ≡ length (read_of l v).records) where
  abbrev ds : List Record
  ds = (read_of l 65536).records

  count : n ≡ length ds
  count = is ∙ ap (λ (n : ℕ). length (read_of l n).records) many

  pub few : n ≤ 65536
  few = omega (arith, count, (text_listed l 65536 0).few)

  pub list_taken : (e d : List ℕ) → e ≡ bytes_of (read_of l v).records ++ drop (5 * length (read_of l v).records) d → take (5 * n) e ≡ bytes_of ds
  list_taken e d f =
      let there : e ≡ bytes_of ds ++ drop (5 * length ds) d = f ∙ ap (λ (n : ℕ). bytes_of (read_of l n).records ++ drop (5 * length (read_of l n).records) d) many in
      let long : 5 * n ≡ length (bytes_of ds) = omega (arith, count, bytes_length ds) in
      rw (there, long, take-append_seam)
