-- A run in steps, of a state z with program p: r are the bytes of all records, ds, and there is room for n numbers.
-- Assumes nothing.
use mathlib.Core.Path.{◌≡◌, sym, ap, subst, ◌∙◌}
use mathlib.Core.List.{List, ◌∷◌, ◌++◌}
use Prim.Native.Nat.{ℕ, ◌+◌, ◌*◌, ◌-◌, ◌≤◌}
use native.Mathlib.Omega.{arith}
use lib.Dec.{eqb}
use lib.ListN.{drop, length, replicate, length-replicate}
use lib.Seq.{drop-drop}
use Rattle.basis.specs.Pick.{pick}
use Rattle.basis.specs.Bytes.{Bytes}
use Rattle.cores.specs.declared.Core.{Core}
use Rattle.invariants.specs.Instructions.{InRange}
use Rattle.snapshot.specs.Snapshot.{read_of, write_of}
use Rattle.snapshot.proofs.RoundTrips.{written, reading_undoes_writing}
use Rattle.run.specs.Over.{said_by}
use Rattle.run.proofs.Stretched.{long}
use Rattle.run.proofs.Turns.{said_sound}
use Rattle.schedule.specs.Schedule.{records_of, refusal_of, Scheduled, scheduled, ScheduleIn, schedule_from}
use Rattle.schedule.specs.declared.list.Record.{Record}
use Rattle.schedule.specs.Laws.{entered_of}
use Rattle.schedule.proofs.InSteps.{runs_in_steps}
use Rattle.intel_hex.specs.Reading as hex
use Rattle.schedule_text.specs.Reading as text
use Rattle.rerunning.specs.Rerun.{State, many_of, four, fours, state_of, after_of, next_of, ran_of, image_of, told_of}
use Rattle.rerunning.proofs.Entries.{many_more}
use Rattle.rerunning.proofs.Kept.{Vectors, kept, spent_count}
use Rattle.rerunning.proofs.Image.{program_bytes, zeros_bytes}
use Rattle.rerunning.proofs.Listed.{ds, r, listed, taken, vectors}
use Rattle.rerunning.proofs.Given.{given, passed, read_then, entered_numbers, entered_behind, fours_joined}

-- ---- x is where a step ended, and y the rest of the run behind it
module _ (z : State) (r s : List ℕ) (n : ℕ) (x y : Scheduled) where
  abbrev zeros : List ℕ
  zeros = replicate n 0

  abbrev then : State
  then = next_of z (given x s zeros)

  abbrev both : Scheduled
  both = record { run = y.run; entries = entered_of x.entries ++ y.entries }

  many_then : many_of then ≡ many_of z + length (entered_of x.entries)
  many_then = many_more z.entered (entered_of (given x s zeros).numbers) ∙ ap (λ (e : List ℕ). many_of z + length e) (entered_numbers x.entries n)

  all_entered : then.entered ++ fours (entered_of (given y s zeros).numbers) ≡ z.entered ++ fours (entered_of (given both s zeros).numbers)
  all_entered =
      rw (entered_numbers x.entries n, entered_numbers y.entries n, entered_numbers (entered_of x.entries ++ y.entries) n, entered_behind)
      (fours_joined z.entered (entered_of x.entries) (entered_of y.entries))

  same_rest : (write_of y.run.core then.core).bytes ≡ (write_of y.run.core s).bytes → ran_of then r (given y then.core zeros) ≡ ran_of z r (given both s zeros)
  same_rest into =
      let laid : List ℕ → List ℕ → List ℕ = λ c e. 0 ∷ y.run.answer ∷ (state_of (record { done = y.run.count; core = c; entered = e; bytes = y.run.bytes }) ++ r) in
      ap (λ (c : List ℕ). laid c (then.entered ++ fours (entered_of (given y s zeros).numbers))) into ∙ ap (laid (write_of y.run.core s).bytes) all_entered

-- ---- the steps
module _ (p r : List ℕ) (ds : List Record) (n : ℕ) (bp : Bytes p) (listed : (k : ℕ) → records_of (drop (k * 5) r) ≡ drop k ds) (taken : (k : ℕ) → refusal_of (drop (k * 5) r) n ≡ 0)
    (vectors : (k : ℕ) → Vectors (drop k ds)) where
  abbrev runs : ℕ → State → ScheduleIn
  runs b z = schedule_from z.core p z.bytes (drop (many_of z * 5) r) z.done (b - z.done) (replicate n 0)

  taken_here : (z : State) → (let e : List ℕ = replicate n 0 in refusal_of (drop (many_of z * 5) r) (length e) ≡ 0)
  taken_here z = subst (λ (room : ℕ). refusal_of (drop (many_of z * 5) r) room ≡ 0) (sym (length-replicate n 0)) (taken (many_of z))

  -- where the core's bytes say core k
  runs_from : (b : ℕ) (z : State) (k : Core) → read_of z.core ≡ record { refusal = 0; core = k }
      → runs b z ≡ given (scheduled (b - z.done) z.done k p z.bytes (drop (many_of z) ds)) z.core (replicate n 0)
  runs_from b z k e =
      passed z.core p z.bytes (drop (many_of z * 5) r) z.done (b - z.done) (replicate n 0) (ap (λ q. q.refusal) e) (taken_here z)
      ∙ ap (λ q. given (scheduled (b - z.done) z.done q.core p z.bytes (records_of (drop (many_of z * 5) r))) z.core (replicate n 0)) e
      ∙ ap (λ (l : List Record). given (scheduled (b - z.done) z.done k p z.bytes l) z.core (replicate n 0)) (listed (many_of z))

  module _ (b c : ℕ) (z : State) (less : b ≤ c) (bs : Bytes z.core) (bm : Bytes z.bytes) (h : (runs b z).run.answer ≡ 24) where
    abbrev k : Core
    k = said_by z.core

    abbrev left : List Record
    left = drop (many_of z) ds

    none : (read_of z.core).refusal ≡ 0
    none = read_then z.core p z.bytes (drop (many_of z * 5) r) z.done (b - z.done) (replicate n 0) h

    says : read_of z.core ≡ record { refusal = 0; core = k }
    says = ap (λ (q : ℕ). record { refusal = q; core = k }) none

    abbrev x : Scheduled
    x = scheduled (b - z.done) z.done k p z.bytes left

    first : runs b z ≡ given x z.core (replicate n 0)
    first = runs_from b z k says

    spent : x.run.answer ≡ 24
    spent = sym (ap (λ v. v.run.answer) first) ∙ h

    abbrev y : Scheduled
    y = scheduled (c - x.run.count) x.run.count x.run.core p x.run.bytes (drop (length (entered_of x.entries)) left)

    taken_up : scheduled (c - z.done) z.done k p z.bytes left ≡ both z r z.core n x y
    taken_up =
        let count = spent_count (b - z.done) z.done k p z.bytes left spent in
        let all : c - z.done ≡ (b - z.done) + (c - x.run.count) = omega (arith, count, less) in
        ap (λ (j : ℕ). scheduled j z.done k p z.bytes left) all ∙ runs_in_steps (b - z.done) (c - x.run.count) z.done k p z.bytes left spent

    x_kept : InRange x.run.core x.run.bytes z.bytes
    x_kept = kept (b - z.done) z.done k p z.bytes left (said_sound z.core bs none) bp bm (vectors (many_of z))

    y_kept : InRange y.run.core y.run.bytes x.run.bytes
    y_kept =
        kept (c - x.run.count) x.run.count x.run.core p x.run.bytes (drop (length (entered_of x.entries)) left) x_kept.core bp x_kept.bytes
        (subst Vectors (sym (drop-drop (length (entered_of x.entries)) (many_of z) ds)) (vectors (many_of z + length (entered_of x.entries))))

    abbrev next : State
    next = then z r z.core n x y

    -- the next core's bytes say it
    says_next : read_of next.core ≡ record { refusal = 0; core = x.run.core }
    says_next = reading_undoes_writing x.run.core z.core x_kept.core (long z.core none)

    into : (write_of y.run.core next.core).bytes ≡ (write_of y.run.core z.core).bytes
    into =
        let busy = y_kept.core.busy_le in
        ap (λ w. w.bytes) (written y.run.core next.core busy (long next.core (ap (λ q. q.refusal) says_next)) ∙ sym (written y.run.core z.core busy (long z.core none)))

    second : runs c next ≡ given y next.core (replicate n 0)
    second =
        runs_from c next x.run.core says_next
        ∙ ap (λ (l : List Record). given (scheduled (c - x.run.count) x.run.count x.run.core p x.run.bytes l) next.core (replicate n 0))
        (ap (λ (j : ℕ). drop j ds) (many_then z r z.core n x y) ∙ sym (drop-drop (length (entered_of x.entries)) (many_of z) ds))

    onward : ran_of next r (runs c next) ≡ ran_of z r (runs c z)
    onward =
        ap (ran_of next r) second ∙ same_rest z r z.core n x y into
        ∙ sym (ap (ran_of z r) (runs_from c z k says ∙ ap (λ (w : Scheduled). given w z.core (replicate n 0)) taken_up))

    in_steps : ran_of (next_of z (runs b z)) r (runs c (next_of z (runs b z))) ≡ ran_of z r (runs c z)
    in_steps = subst (λ (v : ScheduleIn). ran_of (next_of z v) r (runs c (next_of z v)) ≡ ran_of z r (runs c z)) (sym first) onward

-- ---- all that is told, whether a text is refused or not
pub told_in_steps : (b c : ℕ) (z : State) (t l : List ℕ) → b ≤ c → Bytes z.core → Bytes z.bytes
    → let x = after_of b z (image_of t) (text.bytes_of (text.read_of l 65536).records) in x.run.answer ≡ 24 → told_of c (next_of z x) t l ≡ told_of c z t l
told_in_steps b c z t l less bs bm h =
    let image = hex.read_of t 49152 in
    let list = text.read_of l 65536 in
    ap (λ (u : List ℕ). pick (eqb image.refusal 0) (pick (eqb list.fault 0) u (3 ∷ list.fault ∷ four list.line)) (2 ∷ image.refusal ∷ four image.line))
    (in_steps (image_of t) (r l 65536) (ds l 65536) 65536 (program_bytes t (replicate 49152 0) (zeros_bytes 49152)) (listed l 65536) (taken l 65536) (vectors l 65536) b c z less bs bm h)
