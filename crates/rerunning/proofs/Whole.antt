-- A buffer of 655,408 bytes takes the whole output: 48, and at most 65,536 entries of 4 bytes, as many bytes of data and as many records of 5.
-- Assumes nothing.
use mathlib.Core.Path.{◌≡◌, refl, sym, ap, subst, ◌∙◌}
use mathlib.Core.List.{List, ◌∷◌}
use Prim.Native.Nat.{ℕ, ◌+◌, ◌*◌, ◌-◌, ◌≤◌}
use native.Mathlib.Omega.{arith}
use lib.Dec.{eqb}
use lib.ListN.{length, drop, replicate, length-append, length-drop}
use lib.Seq.{length-take-le}
use borrow.Author.Tests.{eqb-true}
use Rattle.basis.specs.Pick.{pick}
use Rattle.basis.specs.Bytes.{Bytes}
use Rattle.basis.proofs.Choice.{test, cases, either}
use Rattle.snapshot.specs.Snapshot.{read_of, write_of}
use Rattle.snapshot.proofs.RoundTrips.{reading_undoes_writing}
use Rattle.run.specs.Over.{said_by}
use Rattle.run.proofs.Stretched.{long}
use Rattle.run.proofs.Turns.{said_sound}
use Rattle.page.proofs.Laid.{in_front}
use Rattle.schedule.specs.Schedule.{records_of, refusal_of, scheduled, refusal_in, ScheduleIn, schedule_from}
use Rattle.schedule.specs.Laws.{entered_of}
use Rattle.intel_hex.specs.Reading as hex
use Rattle.schedule_text.specs.Reading as text
use Rattle.schedule_text.proofs.Laws.{text_listed, bytes_length}
use Rattle.rerunning.specs.Rerun.{State, many_of, four, fours, state_of, next_of, part, after_of, gone_on, ran_of, image_of, told_of, written_of, job_of, rerun_of}
use Rattle.rerunning.specs.declared.job.Job.{Job}
use Rattle.std.specs.Prelude.{Option, Some, None}
use Rattle.rerunning.specs.Laws.{WholeRerun}
use Rattle.rerunning.proofs.Entries.{entered_few, fours_long}
use Rattle.rerunning.proofs.Image.{take_bytes, drop_bytes, program_bytes, zeros_bytes}
use Rattle.rerunning.proofs.Kept.{Vectors, kept, most_count, many_entries}
use Rattle.rerunning.proofs.Listed.{ds, r, listed, vectors}
use Rattle.rerunning.proofs.Given.{given, only_zeros, entered_numbers}
use Rattle.rerunning.proofs.Within.{Within, job_within}

-- ---- how long is what the run gives; `few` are the records that are not entered, and `most` its ticks
pub record Short (m : List ℕ) (few most : ℕ) (x : ScheduleIn) : Type 0 where
  pub snapshot : length x.run.snapshot ≡ 38
  pub bytes : length x.run.bytes ≡ length m
  pub new : length (entered_of x.numbers) ≤ few
  pub count : x.run.count ≤ most

first_zero : (q w : ℕ) → pick (eqb q 0) w q ≡ 0 → q ≡ 0
first_zero q w h = test (eqb q 0) (λ e. eqb-true q 0 e) (λ e. rw e at h)

module _ (s p m l : List ℕ) (done left n : ℕ) (is38 : length s ≡ 38) (bs : Bytes s) (bp : Bytes p) (bm : Bytes m) (v : Vectors (records_of l)) where
  passes : (read_of s).refusal ≡ 0 → Short m (length (records_of l)) (done + left) (given (scheduled left done (said_by s) p m (records_of l)) s (replicate n 0))
  passes none =
      let x = scheduled left done (said_by s) p m (records_of l) in
      let h = kept left done (said_by s) p m (records_of l) (said_sound s bs none) bp bm v in
      let few = entered_few x.entries (length (entered_of x.entries)) refl in
      let many = many_entries left done (said_by s) p m (records_of l) in
      let new = ap length (entered_numbers x.entries n) in
      record {
        snapshot = long (write_of x.run.core s).bytes (ap (λ q. q.refusal) (reading_undoes_writing x.run.core s h.core is38));
        bytes = h.same_length;
        new = omega (arith, few, many, new);
        count = most_count left done (said_by s) p m (records_of l);
      }

  short : Short m (length (records_of l)) (done + left) (schedule_from s p m l done left (replicate n 0))
  short =
      let room : ℕ = length {A = ℕ} (replicate n 0) in
      let refusal = refusal_in s l room in
      cases (Short m (length (records_of l)) (done + left)) (eqb refusal 0) (given (scheduled left done (said_by s) p m (records_of l)) s (replicate n 0))
      (record { run = record { answer = refusal; count = done; snapshot = s; bytes = m }; numbers = replicate n 0 })
      (λ e. passes (first_zero (read_of s).refusal (refusal_of l room) (eqb-true refusal 0 e)))
      λ e. let none = ap length (only_zeros n 0) in record { snapshot = is38; bytes = refl; new = omega (arith, none); count = omega arith }

-- ---- and the output
state_long : (z : State) → length (state_of z) ≡ 8 + length z.core + length z.entered + length z.bytes
state_long z = rw (length-append, length-append) (omega arith)

ran_short : (z : State) (r : List ℕ) (x : ScheduleIn) (many few most : ℕ) → Short z.bytes (few - many_of z) most x → length z.entered ≡ 4 * many → many ≤ 65536 → length z.bytes ≤ 65536
    → few ≤ 65536 → length r ≡ 5 * few → length (ran_of z r x) ≤ 655408
ran_short z r x many few most h is le size some five =
    let core = h.snapshot in
    let bytes = h.bytes in
    let new = h.new in
    let more = fours_long (entered_of x.numbers) in
    let both = length-append z.entered (fours (entered_of x.numbers)) in
    let all = state_long (next_of z x) in
    let with = length-append (state_of (next_of z x)) r in
    omega (arith, core, bytes, new, more, both, all, with, is, le, size, some, five)

module _ (b : ℕ) (z : State) (t l : List ℕ) (is38 : length z.core ≡ 38) (bs : Bytes z.core) (bm : Bytes z.bytes) where
  pub run_short : Short z.bytes (length (ds l 65536) - many_of z) (z.done + (b - z.done)) (after_of b z (image_of t) (r l 65536))
  run_short =
      let k = many_of z in
      let here = listed l 65536 k in
      let some : length (records_of (drop (k * 5) (r l 65536))) ≡ length (ds l 65536) - k = ap length here ∙ length-drop k (ds l 65536) in
      let h = short z.core (image_of t) z.bytes (drop (k * 5) (r l 65536)) z.done (b - z.done) 65536 is38 bs (program_bytes t (replicate 49152 0) (zeros_bytes 49152)) bm
      (subst Vectors (sym here) (vectors l 65536 k)) in
      subst (λ (few : ℕ). Short z.bytes few (z.done + (b - z.done)) (after_of b z (image_of t) (r l 65536))) some h

module _ (b : ℕ) (z : State) (t l : List ℕ) (many : ℕ) (is38 : length z.core ≡ 38) (bs : Bytes z.core) (bm : Bytes z.bytes) (is : length z.entered ≡ 4 * many) (le : many ≤ 65536)
    (size : length z.bytes ≤ 65536) where
  gone_short : length (gone_on b z (image_of t) (r l 65536)) ≤ 655408
  gone_short =
      ran_short z (r l 65536) (after_of b z (image_of t) (r l 65536)) many (length (ds l 65536)) (z.done + (b - z.done)) (run_short b z t l is38 bs bm) is le size (text_listed l 65536 0).few (bytes_length (ds l 65536))

  told_short : length (told_of b z t l) ≤ 655408
  told_short =
      let image = hex.read_of t 49152 in
      let list = text.read_of l 65536 in
      either (λ (u : List ℕ). length u ≤ 655408) (eqb image.refusal 0) _ (2 ∷ image.refusal ∷ four image.line)
      (either (λ (u : List ℕ). length u ≤ 655408) (eqb list.fault 0) _ (3 ∷ list.fault ∷ four list.line) gone_short (omega arith)) (omega arith)

part_long : (s : List ℕ) (at size : ℕ) → at + size ≤ length s → length (part s at size) ≡ size
part_long s at size h = length-take-le size (drop at s) (rw (length-drop at s) (omega arith))

written_short : (j : Option Job) (s : List ℕ) → Bytes s → Within (length s) j → length (written_of j s) ≤ 655408
written_short None s b w = omega arith
written_short (Some j) s b w =
    let hex = j.hex in
    let schedule = j.schedule in
    let size = j.size in
    let budget = j.budget in
    let done = j.done in
    let entered = j.entered in
    let inside = w.inside in
    let size_le = w.size_le in
    let at = 62 + 4 * entered in
    let some : (from size : ℕ) → Bytes (part s from size) = λ from size. take_bytes size (drop from s) (drop_bytes from s b) in
    let bytes = part_long s at size (omega arith) in
    told_short budget (record { done = done; core = part s 24 38; entered = part s 62 (4 * entered); bytes = part s at size }) (part s (at + size) hex) (part s (at + size + hex) schedule) entered
    (part_long s 24 38 (omega arith)) (some 24 38) (some at size) (part_long s 62 (4 * entered) (omega arith)) w.entered_le (omega arith)

pub whole_rerun : WholeRerun
whole_rerun s d o n b h p = let short = written_short (job_of s) s b (job_within s) in in_front (rerun_of s) d o n (omega arith) p
