-- Reading undoes writing and the reverse.
-- Assumes nothing.
use mathlib.Core.Path.{◌≡◌, refl, sym, ap, ◌∙◌}
use mathlib.Core.Bool.{Bool, true, false}
use mathlib.Core.List.{List, [], ◌∷◌, ◌++◌}
use Prim.Native.Nat.{ℕ, zero, suc, ◌+◌, ◌*◌, ◌/◌, ◌%◌, ◌<◌, ◌≤◌}
use native.Mathlib.Omega.{arith}
use lib.Dec.{eqb, ltb}
use lib.ListN.{get_or, drop, length, length-append, take-append-drop, drop_of_length-le}
use lib.Seq.{take_at, drop-cons, get_or-append-add}
use borrow.Author.Tests.{ltb-false, le-ltb, eq-eqb, eqb-true}
use Rattle.basis.specs.Bit.{one}
use Rattle.basis.specs.Bytes.{Bytes}
use Rattle.basis.proofs.Bits.{one_le}
use Rattle.cores.specs.declared.Core.{Core}
use Rattle.cores.specs.State.{Sound, fresh_of, with_regs, with_pc, with_busy, with_inhibit, with_service, with_chip}
use Rattle.snapshot.specs.Snapshot.{bytes_of, core_before, core_of, wrote, write_of, read_by, read_of, ReadingUndoesWriting, WritingUndoesReading, OldSnapshotsReadUnchanged}
use Rattle.snapshot.proofs.Fields.{busy_read}

-- ---- the last byte
abbrev last : ℕ → Bool → Bool → Bool → ℕ
last b i v c = b * 32 + one i * 16 + one v * 8 + one c * 4

tested : (t : Bool) → eqb (one t) 1 ≡ t
tested true = refl
tested false = refl

-- busy b, inhibit i, in-service v, chip c
module _ (b : ℕ) (i v c : Bool) where
  busy_in : last b i v c / 32 ≡ b
  busy_in = omega (arith, one_le i, one_le v, one_le c)

  inhibit_in : eqb (last b i v c / 16 % 2) 1 ≡ i
  inhibit_in = let e : last b i v c / 16 % 2 ≡ one i = omega (arith, one_le i, one_le v, one_le c) in rw e (tested i)

  service_in : eqb (last b i v c / 8 % 2) 1 ≡ v
  service_in = let e : last b i v c / 8 % 2 ≡ one v = omega (arith, one_le v, one_le c) in rw e (tested v)

  chip_in : eqb (last b i v c / 4 % 2) 1 ≡ c
  chip_in = let e : last b i v c / 4 % 2 ≡ one c = omega (arith, one_le c) in rw e (tested c)

  spare_in : last b i v c % 4 ≡ 0
  spare_in = omega arith

-- a bit by its test
bit_back : (x : ℕ) → x < 2 → one (eqb x 1) ≡ x
bit_back zero h = refl
bit_back (suc zero) h = refl
bit_back (suc (suc x)) h = absurd (omega arith)

-- ---- reading what was written
pub at_tail : (r t : List ℕ) → length r ≡ 32 → (i : ℕ) → get_or (r ++ t) (32 + i) 0 ≡ get_or t i 0
at_tail r t h i = rw (← h) (get_or-append-add r t i 0)

joined : (x : ℕ) → x / 256 * 256 + x % 256 ≡ x
joined x = omega arith

pub read_back : (k : Core) → Sound k → read_of (bytes_of k) ≡ record { refusal = 0; core = k }
unfolding fresh_of with_regs with_pc with_busy with_inhibit with_service with_chip
read_back k s =
    let h = s.count in
    let t = k.sreg ∷ k.pc / 256 ∷ k.pc % 256 ∷ k.sp / 256 ∷ k.sp % 256 ∷ last k.busy k.inhibit k.in_service k.chip ∷ [] in
    let long : length (bytes_of k) ≡ 38 = rw length-append (omega arith) in
    rw (
      eq-eqb (length (bytes_of k)) 38 long,
      at_tail k.regs t h 5,
      busy_in,
      le-ltb 4 k.busy s.busy_le,
      spare_in,
      take_at k.regs t 32 h,
      at_tail k.regs t h 0,
      at_tail k.regs t h 1,
      at_tail k.regs t h 2,
      at_tail k.regs t h 3,
      at_tail k.regs t h 4,
      joined k.pc,
      joined k.sp,
      inhibit_in,
      service_in,
      chip_in,
    )

-- ---- writing what was read
module _ (s : List ℕ) (b : Bytes s) (h : length s ≡ 38) where
  six : drop 32 s ≡ get_or s 32 0 ∷ get_or s 33 0 ∷ get_or s 34 0 ∷ get_or s 35 0 ∷ get_or s 36 0 ∷ get_or s 37 0 ∷ []
  six =
      rw (
        drop-cons s 32 0 (omega arith),
        drop-cons s 33 0 (omega arith),
        drop-cons s 34 0 (omega arith),
        drop-cons s 35 0 (omega arith),
        drop-cons s 36 0 (omega arith),
        drop-cons s 37 0 (omega arith),
        drop_of_length-le s {i = 38} (omega arith),
      )

  high : (x y : ℕ) → y < 256 → (x * 256 + y) / 256 ≡ x
  high x y g = omega arith

  low : (x y : ℕ) → y < 256 → (x * 256 + y) % 256 ≡ y
  low x y g = omega arith

  last_back : (l : ℕ) → l % 4 ≡ 0 → l / 32 * 32 + one (eqb (l / 16 % 2) 1) * 16 + one (eqb (l / 8 % 2) 1) * 8 + one (eqb (l / 4 % 2) 1) * 4 ≡ l
  last_back l e =
      let b16 : l / 16 ≡ l / 32 * 2 + l / 16 % 2 = omega arith in
      let b8 : l / 8 ≡ l / 16 * 2 + l / 8 % 2 = omega arith in
      let b4 : l / 4 ≡ l / 8 * 2 + l / 4 % 2 = omega arith in
      let all : l ≡ l / 4 * 4 = omega arith in
      rw (bit_back (l / 16 % 2) (omega arith), bit_back (l / 8 % 2) (omega arith), bit_back (l / 4 % 2) (omega arith)) (omega arith)

  whole_back : get_or s 37 0 % 4 ≡ 0 → bytes_of (core_of s) ≡ s
  unfolding fresh_of with_regs with_pc with_busy with_inhibit with_service with_chip
  whole_back e =
      rw (
        high (get_or s 33 0) (get_or s 34 0) (b.byte_lt 34),
        low (get_or s 33 0) (get_or s 34 0) (b.byte_lt 34),
        high (get_or s 35 0) (get_or s 36 0) (b.byte_lt 36),
        low (get_or s 35 0) (get_or s 36 0) (b.byte_lt 36),
        last_back (get_or s 37 0) e,
        ← six,
      )
      (take-append-drop 32 s)

-- ---- bytes that are read
pub record Reads (spare : ℕ) (s : List ℕ) : Type 0 where
  pub long : eqb (length s) 38 ≡ true
  pub brief : ltb 4 (get_or s 37 0 / 32) ≡ false
  pub clean : eqb (get_or s 37 0 % spare) 0 ≡ true

module _ (spare : ℕ) (says : List ℕ → Core) (s : List ℕ) where
  reads_by : (t u v : Bool) → eqb (length s) 38 ≡ t → ltb 4 (get_or s 37 0 / 32) ≡ u → eqb (get_or s 37 0 % spare) 0 ≡ v → (read_by spare says s).refusal ≡ 0 → Reads spare s
  reads_by false u v e f g h = absurd (omega (arith, rw e at h))
  reads_by true true v e f g h = absurd (omega (arith, rw (e, f) at h))
  reads_by true false false e f g h = absurd (omega (arith, rw (e, f, g) at h))
  reads_by true false true e f g h = record { long = e; brief = f; clean = g }

  pub reads : (read_by spare says s).refusal ≡ 0 → Reads spare s
  reads h = reads_by (eqb (length s) 38) (ltb 4 (get_or s 37 0 / 32)) (eqb (get_or s 37 0 % spare) 0) refl refl refl h

  -- and then they are what `says` says
  pub read_is : Reads spare s → read_by spare says s ≡ record { refusal = 0; core = says s }
  read_is r = rw (r.long, r.brief, r.clean)

pub bytes_back : (s : List ℕ) → Bytes s → (read_of s).refusal ≡ 0 → bytes_of (read_of s).core ≡ s
bytes_back s b h =
    let r = reads 4 core_of s h in
    rw (read_is 4 core_of s r) (whole_back s b (eqb-true (length s) 38 r.long) (eqb-true (get_or s 37 0 % 4) 0 r.clean))

-- ---- into a buffer of 38 bytes
pub written : (k : Core) (out : List ℕ) → k.busy ≤ 4 → length out ≡ 38 → write_of k out ≡ wrote 0 (bytes_of k)
written k out b h = rw (eq-eqb (length out) 38 h, le-ltb 4 k.busy b)

pub reading_undoes_writing : ReadingUndoesWriting
reading_undoes_writing k out s h = rw (written k out s.busy_le h) (read_back k s)

-- a core that was read is not too busy
pub read_busy : (s : List ℕ) → (read_of s).refusal ≡ 0 → (read_of s).core.busy ≤ 4
read_busy s h = let r = reads 4 core_of s h in rw (read_is 4 core_of s r, busy_read s) (ltb-false 4 (get_or s 37 0 / 32) r.brief)

pub writing_undoes_reading : WritingUndoesReading
writing_undoes_reading s out b h l = written (read_of s).core out (read_busy s h) l ∙ ap (wrote 0) (bytes_back s b h)

-- ---- what was written before there was a rule
rule_clear : (l : ℕ) → l % 8 ≡ 0 → eqb (l / 4 % 2) 1 ≡ false
rule_clear l e = let z : l / 4 % 2 ≡ 0 = omega arith in rw z

same_core : (s : List ℕ) → get_or s 37 0 % 8 ≡ 0 → core_of s ≡ core_before s
unfolding fresh_of with_regs with_pc with_busy with_inhibit with_service with_chip
same_core s e = rw (rule_clear (get_or s 37 0) e)

pub old_snapshots_read_unchanged : OldSnapshotsReadUnchanged
old_snapshots_read_unchanged s h =
    let r = reads 8 core_before s h in
    let e = eqb-true (get_or s 37 0 % 8) 0 r.clean in
    let now : Reads 4 s = record { long = r.long; brief = r.brief; clean = eq-eqb (get_or s 37 0 % 4) 0 (omega arith) } in
    read_is 4 core_of s now ∙ ap (λ (k : Core). record { refusal = 0; core = k }) (same_core s e) ∙ sym (read_is 8 core_before s r)
