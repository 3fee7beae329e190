-- 01: "Snapshot, most significant bit first: R0 to R31, SREG, PC, SP, busy 3 bits, inhibit 1, in-service 1, three zero bits: 38 bytes."
-- 02, W2: the rule choice "takes the first spare bit of the snapshot, 0 for source", so that two zero bits are left.
use Rattle.std.specs.Prelude.{◌≡◌, List, [], ◌∷◌, ◌++◌, ℕ, ◌+◌, ◌*◌, ◌/◌, ◌%◌, eqb, ltb, get_or, take, length, Result, Ok, Err}
use Rattle.basis.specs.Pick.{pick}
use Rattle.basis.specs.Bit.{one}
use Rattle.basis.specs.Bytes.{Bytes}
use Rattle.cores.specs.declared.Core.{Core}
use Rattle.cores.specs.State.{fresh_of, with_regs, with_sreg, with_pc, with_busy, with_inhibit, with_service, with_chip, Sound}
use Rattle.snapshot.specs.declared.Unreadable.{Unreadable}
use Rattle.snapshot.specs.declared.Unreadable.TheVariants as unreadable
use Rattle.snapshot.specs.declared.Unwritable.{Unwritable}
use Rattle.snapshot.specs.declared.Unwritable.TheVariants as unwritable

-- a core's 38 bytes
abbrev pub bytes_of : Core → List ℕ
bytes_of k =
    k.regs
    ++ (k.sreg ∷ k.pc / 256 ∷ k.pc % 256 ∷ k.sp / 256 ∷ k.sp % 256 ∷ (k.busy * 32 + one k.inhibit * 16 + one k.in_service * 8 + one k.chip * 4) ∷ [])

-- the core that 38 bytes say by 01 alone: with rule source
abbrev pub core_before : List ℕ → Core
core_before s =
    let last = get_or s 37 0 in
    let k = with_pc (with_sreg (with_regs (fresh_of (get_or s 35 0 * 256 + get_or s 36 0)) (take 32 s)) (get_or s 32 0)) (get_or s 33 0 * 256 + get_or s 34 0) in
    with_service (with_inhibit (with_busy k (last / 32)) (eqb (last / 16 % 2) 1)) (eqb (last / 8 % 2) 1)

-- and by 02, with the rule
abbrev pub core_of : List ℕ → Core
core_of s = with_chip (core_before s) (eqb (get_or s 37 0 / 4 % 2) 1)

-- ---- writing: a refusal's number, 0 for none, and the buffer
pub record Written : Type 0 where
  pub refusal : ℕ
  pub bytes : List ℕ

abbrev pub wrote : ℕ → List ℕ → Written
wrote n s = record { refusal = n; bytes = s }

-- "Writing checks the output's length (7), then busy above 4 (5)." A refused write changes no byte
abbrev pub write_of : Core → List ℕ → Written
write_of k out = pick (eqb (length out) 38) (pick (ltb 4 k.busy) (wrote 5 out) (wrote 0 (bytes_of k))) (wrote 7 out)

pub record Writes (w : Written) (n : ℕ) (s : List ℕ) : Type 0 where
  pub refusal : n ≡ w.refusal
  pub bytes : s ≡ w.bytes

-- the number of each refusal, and of what the code hands back
abbrev pub unwritable_number : Unwritable → ℕ
unwritable_number unwritable.Length = 7
unwritable_number unwritable.Busy = 5

abbrev pub said_write : Result Unit Unwritable → ℕ
said_write (Ok x) = 0
said_write (Err e) = unwritable_number e

-- ---- reading: a refusal's number, 0 for none, and the core, a fresh one where the bytes are refused
-- "7, 8, 9 refused: snapshot not 38 bytes; busy field above 4; spare bits not zero"; 02, W2: "9 now covers the two remaining spare bits"
pub record SnapshotRead : Type 0 where
  pub refusal : ℕ
  pub core : Core

abbrev pub refused_read : ℕ → SnapshotRead
refused_read n = record { refusal = n; core = fresh_of 0 }

-- the number of each refusal, and what the code hands back says
abbrev pub unreadable_number : Unreadable → ℕ
unreadable_number unreadable.Length = 7
unreadable_number unreadable.Busy = 8
unreadable_number unreadable.Spare = 9

abbrev pub said_read : Result Core Unreadable → SnapshotRead
said_read (Ok k) = record { refusal = 0; core = k }
said_read (Err e) = refused_read (unreadable_number e)

-- 9 where the last byte is no multiple of `spare`; the core is what `says` makes of the bytes
abbrev pub read_by : ℕ → (List ℕ → Core) → List ℕ → SnapshotRead
read_by spare says s =
    pick (eqb (length s) 38)
    (pick (ltb 4 (get_or s 37 0 / 32)) (refused_read 8) (pick (eqb (get_or s 37 0 % spare) 0) (record { refusal = 0; core = says s }) (refused_read 9)))
    (refused_read 7)

-- two spare bits
abbrev pub read_of : List ℕ → SnapshotRead
read_of s = read_by 4 core_of s

-- by 01 alone: three spare bits, and no rule
abbrev pub read_before : List ℕ → SnapshotRead
read_before s = read_by 8 core_before s

-- ---- the theorems, proved in proofs/RoundTrips.antt: "Reading undoes writing and the reverse."
abbrev pub ReadingUndoesWriting : Type 0
ReadingUndoesWriting = (k : Core) (out : List ℕ) → Sound k → length out ≡ 38 → read_of (write_of k out).bytes ≡ record { refusal = 0; core = k }

abbrev pub WritingUndoesReading : Type 0
WritingUndoesReading = (s out : List ℕ) → Bytes s → (read_of s).refusal ≡ 0 → length out ≡ 38 → write_of (read_of s).core out ≡ wrote 0 s

-- 02, W2: "so old snapshots read unchanged"
abbrev pub OldSnapshotsReadUnchanged : Type 0
OldSnapshotsReadUnchanged = (s : List ℕ) → (read_before s).refusal ≡ 0 → read_of s ≡ read_before s
