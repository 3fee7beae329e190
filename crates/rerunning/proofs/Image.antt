-- Bytes: of a part of a list, and of the program that a HEX text gives. t is its text, l a line, p a program, s are bytes.
-- Assumes nothing.
use mathlib.Core.List.{List, [], ◌∷◌}
use Prim.Native.Nat.{ℕ, zero, suc, ◌+◌, ◌<◌}
use native.Mathlib.Omega.{arith}
use lib.Dec.{eqb}
use lib.ListN.{get_or, take, drop, length, replicate}
use lib.Seq.{sets, get_or-drop}
use Rattle.basis.specs.Bytes.{Bytes}
use Rattle.basis.proofs.Choice.{either}
use Rattle.invariants.proofs.Fits.{bytes_set}
use Rattle.hex_line.specs.Line.{lines_of, record_of, count_of, address_of, data_of}
use Rattle.hex_line.proofs.RecordBytes.{byte_lt}
use Rattle.intel_hex.specs.Reading.{read_of, filled, program_of}

some : (n : ℕ) (s : List ℕ) → ((i : ℕ) → get_or s i 0 < 256) → (i : ℕ) → get_or (take n s) i 0 < 256
some zero s h i = omega arith
some (suc n) [] h i = omega arith
some (suc n) (b ∷ s) h zero = h 0
some (suc n) (b ∷ s) h (suc i) = some n s (λ i. h (suc i)) i

pub take_bytes : (n : ℕ) (s : List ℕ) → Bytes s → Bytes (take n s)
take_bytes n s b = record { byte_lt = some n s b.byte_lt }

pub drop_bytes : (n : ℕ) (s : List ℕ) → Bytes s → Bytes (drop n s)
drop_bytes n s b = record { byte_lt = λ i. rw (get_or-drop n s i 0) (b.byte_lt (n + i)) }

same_lt : (n x : ℕ) → x < 256 → (i : ℕ) → get_or (replicate n x) i 0 < 256
same_lt zero x h i = omega arith
same_lt (suc n) x h zero = h
same_lt (suc n) x h (suc i) = same_lt n x h i

-- ---- the bytes of lines, put in their places
sets_bytes : (p : List ℕ) (at : ℕ) (s : List ℕ) → Bytes p → ((i : ℕ) → get_or s i 0 < 256) → Bytes (sets p at s)
sets_bytes p at [] b h = b
sets_bytes p at (x ∷ s) b h = sets_bytes _ (suc at) s (bytes_set p at x b (h 0)) (λ i. h (suc i))

data_lt : (l : List ℕ) (i : ℕ) → get_or (data_of l) i 0 < 256
data_lt l = some (count_of l) (drop 4 (record_of l)) (λ i. rw (get_or-drop 4 (record_of l) i 0) (byte_lt l (4 + i)))

filled_bytes : (ls : List (List ℕ)) (p : List ℕ) → Bytes p → Bytes (filled ls p)
unfolding filled
filled_bytes [] p b = b
filled_bytes (l ∷ ls) p b = filled_bytes ls _ (sets_bytes p (address_of l) (data_of l) b (data_lt l))

pub program_bytes : (t p : List ℕ) → Bytes p → Bytes (program_of t p)
program_bytes t p b =
    either Bytes (eqb (read_of t (length p)).refusal 0) (filled (lines_of t) (replicate (length p) 0xFF)) p
    (filled_bytes (lines_of t) (replicate (length p) 0xFF) (record { byte_lt = same_lt (length p) 0xFF (omega arith) })) b

pub zeros_bytes : (n : ℕ) → Bytes (replicate n 0)
zeros_bytes n = record { byte_lt = same_lt n 0 (omega arith) }
