-- What is known of all that `rerun` writes: its buffers cut nothing off, it reads the parts that are joined to an input, and a run in steps is the run.
-- s is an input, d and o are a buffer before and after, z is the state of a run, t the text of a HEX file, l the text of a schedule, b and c are budgets, x is what a run gives.
use Rattle.std.specs.Prelude.{◌≡◌, List, ◌∷◌, ◌++◌, ℕ, ◌*◌, ◌≤◌, ◌<◌, take, length}
use Rattle.basis.specs.Bytes.{Bytes}
use Rattle.page.specs.Page.{Prints}
use Rattle.intel_hex.specs.Reading as hex
use Rattle.schedule_text.specs.Reading.{read_of, bytes_of}
use Rattle.rerunning.specs.Rerun.{four, State, many_of, state_of, image_of, after_of, next_of, told_of, rerun_of}

-- the theorem, proved in proofs/Whole.antt: a buffer of 655,408 bytes takes the whole output for every input
abbrev pub WholeRerun : Type 0
WholeRerun = (s d o : List ℕ) (n : ℕ) → Bytes s → 655408 ≤ length d → Prints (rerun_of s) d n o → take n o ≡ rerun_of s

-- the theorem, proved in proofs/Cut.antt: the program reads at most 2,424,894 bytes, and writes what the whole input says
abbrev pub CutRerun : Type 0
CutRerun = (s : List ℕ) → rerun_of (take 2424894 s) ≡ rerun_of s

-- ---- an input as a wrapper joins it: the head, the state, the texts
abbrev pub input_of : ℕ → State → List ℕ → List ℕ → List ℕ
input_of b z t l = four (length t) ++ four (length l) ++ four (length z.bytes) ++ four b ++ state_of z ++ t ++ l

-- within the limits of docs/RERUN.md, and its numbers of 32 bits
pub record Limits (z : State) (t l : List ℕ) : Type 0 where
  pub hex : length t ≤ 1048576
  pub schedule : length l ≤ 1048576
  pub size : length z.bytes ≤ 65536
  pub core : length z.core ≡ 38
  pub whole : length z.entered ≡ 4 * many_of z
  pub many : many_of z ≤ 65536
  pub done : z.done < 4294967296

-- the theorem, proved in proofs/Joined.antt: what is written for it is what the state and the texts say
abbrev pub JoinedInput : Type 0
JoinedInput = (b : ℕ) (z : State) (t l : List ℕ) → b < 4294967296 → Limits z t l → rerun_of (input_of b z t l) ≡ told_of b z t l

-- ---- a run in steps: neither text is refused, and a step from z ended at its budget, b
pub record Step (b : ℕ) (z : State) (t l : List ℕ) : Type 0 where
  pub limits : Limits z t l
  pub core_bytes : Bytes z.core
  pub data_bytes : Bytes z.bytes
  pub image : (hex.read_of t 49152).refusal ≡ 0
  pub list : (read_of l 65536).fault ≡ 0
  pub spent : (after_of b z (image_of t) (bytes_of (read_of l 65536).records)).run.answer ≡ 24

-- the theorem, proved in proofs/Steps.antt: it writes 0, 24, the next state and the list; and with that state handed back, and any larger budget, what one run from z writes is written
abbrev pub RerunInSteps : Type 0
RerunInSteps =
    (b c : ℕ) (z : State) (t l : List ℕ) → b ≤ c → c < 4294967296 → Step b z t l
    → let r = bytes_of (read_of l 65536).records in
    let next = next_of z (after_of b z (image_of t) r) in
    (rerun_of (input_of b z t l) ≡ 0 ∷ 24 ∷ (state_of next ++ r)) × (rerun_of (input_of c next t l) ≡ rerun_of (input_of c z t l))
