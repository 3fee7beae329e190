-- What a job is within: its numbers, and the input of n bytes.
-- Assumes nothing.
use mathlib.Core.Path.{◌≡◌, refl}
use mathlib.Core.Bool.{Bool, true, false, ◌||◌}
use mathlib.Core.List.{List}
use Prim.Native.Nat.{ℕ, ◌+◌, ◌*◌, ◌≤◌}
use lib.Dec.{ltb}
use lib.ListN.{length}
use borrow.Author.Tests.{ltb-false}
use Rattle.basis.specs.Pick.{pick}
use Rattle.rerunning.specs.Rerun.{number_in, job_of}
use Rattle.rerunning.specs.declared.job.Job.{Job}
use Rattle.std.specs.Prelude.{Option, Some, None}

-- a job by its numbers, and that of n bytes
abbrev pub taken : ℕ → ℕ → ℕ → ℕ → ℕ → ℕ → Option Job
taken hex schedule size budget done entered = Some (record { hex = hex; schedule = schedule; size = size; budget = budget; done = done; entered = entered })

abbrev pub job : ℕ → ℕ → ℕ → ℕ → ℕ → ℕ → ℕ → Option Job
job n hex schedule size budget done entered =
    pick (ltb 1048576 hex || ltb 1048576 schedule || ltb 65536 size || ltb 65536 entered) None
    (pick (ltb n (62 + 4 * entered + size + hex + schedule)) None (taken hex schedule size budget done entered))

pub record Sized (hex schedule size entered n : ℕ) : Type 0 where
  pub hex_le : hex ≤ 1048576
  pub schedule_le : schedule ≤ 1048576
  pub size_le : size ≤ 65536
  pub entered_le : entered ≤ 65536
  pub inside : 62 + 4 * entered + size + hex + schedule ≤ n

abbrev pub Within : ℕ → Option Job → Type 0
Within n None = Unit {0}
Within n (Some j) = Sized j.hex j.schedule j.size j.entered n

module _ (hex schedule size budget done entered n : ℕ) where
  by_tests : (a b c d e : Bool) → ltb 1048576 hex ≡ a → ltb 1048576 schedule ≡ b → ltb 65536 size ≡ c → ltb 65536 entered ≡ d → ltb n (62 + 4 * entered + size + hex + schedule) ≡ e
      → Within n (pick (a || b || c || d) None (pick e None (taken hex schedule size budget done entered)))
  by_tests true b c d e f g h i j = tt
  by_tests false true c d e f g h i j = tt
  by_tests false false true d e f g h i j = tt
  by_tests false false false true e f g h i j = tt
  by_tests false false false false true f g h i j = tt
  by_tests false false false false false f g h i j =
      record {
        hex_le = ltb-false 1048576 hex f;
        schedule_le = ltb-false 1048576 schedule g;
        size_le = ltb-false 65536 size h;
        entered_le = ltb-false 65536 entered i;
        inside = ltb-false n (62 + 4 * entered + size + hex + schedule) j;
      }

pub job_within : (s : List ℕ) → Within (length s) (job_of s)
job_within s =
    let hex = number_in s 0 in
    let schedule = number_in s 4 in
    let size = number_in s 8 in
    let entered = number_in s 20 in
    by_tests hex schedule size (number_in s 12) (number_in s 16) entered (length s) (ltb 1048576 hex) (ltb 1048576 schedule) (ltb 65536 size) (ltb 65536 entered)
    (ltb (length s) (62 + 4 * entered + size + hex + schedule)) refl refl refl refl refl
