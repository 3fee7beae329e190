-- What stands behind the longest input changes nothing. s is the input, cut behind n bytes.
-- Assumes nothing.
use mathlib.Core.Path.{◌≡◌, refl, sym, ap, ◌∙◌}
use mathlib.Core.Bool.{Bool, true, false, ◌||◌}
use mathlib.Core.List.{List, ◌++◌}
use Prim.Native.Nat.{ℕ, ◌+◌, ◌*◌, ◌≤◌, ◌<◌}
use native.Mathlib.Omega.{arith}
use borrow.Author.Tests.{ltb-true, ltb-false, le-ltb}
use lib.Dec.{ltb}
use lib.ListN.{length, take, drop, take-append-drop, length-drop}
use lib.Seq.{length-take-le, take_all, take-append-le, drop-append-le, get_or-take}
use Rattle.basis.specs.Pick.{pick}
use Rattle.basis.proofs.Choice.{test}
use Rattle.rerunning.specs.Rerun.{number_in, job_of, part, told_of, written_of, rerun_of}
use Rattle.rerunning.specs.declared.job.Job.{Job}
use Rattle.std.specs.Prelude.{Option, Some, None}
use Rattle.rerunning.specs.Laws.{CutRerun}
use Rattle.rerunning.proofs.Within.{taken, job, Within, job_within}

module _ (s : List ℕ) (n : ℕ) where
  number_cut : (at : ℕ) → at + 3 < n → number_in (take n s) at ≡ number_in s at
  number_cut at h =
      let l : at < n = omega arith in
      let l1 : at + 1 < n = omega arith in
      let l2 : at + 2 < n = omega arith in
      rw (get_or-take n s at 0 l, get_or-take n s (at + 1) 0 l1, get_or-take n s (at + 2) 0 l2, get_or-take n s (at + 3) 0 h)

  -- a part that ends before the cut
  part_cut : n ≤ length s → (at size : ℕ) → at + size ≤ n → part (take n s) at size ≡ part s at size
  part_cut l at size h =
      let c = take n s in
      let e : length c ≡ n = length-take-le n s l in
      let back : drop at s ≡ drop at c ++ drop n s = sym (ap (drop at) (take-append-drop n s)) ∙ drop-append-le at c (drop n s) (omega arith) in
      rw back (sym (take-append-le size (drop at c) (drop n s) (rw (length-drop at c) (omega arith))))

-- no job asks for more than 2,424,894 bytes: n are there, or m
asks_less : (hex schedule size budget done entered n m : ℕ) (a b c d : Bool) → ltb 1048576 hex ≡ a → ltb 1048576 schedule ≡ b → ltb 65536 size ≡ c → ltb 65536 entered ≡ d → 2424894 ≤ n → 2424894 ≤ m
    → let asked = 62 + 4 * entered + size + hex + schedule in
    let job = taken hex schedule size budget done entered in
    pick (a || b || c || d) None (pick (ltb n asked) None job) ≡ pick (a || b || c || d) None (pick (ltb m asked) None job)
asks_less hex schedule size budget done entered n m true b c d f g h i u v = refl
asks_less hex schedule size budget done entered n m false true c d f g h i u v = refl
asks_less hex schedule size budget done entered n m false false true d f g h i u v = refl
asks_less hex schedule size budget done entered n m false false false true f g h i u v = refl
asks_less hex schedule size budget done entered n m false false false false f g h i u v =
    let asked = 62 + 4 * entered + size + hex + schedule in
    let few : asked ≤ 2424894 = omega (arith, ltb-false 1048576 hex f, ltb-false 1048576 schedule g, ltb-false 65536 size h, ltb-false 65536 entered i) in
    rw (le-ltb n asked (omega (arith, few, u)), le-ltb m asked (omega (arith, few, v)))

module _ (s : List ℕ) (n : ℕ) (h : 2424894 ≤ n) (l : n ≤ length s) where
  job_cut : job_of (take n s) ≡ job_of s
  job_cut =
      let hex = number_in s 0 in
      let schedule = number_in s 4 in
      let size = number_in s 8 in
      let entered = number_in s 20 in
      let c = take n s in
      ap (λ (x : ℕ). job (length c) x (number_in c 4) (number_in c 8) (number_in c 12) (number_in c 16) (number_in c 20)) (number_cut s n 0 (omega (arith, h)))
      ∙ ap (λ (x : ℕ). job (length c) hex x (number_in c 8) (number_in c 12) (number_in c 16) (number_in c 20)) (number_cut s n 4 (omega (arith, h)))
      ∙ ap (λ (x : ℕ). job (length c) hex schedule x (number_in c 12) (number_in c 16) (number_in c 20)) (number_cut s n 8 (omega (arith, h)))
      ∙ ap (λ (x : ℕ). job (length c) hex schedule size x (number_in c 16) (number_in c 20)) (number_cut s n 12 (omega (arith, h)))
      ∙ ap (λ (x : ℕ). job (length c) hex schedule size (number_in s 12) x (number_in c 20)) (number_cut s n 16 (omega (arith, h)))
      ∙ ap (λ (x : ℕ). job (length c) hex schedule size (number_in s 12) (number_in s 16) x) (number_cut s n 20 (omega (arith, h)))
      ∙ ap (λ (x : ℕ). job x hex schedule size (number_in s 12) (number_in s 16) entered) (length-take-le n s l)
      ∙ asks_less hex schedule size (number_in s 12) (number_in s 16) entered n (length s) (ltb 1048576 hex) (ltb 1048576 schedule) (ltb 65536 size) (ltb 65536 entered) refl refl refl refl h (omega (arith, h, l))

  written_cut : (j : Option Job) → Within (length s) j → written_of j (take n s) ≡ written_of j s
  written_cut None w = refl
  written_cut (Some j) w =
      let hex = j.hex in
      let schedule = j.schedule in
      let size = j.size in
      let budget = j.budget in
      let done = j.done in
      let entered = j.entered in
      let hex_le = w.hex_le in
      let schedule_le = w.schedule_le in
      let size_le = w.size_le in
      let entered_le = w.entered_le in
      let at = 62 + 4 * entered in
      let told : List ℕ → List ℕ → List ℕ → List ℕ → List ℕ → List ℕ = λ k e m t r. told_of budget (record { done = done; core = k; entered = e; bytes = m }) t r in
      let c = take n s in
      let cut : (from size : ℕ) → from + size ≤ n → part c from size ≡ part s from size = part_cut s n l in
      ap (λ (x : List ℕ). told x (part c 62 (4 * entered)) (part c at size) (part c (at + size) hex) (part c (at + size + hex) schedule)) (cut 24 38 (omega arith))
      ∙ ap (λ (x : List ℕ). told (part s 24 38) x (part c at size) (part c (at + size) hex) (part c (at + size + hex) schedule)) (cut 62 (4 * entered) (omega arith))
      ∙ ap (λ (x : List ℕ). told (part s 24 38) (part s 62 (4 * entered)) x (part c (at + size) hex) (part c (at + size + hex) schedule)) (cut at size (omega arith))
      ∙ ap (λ (x : List ℕ). told (part s 24 38) (part s 62 (4 * entered)) (part s at size) x (part c (at + size + hex) schedule)) (cut (at + size) hex (omega arith))
      ∙ ap (told (part s 24 38) (part s 62 (4 * entered)) (part s at size) (part s (at + size) hex)) (cut (at + size + hex) schedule (omega arith))

  longer : rerun_of (take n s) ≡ rerun_of s
  longer = ap (λ (j : Option Job). written_of j (take n s)) job_cut ∙ written_cut (job_of s) (job_within s)

pub cut_rerun : CutRerun
cut_rerun s =
    test (ltb 2424894 (length s)) (λ e. longer s 2424894 (omega arith) (omega (arith, ltb-true 2424894 (length s) e)))
    λ e. ap rerun_of (take_all 2424894 s (ltb-false 2424894 (length s) e))
