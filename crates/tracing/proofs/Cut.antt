-- What stands behind the longest program changes no trace.
-- Assumes nothing.
use mathlib.Core.Path.{◌≡◌, sym, ap, ◌∙◌}
use mathlib.Core.List.{List, ◌++◌}
use Prim.Native.Nat.{ℕ, ◌+◌, ◌≤◌, ◌<◌}
use native.Mathlib.Omega.{arith}
use borrow.Author.Tests.{ltb-true, ltb-false, le-ltb}
use lib.Dec.{ltb}
use lib.ListN.{length, take, drop, take-append-drop, length-drop}
use lib.Seq.{length-take-le, take_all, take-append-le, drop-append-le, get_or-take}
use Rattle.basis.proofs.Choice.{test}
use Rattle.tracing.specs.Trace.{word_in, ticks_of, trace_of, CutTrace}

module _ (s : List ℕ) (n : ℕ) where
  word_cut : (at : ℕ) → at + 1 < n → word_in (take n s) at ≡ word_in s at
  word_cut at h = let l : at < n = omega arith in rw (get_or-take n s at 0 l, get_or-take n s (at + 1) 0 h)

  -- a program that ends before the cut
  program_cut : (size : ℕ) → n ≤ length s → size + 6 ≤ n → take size (drop 6 (take n s)) ≡ take size (drop 6 s)
  program_cut size l h =
      let c = take n s in
      let e : length c ≡ n = length-take-le n s l in
      let back : drop 6 s ≡ drop 6 c ++ drop n s = sym (ap (drop 6) (take-append-drop n s)) ∙ drop-append-le 6 c (drop n s) (omega arith) in
      rw back (sym (take-append-le size (drop 6 c) (drop n s) (rw (length-drop 6 c) (omega arith))))

-- the input is longer than the cut
longer : (s : List ℕ) → 49158 < length s → trace_of (take 49158 s) ≡ trace_of s
longer s h =
    let size = word_in s 0 in
    let whole : 49158 ≤ length s = omega arith in
    rw (word_cut s 49158 0 (omega arith), word_cut s 49158 2 (omega arith), word_cut s 49158 4 (omega arith), length-take-le 49158 s whole)
    (test (ltb 49152 size) (λ e. rw e)
    λ e.
    let fits = ltb-false 49152 size e in
    rw (e, le-ltb 49158 (size + 6) (omega arith), le-ltb (length s) (size + 6) (omega arith)) (ap (ticks_of (word_in s 2) (word_in s 4)) (program_cut s 49158 size whole (omega arith))))

pub cut_trace : CutTrace
cut_trace s =
    test (ltb 49158 (length s)) (λ e. longer s (ltb-true 49158 (length s) e))
    λ e. ap trace_of (take_all 49158 s (ltb-false 49158 (length s) e))
