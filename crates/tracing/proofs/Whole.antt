-- A buffer for 65,535 lines of 36 bytes takes the whole of every trace.
-- Assumes nothing.
use mathlib.Core.Bool.{Bool, true, false, ◌||◌}
use mathlib.Core.List.{List, [], ◌++◌}
use Prim.Native.Nat.{ℕ, zero, suc, ◌+◌, ◌*◌, ◌≤◌}
use native.Mathlib.Omega.{arith}
use lib.Dec.{ltb}
use lib.ListN.{length, take, drop, length-append}
use Rattle.basis.specs.Pick.{pick}
use Rattle.basis.specs.Bytes.{Bytes}
use Rattle.cores.specs.declared.Core.{Core}
use Rattle.cores.specs.State.{fresh_of}
use Rattle.tick.specs.Tick.{refuses, stops, tick_of}
use Rattle.std.specs.Prelude.{Some, None}
use Rattle.page.proofs.Laid.{in_front}
use Rattle.tracing.specs.Trace.{word_in, line_of, lines_of, zeros, text_of, trace_of, WholeTrace}
use Rattle.tracing.proofs.Short.{line_short}

more : (stop : Bool) (line rest : List ℕ) (b : ℕ) → length line ≤ 36 → length rest ≤ b * 36
    → length (line ++ pick stop [] rest) ≤ suc b * 36
more true line rest b h g = rw length-append (omega arith)
more false line rest b h g = rw length-append (omega arith)

lines_short : (b number : ℕ) (k : Core) (p m : List ℕ) → length (lines_of b number k p m) ≤ b * 36
unfolding lines_of
lines_short zero number k p m = omega arith
lines_short (suc b) number k p m =
    let t = tick_of k p m None in
    more (refuses t.answer || stops t.answer) (line_of number k.pc t.answer t.core) (lines_of b (number + 1) t.core p t.bytes) b
    (line_short number k.pc t.answer t.core) (lines_short b (number + 1) t.core p t.bytes)

job_short : (t u : Bool) (size sp budget : ℕ) (s : List ℕ) → budget ≤ 65535
    → length (text_of (pick t None (pick u None (Some (record { size = size; sp = sp; budget = budget })))) s) ≤ 65535 * 36
job_short true u size sp budget s h = omega arith
job_short false true size sp budget s h = omega arith
job_short false false size sp budget s h = omega (arith, lines_short budget 1 (fresh_of sp) (take size (drop 6 s)) zeros)

trace_short : (s : List ℕ) → Bytes s → length (trace_of s) ≤ 65535 * 36
trace_short s b =
    let word : word_in s 4 ≤ 65535 = omega (arith, b.byte_lt 4, b.byte_lt 5) in
    job_short (ltb 49152 (word_in s 0)) (ltb (length s) (word_in s 0 + 6)) (word_in s 0) (word_in s 2) (word_in s 4) s word

pub whole_trace : WholeTrace
whole_trace s d o n b h p = let short = trace_short s b in in_front (trace_of s) d o n (omega arith) p
