-- A tick's line is 36 bytes at most.
-- Assumes nothing.
use Prim.Native.Nat.{ℕ, ◌≤◌}
use native.Mathlib.Omega.{arith}
use lib.ListN.{length}
use Rattle.page.proofs.Short.{Short, ◌then◌, one, two, four, decimal_short}
use Rattle.cores.specs.declared.Core.{Core}
use Rattle.tick.specs.declared.Answer.{Answer}
use Rattle.tick.specs.declared.Answer.TheVariants.{Refused, Waited, Entered, Ran, Sleep, Watchdog, Undefined, Break, End}
use Rattle.tracing.specs.Trace.{word_of, core_of, line_of}

word_short : (a : Answer) → Short (word_of a) 9
word_short (Refused n) = record { bound = omega arith }
word_short Waited = record { bound = omega arith }
word_short Entered = record { bound = omega arith }
word_short Ran = record { bound = omega arith }
word_short Sleep = record { bound = omega arith }
word_short Watchdog = record { bound = omega arith }
word_short Undefined = record { bound = omega arith }
word_short Break = record { bound = omega arith }
word_short End = record { bound = omega arith }

core_short : (k : Core) → Short (core_of k) 14
core_short k =
    ◌then◌ (◌then◌ (◌then◌ (◌then◌ (◌then◌ (◌then◌ (four k.pc) (one 32)) (one _)) (one 32)) (two k.sreg)) (one 32)) (four k.sp)

pub line_short : (number before : ℕ) (answer : Answer) (k : Core) → length (line_of number before answer k) ≤ 36
line_short number before answer k =
    let start = ◌then◌ (◌then◌ (◌then◌ (◌then◌ (decimal_short number) (one 32)) (four before)) (one 32)) (word_short answer) in
    let line : Short (line_of number before answer k) 36 = ◌then◌ (◌then◌ (◌then◌ start (one 32)) (core_short k)) (one 10) in
    line.bound
