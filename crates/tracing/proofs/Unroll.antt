-- One turn of a trace that has printed n of its b lines: z and d are what the tick hands back and leaves in data.
-- Assumes nothing.
use mathlib.Core.Path.{◌≡◌}
use mathlib.Core.Bool.{true, false, ◌||◌}
use mathlib.Core.List.{List, [], ◌++◌, append-nil}
use Prim.Native.Nat.{ℕ, suc, ◌+◌, ◌-◌, ◌<◌, ◌≤◌}
use native.Mathlib.Nat.{sub-zero}
use native.Mathlib.Omega.{arith}
use lib.ListN.{replicate}
use Rattle.cores.specs.declared.Core.{Core}
use Rattle.cores.specs.State.{fresh_of}
use Rattle.tick.specs.Tick.{refuses, stops, tick_of, Ticks}
use Rattle.std.specs.Prelude.{None}
use Rattle.tick.specs.declared.Ticked.{Ticked}
use Rattle.tracing.specs.Trace.{line_of, lines_of, zeros, ticks_of}

-- the lines of a trace that is not begun
pub begun : (sp b : ℕ) (p : List ℕ) (k : Core) → k ≡ fresh_of sp → ticks_of sp b p ≡ lines_of (b - 0) 1 k p (replicate 16384 0)
unfolding zeros
begun sp b p k e = rw (e, sub-zero)

module _ (b n : ℕ) (k : Core) (p m : List ℕ) where
  pub spent : b ≤ n → lines_of (b - n) (n + 1) k p m ≡ []
  unfolding lines_of
  spent h = let z : b - n ≡ 0 = omega arith in rw z

  less_one : n < b → b - n ≡ suc (b - (n + 1))
  less_one h = omega arith

  module _ (z : Ticked) (d : List ℕ) (less : n < b) (t : Ticks (tick_of k p m None) z d) where
    pub ends : (refuses z.answer || stops z.answer) ≡ true → lines_of (b - n) (n + 1) k p m ≡ line_of (n + 1) k.pc z.answer z.core
    unfolding lines_of
    ends e = rw (less_one less, ← t.answer, e, append-nil, ← t.core)

    pub goes_on : (refuses z.answer || stops z.answer) ≡ false
        → lines_of (b - n) (n + 1) k p m ≡ line_of (n + 1) k.pc z.answer z.core ++ lines_of (b - (n + 1)) (n + 1 + 1) z.core p d
    unfolding lines_of
    goes_on e = rw (less_one less, ← t.answer, e, ← t.core, ← t.bytes)
