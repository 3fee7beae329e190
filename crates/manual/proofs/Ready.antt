-- A core that is about to execute, and the core whose PC is behind the opcode.
-- Assumes nothing.
use mathlib.Core.Path.{◌≡◌, ◌∙◌}
use mathlib.Core.Bool.{false}
use Prim.Native.Nat.{ℕ, ◌+◌, ◌%◌, ◌-◌, ◌<◌}
use native.Mathlib.Omega.{arith}
use Rattle.cores.specs.declared.Core.{Core}
use Rattle.cores.specs.State.{Sound, with_busy, with_pc}
use Rattle.cores.specs.Flow.{over_second}
use Rattle.manual.specs.Notation.{next}

pub record Ready (k : Core) : Type 0 where
  pub sound : Sound k
  pub idle : k.busy ≡ 0
  pub room : k.pc < 65535
  pub uninhibited : k.inhibit ≡ false

abbrev pub on : Core → Core
on k = with_pc k (k.pc + 1)

-- one word, in c cycles
pub next_busy : (k : Core) → Ready k → (c : ℕ) → next k 1 c ≡ with_busy (on k) (c - 1)
unfolding next with_busy with_pc
next_busy k w c = let p = w.room in let e : (k.pc + 1) % 65536 ≡ k.pc + 1 = omega arith in rw e

-- no wait is what it had
pub idles : (k : Core) → Ready k → with_busy (on k) 0 ≡ on k
unfolding with_busy with_pc
idles k w = rw w.idle

-- in one cycle
pub next_one : (k : Core) → Ready k → next k 1 1 ≡ on k
next_one k w = next_busy k w 1 ∙ idles k w

-- two words
pub next_second : (k : Core) (c : ℕ) → next k 2 c ≡ over_second (with_busy (on k) (c - 1))
unfolding next with_busy with_pc
next_second k c = let e : (k.pc + 2) % 65536 ≡ (k.pc + 1 + 1) % 65536 = omega arith in rw e
