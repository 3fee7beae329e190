-- The words of an instruction: where the second is there, so is the first.
-- Assumes nothing.
use mathlib.Core.Path.{◌≡◌}
use mathlib.Core.Bool.{Bool, true}
use mathlib.Core.List.{List}
use Prim.Native.Nat.{ℕ, ◌+◌, ◌*◌}
use native.Mathlib.Omega.{arith}
use borrow.Author.Tests.{lt-ltb, ltb-true}
use lib.ListN.{length}
use Rattle.basis.specs.Pick.{pick}
use Rattle.instruction.specs.Code.{two_words}
use Rattle.instruction.specs.declared.Instruction.{Instruction}
use Rattle.memory.specs.Memory.{has_word_of}
use Rattle.execute.specs.Needs.{fetched}

either_way : (t : Bool) → true ≡ pick t true true
either_way t = grind arith

pub both_words : (p : List ℕ) (pc : ℕ) (i : Instruction) → has_word_of p (pc + 1) ≡ true → true ≡ fetched p pc i
unfolding has_word_of
both_words p pc i h = rw (h, lt-ltb (pc * 2 + 1) (length p) (omega (arith, ltb-true ((pc + 1) * 2 + 1) (length p) h))) (either_way (two_words i))
