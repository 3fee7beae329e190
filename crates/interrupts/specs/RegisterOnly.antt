-- The kinds of instruction that demand 3 tells apart: 01's register-only list, the one that ends a handler, and the others.
use Rattle.std.specs.Prelude.{Bool, true, false, [], ◌∷◌}
use Rattle.basis.specs.Pick.{pick}
use Rattle.instruction.specs.declared.Instruction.{Instruction}
use Rattle.instruction.specs.declared.Instruction.TheVariants.{RETI}
use Rattle.instruction.specs.Code.{one_of, is_register_only}

pub data Kind : Type 0 where
  register_only : Kind
  return : Kind
  other : Kind

abbrev pub kind_of : Instruction → Kind
kind_of i = pick (is_register_only i) register_only (pick (one_of (RETI ∷ []) i) return other)

abbrev pub is_return : Kind → Bool
is_return register_only = false
is_return return = true
is_return other = false
