-- A word decoded by a table of forms. w is a word, s the second word, t a table.
use Rattle.std.specs.Prelude.{List, ℕ}
use Rattle.instruction.specs.declared.Instruction.{Instruction}
use Rattle.forms.specs.Forms.{form_by}
use Rattle.forms.specs.Instructions.{instruction_of}

-- what a word is by any table
abbrev pub decoded_by : List ℕ → ℕ → ℕ → Instruction
decoded_by t w s = instruction_of (form_by t w) w s
