-- `instruction_of`: past every form the table has no instruction.
use Rattle.std.proofs.Common.{rules}
use Rattle.instruction.proofs.Cases.{missed}
use Rattle.forms.specs.Instructions.{by_form, instructions, instruction_of}
use Rattle.table_decode.proofs.instruction_of.Goals as goal

pub returns-in_default : goal.returns-in_default
unfolding instruction_of
returns-in_default c = missed c.args.form (by_form (instructions c.args.w c.args.prefetch)) (search rules)
