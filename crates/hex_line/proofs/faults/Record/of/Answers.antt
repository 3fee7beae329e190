-- A line whose characters belong is all digits behind the colon.
use Rattle.std.proofs.Common.{sym, ◌∙◌}
use Rattle.hex_line.proofs.Judged.{colon_digits}
use Rattle.hex_line.proofs.faults.Record.of.Goals as goal

pub invariant_of-result : goal.invariant_of-result
invariant_of-result c = record { digits = colon_digits c.args.line.now (sym c.wrong_character.ensures ∙ c.if-wrong_character.false) }
