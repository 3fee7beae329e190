-- `forms`: the constant is the table. The test of its 4,096 entries, each over its sixteen words, is computed here.
-- Assumes nothing.
use Rattle.form_table.specs.Rule.{table_of}
use Rattle.form_table.proofs.Tested.{right, entries}
use Rattle.form_table.proofs.forms.Statement.{statement}
use Rattle.form_table.proofs.forms.Tie as tie

pub forms_spec : {M : Type 1} → statement M
unfolding table_of right
forms_spec = tie.close (tie.spec (λ c. entries 0 4096 _ tt))
