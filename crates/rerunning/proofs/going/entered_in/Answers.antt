-- As many as come before the first 0.
use Rattle.std.proofs.Common.{ap, ◌∙◌, length}
use Rattle.rerunning.proofs.Entries.{counted, entered_first}
use Rattle.rerunning.proofs.going.entered_in.Goals as goal

pub returns : goal.returns
returns c = let e = c.args.numbers.now in entered_first e _ (c.count_entered.ensures ∙ ap length (counted e))
