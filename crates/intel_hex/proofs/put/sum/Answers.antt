use Rattle.std.proofs.Common.{rules, ◌≡◌, fold, ◌+◌, ◌%◌, ◌∙◌}
use Rattle.intel_hex.proofs.Pieces.{fold_sum}
use Rattle.intel_hex.proofs.put.sum.Goals as goal

pub returns : goal.returns
returns c = let e : c.fold.result ≡ fold (λ sum b. (sum + b) % 256) 0 c.args.bytes.now = search rules in e ∙ fold_sum c.args.bytes.now
