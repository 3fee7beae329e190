-- What of the text was put.
use Rattle.std.proofs.Common.{take}
use Rattle.page.specs.Gains.{Gains}
use Rattle.page.proofs.Page.put_text.Given as goal

abbrev pub invariant-loop-b : goal.invariant-loop-b
invariant-loop-b l = Gains l.initial.self (take l.b-index l.text) l.self
