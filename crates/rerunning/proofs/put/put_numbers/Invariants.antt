-- The numbers that were put.
use Rattle.std.proofs.Common.{take}
use Rattle.page.specs.Gains.{Gains}
use Rattle.rerunning.specs.Rerun.{fours}
use Rattle.rerunning.proofs.put.put_numbers.Given as goal

abbrev pub invariant-loop-n : goal.invariant-loop-n
invariant-loop-n l = Gains l.initial.page (fours (take l.n-index l.numbers)) l.page
