-- The parts of the input.
use Rattle.std.proofs.Common.{List, ℕ, subst}
use Rattle.page.specs.Gains.{Gains}
use Rattle.rerunning.specs.Rerun.{part, told_of}
use Rattle.rerunning.proofs.Parts.{same_parts}
use Rattle.rerunning.proofs.put_rerun.Goals as goal

pub returns : goal.returns
returns c =
    let s = c.args.input.now in
    let j = c.in-Some.job in
    let same = same_parts (λ (entered bytes t l : List ℕ). told_of j.budget (record { done = j.done; core = part s 24 38; entered = entered; bytes = bytes }) t l)
    s j.hex j.schedule j.size j.entered in
    rw (← c.job_of.ensures, c.in-Some.is) (subst (λ (t : List ℕ). Gains c.args.page.now t c.put_told.new.page) same c.put_told.ensures)
