-- The blanks from `n` on end where those of the text do.
use Rattle.std.proofs.Common.{◌≡◌, ◌+◌, drop}
use Rattle.schedule_text.specs.Reading.{blanks}
use Rattle.schedule_text.proofs.line.past_blanks.Given as goal

abbrev pub invariant-loop-n : goal.invariant-loop-n
invariant-loop-n l = blanks l.text ≡ l.n + blanks (drop l.n l.text)
