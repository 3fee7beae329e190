-- A refusal's word and its number.
use Rattle.page.proofs.Gained.{◌then◌}
use Rattle.tracing.proofs.line.put_word.Goals as goal

pub returns-in-Refused : goal.returns-in-Refused
returns-in-Refused c = rw c.in-Refused.is (c.put_text.ensures then c.put_byte.ensures)
