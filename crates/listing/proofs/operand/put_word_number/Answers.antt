-- 0x and four digits.
use Rattle.page.proofs.Gained.{◌then◌}
use Rattle.listing.proofs.operand.put_word_number.Goals as goal

pub returns : goal.returns
returns c = c.put_text.ensures then c.put_hex4.ensures
