-- The words and what they say.
use Rattle.page.proofs.Gained.{◌then◌}
use Rattle.listing.proofs.line.put_row.Goals as goal

pub returns-in-Lone : goal.returns-in-Lone
returns-in-Lone c = rw c.in-Lone.is (c.put_hex2.ensures then c.put_text.ensures then c.put_hex2-in-Lone.ensures)

pub returns-in-Single : goal.returns-in-Single
returns-in-Single c =
    rw (c.in-Single.is, ← c.shown_of.ensures.name, ← c.shown_of.ensures.operands)
    (c.put_hex4.ensures then c.put_text-in-Single.ensures then c.put_shown.ensures)

pub returns-in-Double : goal.returns-in-Double
returns-in-Double c =
    rw (c.in-Double.is, ← c.shown_of-in-Double.ensures.name, ← c.shown_of-in-Double.ensures.operands)
    (c.put_hex4-in-Double.ensures then c.put_byte.ensures then c.put_hex4-in-Double-2.ensures then c.put_byte-in-Double.ensures
    then c.put_shown-in-Double.ensures)
