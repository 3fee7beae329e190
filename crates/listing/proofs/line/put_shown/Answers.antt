-- The name and its operands.
use Rattle.page.proofs.Gained.{◌then◌}
use Rattle.listing.proofs.line.put_shown.Goals as goal

pub returns-in-One : goal.returns-in-One
returns-in-One c = rw c.in-One.is (c.put_text-in-One.ensures then (c.put_byte.ensures then c.put_operand.ensures))

pub returns-in-Two : goal.returns-in-Two
returns-in-Two c =
    rw c.in-Two.is (c.put_text-in-Two.ensures
    then (c.put_byte-in-Two.ensures then c.put_operand-in-Two.ensures then c.put_text-in-Two-2.ensures then c.put_operand-in-Two-2.ensures))
