-- Two digits, the high one first.
use Rattle.intel_hex.proofs.Pieces.{digits_one}
use Rattle.intel_hex.proofs.put.Page.put_hex.Goals as goal

pub returns-clause-out : goal.returns-clause-out
returns-clause-out c =
    let page = c.args.self.now in
    rw (c.put-2.ensures.out, c.hex_digit-2.ensures, c.put.ensures.at, c.put.ensures.out, c.hex_digit.ensures) (digits_one page.out.now page.at c.args.b)
