-- A word's two bytes.
use Rattle.std.proofs.Common.{◌≡◌, ◌/◌, ◌%◌, arith}
use Rattle.page.proofs.Gained.{◌then◌}
use Rattle.page.proofs.Page.put_hex4.Goals as goal

pub returns : goal.returns
returns c =
    let x = c.args.x in
    let high : x / 256 % 256 ≡ x / 256 = omega arith in
    (rw (c.to_be_bytes.ensures, high) at c.put_hex2.ensures) then (rw c.to_be_bytes.ensures at c.put_hex2-2.ensures)
