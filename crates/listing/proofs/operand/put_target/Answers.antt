-- The high byte, of which two digits are shown, and the low word.
use Rattle.std.proofs.Common.{◌≡◌, ℕ, ◌/◌, ◌%◌, arith}
use Rattle.page.specs.Gains.{Gains}
use Rattle.page.specs.declared.Page.{Page}
use Rattle.page.proofs.Gained.{◌then◌}
use Rattle.listing.specs.Listing.{byte_text}
use Rattle.listing.proofs.operand.put_target.Goals as goal

low_byte : (x : ℕ) {p q : Page} → Gains p (byte_text (x % 256)) q → Gains p (byte_text x) q
low_byte x g =
    let high : x % 256 / 16 % 16 ≡ x / 16 % 16 = omega arith in
    let low : x % 256 % 16 ≡ x % 16 = omega arith in
    rw (high, low) at g

pub returns : goal.returns
returns c = low_byte (c.args.k / 65536) c.put_byte_number.ensures then c.put_hex4.ensures
