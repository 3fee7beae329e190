-- Five bytes in the place of five.
use Rattle.std.proofs.Common.{◌≡◌, ◌+◌, ◌*◌, ◌-◌, ◌/◌, ◌%◌, ◌≤◌, length, take, drop, append_assoc, arith, sym, ◌∙◌}
use lib.Seq.{sets-eq, drop-drop}
use Rattle.schedule_text.specs.Reading.{five_of}
use Rattle.schedule_text.proofs.put_record.Goals as goal

pub returns : goal.returns
returns c =
    let at = 5 * c.args.i in
    let list = c.args.list.now in
    let firing = c.args.firing in
    let five = five_of (record { tick = firing.tick; vector = firing.vector }) in
    let inside : at + 5 ≤ length list = omega (arith, c.requires.0) in
    let many : at + 5 - at ≡ 5 = omega arith in
    let high : firing.tick / 65536 % 256 ≡ firing.tick / 65536 = omega (arith, c.requires.1) in
    let above : firing.vector / 256 % 256 ≡ firing.vector / 256 = omega (arith, c.requires.2) in
    sym (
    sets-eq five list at inside ∙ append_assoc (take at list) five (drop (at + 5) list)
    ∙ rw (c.copy_from_slice.ensures.after, c.to_be_bytes.ensures, c.to_be_bytes-2.ensures, many, high, above, drop-drop 5 at list)
    )
