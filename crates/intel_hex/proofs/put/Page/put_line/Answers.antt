-- Colon, head, bytes, sum and LF in their places.
use Rattle.std.proofs.Common.{◌≡◌, ◌/◌, ◌%◌, length, length-set, arith}
use lib.Seq.{length-sets}
use Rattle.intel_hex.proofs.Pieces.{put_all}
use Rattle.intel_hex.proofs.put.Page.put_line.Goals as goal

pub put_digits-requires-2 : goal.put_digits-requires-2
put_digits-requires-2 c =
    let put : length c.put.new.self.out.now ≡ length c.args.self.now.out.now = rw (c.put.ensures.out, length-set) in
    let head : length c.put_digits.new.self.out.now ≡ length c.put.new.self.out.now = rw (c.put_digits.ensures.out, length-sets) in
    omega (arith, c.requires.0, c.put.ensures.at, c.put_digits.ensures.at)

pub put_hex-requires : goal.put_hex-requires
put_hex-requires c =
    let put : length c.put.new.self.out.now ≡ length c.args.self.now.out.now = rw (c.put.ensures.out, length-set) in
    let head : length c.put_digits.new.self.out.now ≡ length c.put.new.self.out.now = rw (c.put_digits.ensures.out, length-sets) in
    let bytes : length c.put_digits-2.new.self.out.now ≡ length c.put_digits.new.self.out.now = rw (c.put_digits-2.ensures.out, length-sets) in
    omega (arith, c.requires.0, c.put.ensures.at, c.put_digits.ensures.at, c.put_digits-2.ensures.at)

pub put-requires-2 : goal.put-requires-2
put-requires-2 c =
    let put : length c.put.new.self.out.now ≡ length c.args.self.now.out.now = rw (c.put.ensures.out, length-set) in
    let head : length c.put_digits.new.self.out.now ≡ length c.put.new.self.out.now = rw (c.put_digits.ensures.out, length-sets) in
    let bytes : length c.put_digits-2.new.self.out.now ≡ length c.put_digits.new.self.out.now = rw (c.put_digits-2.ensures.out, length-sets) in
    let sum : length c.put_hex.new.self.out.now ≡ length c.put_digits-2.new.self.out.now = rw (c.put_hex.ensures.out, length-sets) in
    omega (arith, c.requires.0, c.put.ensures.at, c.put_digits.ensures.at, c.put_digits-2.ensures.at, c.put_hex.ensures.at)

pub returns-clause-out : goal.returns-clause-out
returns-clause-out c =
    let a = c.args in
    let high : a.address / 256 % 256 ≡ a.address / 256 = omega arith in
    let sum = rw (c.to_be_bytes.ensures, high) at c.sum_byte.ensures in
    rw (
      c.put-2.ensures.out,
      c.put_hex.ensures.at,
      c.put_hex.ensures.out,
      c.put_digits-2.ensures.at,
      c.put_digits-2.ensures.out,
      c.put_digits.ensures.at,
      c.put_digits.ensures.out,
      c.put.ensures.at,
      c.put.ensures.out,
      c.to_be_bytes.ensures,
      high,
    )
    (put_all a.self.now.out.now a.self.now.at a.kind a.address a.bytes.now c.sum_byte.result sum)
