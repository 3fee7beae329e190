-- `sum` and the bytes that are left add up to the whole, modulo 256.
use Rattle.std.proofs.Common.{◌≡◌, true, ◌+◌, ◌%◌}
use Rattle.hex_line.specs.Line.{all_digits, said, sum_of, record_of}
use Rattle.hex_line.proofs.faults.Record.wrong_sum.Given as goal

abbrev pub invariant-loop-two : goal.invariant-loop-two
invariant-loop-two l =
    (sum_of (record_of l.self.line.now) % 256 ≡ (l.sum + sum_of (said l.two-iterator.rest.now)) % 256)
    × (all_digits l.two-iterator.rest.now ≡ true) × (l.two-iterator.size ≡ 2)
