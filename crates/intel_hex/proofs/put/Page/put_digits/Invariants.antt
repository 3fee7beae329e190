-- The digits of the bytes so far are in their places.
use Rattle.std.proofs.Common.{◌≡◌, ◌+◌, ◌*◌, length, take}
use Rattle.std.proofs.lemmas.List.Edits.{sets}
use Rattle.intel_hex.specs.Writing.{digits_of}
use Rattle.intel_hex.proofs.put.Page.put_digits.Given as goal

abbrev pub invariant-loop-b : goal.invariant-loop-b
invariant-loop-b l =
    (l.self.at ≡ l.fn.self.at + l.b-index * 2) × (length l.self.out.now ≡ length l.fn.self.out.now)
    × (l.self.out.now ≡ sets l.fn.self.out.now l.fn.self.at (digits_of (take l.b-index l.bytes)))
    × (l.self.out.ghost_name ≡ l.fn.self.out.ghost_name)
