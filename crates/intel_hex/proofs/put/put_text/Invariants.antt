-- The text of the bytes that are left, put where the page is, gives the whole.
use Rattle.std.proofs.Common.{◌≡◌, ◌+◌, ◌≤◌, length}
use Rattle.std.proofs.lemmas.List.Edits.{sets}
use Rattle.intel_hex.specs.Writing.{text_of}
use Rattle.intel_hex.proofs.Whole.{rest_of}
use Rattle.intel_hex.proofs.put.put_text.Given as goal

abbrev pub invariant-loop-bytes : goal.invariant-loop-bytes
invariant-loop-bytes l =
    let rest = l.bytes-iterator.rest.now in
    (l.bytes-iterator.size ≡ 16) × (l.address + length rest ≤ 65536)
    × (l.page.at + length (rest_of l.address rest) ≤ length l.page.out.now)
    × (sets l.fn.out 0 (text_of l.program) ≡ sets l.page.out.now l.page.at (rest_of l.address rest))
    × (l.page.out.ghost_name ≡ l.initial.page.out.ghost_name)
