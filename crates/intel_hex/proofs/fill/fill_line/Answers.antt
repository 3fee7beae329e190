-- A byte more of the line, in its place.
use Rattle.std.proofs.Common.{◌≡◌, ◌+◌, length-set, arith, ◌∙◌}
use Rattle.hex_line.specs.Line.{count_of, address_of}
use Rattle.hex_line.proofs.RecordBytes.{byte_is, count_is, address_is}
use Rattle.intel_hex.proofs.Filled.{fill_step, fill_done}
use Rattle.intel_hex.proofs.fill.fill_line.Goals as goal

pub bounds-program-at : goal.bounds-program-at
bounds-program-at c =
    let line = c.args.line.now in
    let n : c.count-j-end.result ≡ count_of line = c.count-j-end.ensures ∙ count_is line c.requires.digits in
    let a : c.address-at.result ≡ address_of line = c.address-at.ensures ∙ address_is line c.requires.digits in
    let inside = c.requires.inside (omega arith) in
    omega arith

pub loop-j-preserved : goal.loop-j-preserved
loop-j-preserved c =
    let line = c.args.line.now in
    let j = c.loop-j.j in
    let n : c.count-j-end.result ≡ count_of line = c.count-j-end.ensures ∙ count_is line c.requires.digits in
    let said = c.byte.ensures ∙ byte_is line c.requires.digits (j + 4) in
    let step = fill_step line c.requires c.args.program.now j c.byte.result (omega arith) said in
    (rw length-set c.loop-j.invariant.0, rw (c.loop-j.invariant.1, c.address-at.ensures, address_is line c.requires.digits) step)

pub returns : goal.returns
returns c =
    let line = c.args.line.now in
    let n : c.count-j-end.result ≡ count_of line = c.count-j-end.ensures ∙ count_is line c.requires.digits in
    rw (c.loop-j.invariant.1, c.address-at.ensures, address_is line c.requires.digits) (fill_done line c.requires c.args.program.now c.loop-j.j (omega arith))
