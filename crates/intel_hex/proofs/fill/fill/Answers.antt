-- A line more; one that fits ends where its count says.
use Rattle.std.proofs.Common.{◌≡◌, ◌+◌, ◌*◌, ◌-◌, length, drop, replicate, length-drop, arith, rules, sym, ap, ◌∙◌}
use lib.Seq.{take_all, length-sets}
use Rattle.hex_line.specs.Line.{lines_of, address_of, data_of}
use Rattle.hex_line.specs.Way.{end_length}
use Rattle.intel_hex.proofs.Checked.{all_fit, by_count}
use Rattle.intel_hex.proofs.Filled.{filled_line, filled_end}
use Rattle.intel_hex.proofs.fill.fill.Goals as goal

pub loop-rest-init : goal.loop-rest-init
loop-rest-init c =
    let size = length c.args.program.now in
    let blank : c.fill.new.self ≡ replicate size 255 = search rules in
    (c.fill.ensures.len, all_fit size (lines_of c.args.text.now) 1 0 c.requires, rw blank)

pub split_at-requires : goal.split_at-requires
split_at-requires c = (by_count c.loop-rest.rest.now c.count.result (search rules) c.loop-rest.invariant.1 c.count.ensures).inside

pub fill_line-requires : goal.fill_line-requires
fill_line-requires c =
    let line = by_count c.loop-rest.rest.now c.count.result (search rules) c.loop-rest.invariant.1 c.count.ensures in
    rw (c.split_at.ensures.front, c.loop-rest.invariant.0) line.fits

pub loop-rest-preserved : goal.loop-rest-preserved
loop-rest-preserved c =
    let t = c.loop-rest.rest.now in
    let stop = c.count.result * 2 + 11 in
    let line = by_count t c.count.result (search rules) c.loop-rest.invariant.1 c.count.ensures in
    let behind = c.split_at.result.1.now in
    let end : c.end_length.result ≡ end_length (drop stop t) = c.end_length.ensures ∙ ap end_length c.split_at.ensures.back in
    let all = take_all (length behind - c.end_length.result) (drop c.end_length.result behind) (omega (arith, length-drop c.end_length.result behind)) in
    let w = c.fill_line.ensures in
    let first = c.split_at.result.0.now in
    let kept : length c.fill_line.new.program ≡ length c.loop-rest.program = rw w (length-sets c.loop-rest.program (address_of first) (data_of first)) in
    (kept ∙ c.loop-rest.invariant.0, rw (all, c.split_at.ensures.back, end) line.rest, rw (all, c.split_at.ensures.back, end, c.loop-rest.invariant.2, line.lines, filled_line, w, c.split_at.ensures.front))

pub returns : goal.returns
returns c = sym (c.loop-rest.invariant.2 ∙ filled_end c.loop-rest.rest.now c.loop-rest.program (search rules))
