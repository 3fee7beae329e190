-- A record a turn.
use Rattle.std.proofs.Common.{◌/◌, ◌<◌, ◌≤◌, length, arith, refl}
use Rattle.schedule.proofs.Checks.{passed_rises, cleared}
use Rattle.schedule.proofs.Records.{chunk_is}
use Rattle.run.proofs.Turns.{in_bytes}
use Rattle.schedule.proofs.Following.{stands_first, stands_next, follows_ended, count_fits, follows_last}
use Rattle.schedule.proofs.follow.follow.Goals as goal

pub loop-i-init : goal.loop-i-init
loop-i-init c =
    let a = c.args in
    stands_first a.snapshot.now a.program.now a.«data».now a.list.now a.from a.budget _ _ c.requires.0 c.requires.1.1 (in_bytes c.type_inv.snapshot) (in_bytes c.type_inv.«data»)
    (passed_rises a.list.now (length a.entered.now) c.requires.1.0) (cleared a.list.now a.entered.now c.requires.1.0 c.as_chunks.ensures.front_len (c.fill.ensures.after (λ y e. e)))

pub returns-in-Err : goal.returns-in-Err
returns-in-Err c =
    let more : c.loop-i.i < length c.args.list.now / 5 = omega (arith, c.as_chunks.ensures.front_len) in
    let same = chunk_is c.args.list.now c.as_chunks.ensures.front c.loop-i.i c.record_of.ensures more in
    follows_ended c.loop-i.invariant more c.serve.ensures same c.in-Err.is c.args.entered.now refl

pub loop-i-preserved : goal.loop-i-preserved
loop-i-preserved c =
    let more : c.loop-i.i < length c.args.list.now / 5 = omega (arith, c.as_chunks.ensures.front_len) in
    let same = chunk_is c.args.list.now c.as_chunks.ensures.front c.loop-i.i c.record_of.ensures more in
    stands_next c.loop-i.invariant more c.serve.ensures same c.in-Ok.is (in_bytes c.type_inv.snapshot) (in_bytes c.type_inv.«data»)

pub overflow_add-result : goal.overflow_add-result
overflow_add-result c =
    let end : length c.args.list.now / 5 ≤ c.loop-i.i = omega arith in
    omega (arith, count_fits c.loop-i.invariant end (in_bytes c.type_inv.program) c.unwrap-ended.ensures c.run_in.ensures.handed_back c.run_in.ensures.left)

pub returns : goal.returns
returns c =
    let end : length c.args.list.now / 5 ≤ c.loop-i.i = omega arith in
    follows_last c.loop-i.invariant end (in_bytes c.type_inv.program) c.unwrap-ended.ensures c.run_in.ensures.handed_back c.run_in.ensures.left c.args.entered.now refl
