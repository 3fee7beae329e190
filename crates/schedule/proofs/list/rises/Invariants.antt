-- What is asked of the records that are left is what is asked of all.
use Rattle.std.proofs.Common.{◌≡◌, map, drop}
use Rattle.schedule.specs.Schedule.{record_at, rising}
use Rattle.schedule.proofs.list.rises.Given as goal

abbrev pub invariant-loop-bytes : goal.invariant-loop-bytes
invariant-loop-bytes l = rising 0 (map (λ r. record_at r 0) l.records) ≡ rising l.last (map (λ r. record_at r 0) (drop l.bytes-index l.records))
