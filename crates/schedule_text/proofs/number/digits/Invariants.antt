-- The digits from here on, behind the value so far, give the number.
use Rattle.std.proofs.Common.{◌≡◌, ◌-◌, ◌^◌, ◌<◌, drop}
use Rattle.schedule_text.specs.Reading.{digits_from}
use Rattle.schedule_text.proofs.number.digits.Given as goal

abbrev pub invariant-loop-n : goal.invariant-loop-n
invariant-loop-n l =
    (l.value < 16 ^ l.n) × (digits_from 8 l.base 0 0 l.text ≡ digits_from (8 - l.n) l.base l.value l.n (drop l.n l.text))
