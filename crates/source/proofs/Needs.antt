-- What a step needs, as one test: refusal 0 is given exactly where all four needs are met.
-- Assumes nothing.
use mathlib.Core.Path.{◌≡◌, refl}
use mathlib.Core.Bool.{Bool, true, false, ◌&&◌}
use lib.Dec.{eqb}
use Rattle.basis.specs.Pick.{pick}
use Rattle.execute.specs.Needs.{Needs, refusal}

abbrev pub met : Needs → Bool
met n = n.program && (n.room && (n.stack && n.bytes))

-- of the four tests
met_of : (a b c d : Bool) → eqb (pick a (pick b (pick c (pick d 0 4) 3) 2) 1) 0 ≡ a && (b && (c && d))
met_of false b c d = refl
met_of true false c d = refl
met_of true true false d = refl
met_of true true true false = refl
met_of true true true true = refl

pub met_is : (n : Needs) → eqb (refusal n) 0 ≡ met n
met_is n = met_of n.program n.room n.stack n.bytes
