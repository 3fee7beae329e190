-- 01: "An offer is a vector 0 to 65,535, or none."
use Rattle.std.specs.Prelude.{ℕ, Option}

abbrev pub Offer : Type 0
Offer = Option ℕ
