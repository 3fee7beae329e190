-- What the code hands from `shown_of` to `put_shown`: a name and operands.
use Rattle.std.specs.Prelude.{ℕ, List, [], ◌∷◌, ◌++◌}
use Rattle.listing.specs.declared.operand.Operand.{Operand}
use Rattle.listing.specs.declared.shown.Shown.{Shown}
use Rattle.listing.specs.declared.shown.Shown.TheVariants.{Bare, One, Two}
use Rattle.listing.specs.Listing.{operands_text}

abbrev pub name_in : Shown → List ℕ
name_in (Bare n) = n.now
name_in (One n x) = n.now
name_in (Two n x y) = n.now

abbrev pub operands_in : Shown → List Operand
operands_in (Bare n) = []
operands_in (One n x) = x ∷ []
operands_in (Two n x y) = x ∷ y ∷ []

abbrev pub said_of : ℕ → Shown → List ℕ
said_of a z = name_in z ++ operands_text a (operands_in z)
