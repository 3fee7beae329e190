-- A line of a listing is 49 bytes at most.
-- Assumes nothing.
use Rattle.std.proofs.Common.{ℕ, ◌+◌, ◌≤◌, T, leb, List, [], ◌∷◌, length, arith, leb→le, length-append}
use Rattle.page.proofs.Short.{Short, ◌then◌, one, four, decimal_short}
use Rattle.instruction.specs.Code.{code}
use Rattle.instruction.specs.declared.Instruction.{Instruction}
use Rattle.instruction.proofs.Tests.{each}
use Rattle.listing.specs.declared.operand.Operand.{Operand}
use Rattle.listing.specs.declared.operand.Operand.TheVariants.{Register, Pair, Byte, Word, Target, Number, Branch, Relative, X, XInc, XDec, YInc, YDec, YPlus, Z, ZInc, ZDec, ZPlus}
use Rattle.listing.specs.declared.row.Row.{Row}
use Rattle.listing.specs.declared.row.Row.TheVariants.{Lone, Single, Double}
use Rattle.listing.specs.Names.{name_text}
use Rattle.listing.specs.Listing.{operand_text, operands_of, operands_text, shown_of, row_text, line_text}

-- how long an operand's text is at most, by its kind
abbrev width : Operand → ℕ
width (Register d) = 6
width (Pair d) = 13
width (Byte K) = 4
width (Word k) = 6
width (Target k) = 8
width (Number b) = 5
width (Branch k) = 6
width (Relative k) = 6
width X = 1
width XInc = 2
width XDec = 2
width YInc = 2
width YDec = 2
width (YPlus q) = 7
width Z = 1
width ZInc = 2
width ZDec = 2
width (ZPlus q) = 7

register_short : (d : ℕ) → Short (operand_text 0 (Register d)) 6
register_short d = ◌then◌ (one 82) (decimal_short d)

operand_short : (a : ℕ) (x : Operand) → Short (operand_text a x) (width x)
operand_short a (Register d) = register_short d
operand_short a (Pair d) = ◌then◌ (◌then◌ (register_short (d + 1)) (one 58)) (register_short d)
operand_short a (Byte K) = record { bound = omega arith }
operand_short a (Word k) = record { bound = omega arith }
operand_short a (Target k) = record { bound = omega arith }
operand_short a (Number b) = decimal_short b
operand_short a (Branch k) = record { bound = omega arith }
operand_short a (Relative k) = record { bound = omega arith }
operand_short a X = record { bound = omega arith }
operand_short a XInc = record { bound = omega arith }
operand_short a XDec = record { bound = omega arith }
operand_short a YInc = record { bound = omega arith }
operand_short a YDec = record { bound = omega arith }
operand_short a (YPlus q) = ◌then◌ (◌then◌ (one 89) (one 43)) (decimal_short q)
operand_short a Z = record { bound = omega arith }
operand_short a ZInc = record { bound = omega arith }
operand_short a ZDec = record { bound = omega arith }
operand_short a (ZPlus q) = ◌then◌ (◌then◌ (one 90) (one 43)) (decimal_short q)

abbrev widths : List Operand → ℕ
widths [] = 0
widths (x ∷ []) = 1 + width x
widths (x ∷ y ∷ xs) = 1 + width x + 2 + width y

operands_short : (a : ℕ) (xs : List Operand) → Short (operands_text a xs) (widths xs)
operands_short a [] = record { bound = omega arith }
operands_short a (x ∷ []) = ◌then◌ (one 32) (operand_short a x)
operands_short a (x ∷ y ∷ xs) =
    let comma : Short (44 ∷ 32 ∷ []) 2 = record { bound = omega arith } in
    ◌then◌ (◌then◌ (◌then◌ (one 32) (operand_short a x)) comma) (operand_short a y)

-- a name and its operands, each by its kind
by_kind : (w : ℕ) (i : Instruction) → T (leb (length (name_text (code i).0) + widths (operands_of w i)) 33)
unfolding name_text operands_of
by_kind w = each (λ i. leb (length (name_text (code i).0) + widths (operands_of w i)) 33) (λ a b. tt) tt

shown_short : (a w : ℕ) (i : Instruction) → Short (shown_of a w i) 33
shown_short a w i =
    let name = name_text (code i).0 in
    let sum = leb→le (length name + widths (operands_of w i)) 33 (by_kind w i) in
    let operands = (operands_short a (operands_of w i)).bound in
    record { bound = rw length-append (omega arith) }

row_short : (a : ℕ) (r : Row) → Short (row_text a r) 43
row_short a (Lone b) = record { bound = omega arith }
row_short a (Single w i) =
    let spaces : Short (32 ∷ 32 ∷ 32 ∷ 32 ∷ 32 ∷ 32 ∷ []) 6 = record { bound = omega arith } in
    ◌then◌ (◌then◌ (four w) spaces) (shown_short a w i)
row_short a (Double w s i) = ◌then◌ (◌then◌ (◌then◌ (◌then◌ (four w) (one 32)) (four s)) (one 32)) (shown_short a w i)

pub line_short : (a : ℕ) (r : Row) → length (line_text a r) ≤ 49
line_short a r =
    let line : Short (line_text a r) 49 = ◌then◌ (◌then◌ (◌then◌ (four a) (one 32)) (row_short a r)) (one 10) in
    line.bound
