-- Bits of numbers of any size, as the Rust's `view_bits` and the manual's formulas have them. The laws about them are in proofs/.
use Rattle.std.specs.Prelude.{Bool, not, ◌&&◌, ◌||◌, ℕ, ◌/◌, ◌%◌, ◌^◌, ◌-◌, eqb, ℤ, pos, negsuc}
use Rattle.basis.specs.Pick.{pick}

-- bit i of x
abbrev pub nth : ℕ → ℕ → Bool
nth x i = eqb (x / 2 ^ i % 2) 1

-- the carry out of a place, by the bits there of a, of b and of the sum; the borrow, by those of a, of b and of the difference
abbrev pub carry_out : Bool → Bool → Bool → Bool
carry_out a b r = a && b || b && not r || not r && a

abbrev pub borrow_out : Bool → Bool → Bool → Bool
borrow_out a b r = not a && b || b && r || r && not a

-- a byte in two's complement, and the 16 bits of a number in two's complement
abbrev pub signed_byte : ℕ → ℤ
signed_byte x = pick (nth x 7) (negsuc (255 - x)) (pos x)

abbrev pub word16 : ℤ → ℕ
word16 (pos n) = n % 65536
word16 (negsuc n) = 65535 - n % 65536
