-- Numbers as text. x is a number, p a power of ten.
use Rattle.std.specs.Prelude.{List, [], ◌∷◌, ◌++◌, ℕ, ◌+◌, ◌/◌, ◌%◌, leb}
use Rattle.basis.specs.Pick.{pick}
use Rattle.basis.specs.Text.{hex_digit}

-- two and four hex digits, capitals
abbrev pub hex2 : ℕ → List ℕ
hex2 x = hex_digit (x / 16) ∷ hex_digit x ∷ []

abbrev pub hex4 : ℕ → List ℕ
hex4 x = hex2 (x / 256) ++ hex2 (x % 256)

-- decimal, with no leading zero, of a number below 100,000: the digit of p, where the number reaches p
abbrev pub digit : ℕ → ℕ → List ℕ
digit x p = pick (leb p x) ((48 + x / p % 10) ∷ []) []

abbrev pub decimal : ℕ → List ℕ
decimal x = digit x 10000 ++ digit x 1000 ++ digit x 100 ++ digit x 10 ++ ((48 + x % 10) ∷ [])
