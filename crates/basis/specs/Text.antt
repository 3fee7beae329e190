-- Texts, as the codes of their characters.
use Rattle.std.specs.Prelude.{List, [], ◌∷◌, ◌++◌, ℕ, ◌+◌, ◌%◌, ltb}
use Prim.Native.Char.{code}
use Prim.Native.String.{String, [] as end, ◌∷◌ as then}
use Rattle.basis.specs.Pick.{pick}

abbrev pub text : String → List ℕ
text end = []
text (then c t) = code c ∷ text t

-- a line that ends in LF
abbrev pub line : String → List ℕ
line t = text t ++ (10 ∷ [])

-- the low four bits as a digit 0 to 9, A to F
abbrev pub hex_digit : ℕ → ℕ
hex_digit x = let d = x % 16 in pick (ltb d 10) (48 + d) (55 + d)
