-- A snapshot's bytes behind its registers. s are the bytes of a snapshot.
use Rattle.std.specs.Prelude.{ℕ, ◌+◌, ◌*◌, ◌/◌, ◌%◌, List, [], ◌∷◌, slice_index, slice_set}

-- a word, high byte first
abbrev pub word_at : List ℕ → ℕ → ℕ
word_at s at = slice_index s at * 256 + slice_index s (at + 1)

abbrev pub word_put : List ℕ → ℕ → ℕ → List ℕ
word_put s at w = slice_set (slice_set s at (w / 256)) (at + 1) (w % 256)

-- SREG, PC, SP and the last byte
abbrev pub six : ℕ → ℕ → ℕ → ℕ → List ℕ
six sreg pc sp last = sreg ∷ pc / 256 ∷ pc % 256 ∷ sp / 256 ∷ sp % 256 ∷ last ∷ []
