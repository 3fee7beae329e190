-- 01: "Program is a lent byte slice, low byte of each word first; data is a lent byte slice, written by stores. Either may have any length,
-- zero included." A slice is the list of its bytes: `get_or xs i 0` is the byte at i, 0 outside, and `set xs i v` the list with v there.
use Rattle.std.specs.Prelude.{Bool, List, ℕ, ◌+◌, ◌*◌, ltb, get_or, set, length}
use Rattle.basis.specs.Bit.{put}

-- the byte is in the slice
abbrev pub has_of : List ℕ → ℕ → Bool
has_of m at = ltb at (length m)

-- two bytes, the low one first
abbrev pub word_of : List ℕ → ℕ → ℕ
word_of m at = get_or m (at + 1) 0 * 256 + get_or m at 0

-- the word at a PC, and whether it is wholly in the program
unfoldable pub program_word_of : List ℕ → ℕ → ℕ
program_word_of p pc = word_of p (pc * 2)

unfoldable pub has_word_of : List ℕ → ℕ → Bool
has_word_of p pc = has_of p (pc * 2 + 1)

-- one bit of a byte made so
abbrev pub bit_set_of : List ℕ → ℕ → ℕ → Bool → List ℕ
bit_set_of m at b on = set m at (put (get_or m at 0) b on)
