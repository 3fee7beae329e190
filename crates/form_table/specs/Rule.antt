-- 02, W10: "a constant table of 4,096 entries, indexed by the word's high byte and low nibble, giving the instruction's form or a mark for a further look at the remaining bits."
-- w is a word, i an index of the table, b the remaining bits (7 to 4), f a form, n a number of entries.
use Rattle.std.specs.Prelude.{Bool, true, ◌&&◌, List, [], ◌∷◌, ℕ, zero, suc, ◌+◌, ◌*◌, ◌/◌, ◌%◌, eqb}
use Rattle.basis.specs.Pick.{pick}
use Rattle.forms.specs.Forms.{form_of, mark}

-- the word with that index and those remaining bits
abbrev pub word_at : ℕ → ℕ → ℕ
word_at i b = i / 16 * 256 + b * 16 + i % 16

-- every word with that index and remaining bits below b has the form f
abbrev pub all_are : ℕ → ℕ → ℕ → Bool
all_are f i zero = true
all_are f i (suc b) = eqb (form_of (word_at i b)) f && all_are f i b

-- "the instruction's form", where the sixteen words with that index have one, "or a mark for a further look"
abbrev pub entry_of : ℕ → ℕ
entry_of i = let f = form_of (word_at i 0) in pick (all_are f i 16) f mark

-- n entries from index i on
abbrev pub entries_from : ℕ → ℕ → List ℕ
entries_from i zero = []
entries_from i (suc n) = entry_of i ∷ entries_from (suc i) n

-- "a constant table of 4,096 entries"
unfoldable pub table_of : List ℕ
table_of = entries_from 0 4096
