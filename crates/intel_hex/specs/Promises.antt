-- What document 02 promises of reading and writing, beside what each answers.
-- t is a text, p a program, b a buffer before the call, o the writer's output buffer, l and m lines, a an address.
use Rattle.std.specs.Prelude.{◌≡◌, List, ◌∷◌, ◌++◌, ℕ, ◌+◌, ◌*◌, ◌/◌, ◌-◌, ◌≤◌, ◌<◌, length, take, get_or}
use Rattle.basis.specs.Bytes.{Bytes}
use Rattle.hex_line.specs.Line.{lines_of, address_of, data_of, end_of}
use Rattle.intel_hex.specs.Reading.{answer, read_of, program_of}
use Rattle.intel_hex.specs.Writing.{text_of, write_of, buffer_of}

-- "What the writer made, the reader gives back into a buffer as long", whatever the buffer held; `Bytes` holds of every lent slice (crates/by_types)
pub record GivenBack (t p b : List ℕ) : Type 0 where
  pub answered : read_of t (length b) ≡ answer 0 0
  pub bytes : program_of t b ≡ p

abbrev pub WritingIsGivenBack : Type 0
WritingIsGivenBack =
    (p o b : List ℕ) → Bytes p → (write_of p (length o)).refusal ≡ 0 → length b ≡ length p
    → GivenBack (take (write_of p (length o)).length (buffer_of p o)) p b

-- "A refused file leaves the buffer untouched"; "nothing written"
abbrev pub RefusedReadChangesNothing : Type 0
RefusedReadChangesNothing = (t b : List ℕ) → ((read_of t (length b)).refusal ≡ 0 → ⊥) → program_of t b ≡ b

abbrev pub RefusedWriteChangesNothing : Type 0
RefusedWriteChangesNothing = (p o : List ℕ) → ((write_of p (length o)).refusal ≡ 0 → ⊥) → buffer_of p o ≡ o

-- a line names the bytes from its address on
abbrev pub Names : List ℕ → ℕ → Type 0
Names l a = (address_of l ≤ a) × (a < end_of l)

-- "A data line must not start below the end of the one before": no byte is named by two lines of a file that is read
abbrev pub NamedAtMostOnce : Type 0
NamedAtMostOnce =
    (t : List ℕ) (size : ℕ) → (read_of t size).refusal ≡ 0
    → (before between after : List (List ℕ)) (l m : List ℕ) → lines_of t ≡ before ++ (l ∷ (between ++ (m ∷ after)))
    → (a : ℕ) → Names l a → Names m a → ⊥

-- and what the buffer then holds: a byte that a line names is that line's, and "Bytes no line names become 0xFF"
pub record EachByte (t b : List ℕ) (a : ℕ) : Type 0 where
  pub named :
      (before after : List (List ℕ)) (l : List ℕ) → lines_of t ≡ before ++ (l ∷ after) → Names l a
      → get_or (program_of t b) a 0 ≡ get_or (data_of l) (a - address_of l) 0
  pub unnamed :
      ((before after : List (List ℕ)) (l : List ℕ) → lines_of t ≡ before ++ (l ∷ after) → Names l a → ⊥)
      → a < length b → get_or (program_of t b) a 0 ≡ 0xFF

abbrev pub EachByteOfAFileRead : Type 0
EachByteOfAFileRead = (t b : List ℕ) → (read_of t (length b)).refusal ≡ 0 → (a : ℕ) → EachByte t b a

-- how much room the writer needs: two digits a byte; for each line, of 16 bytes or less, a colon, ten digits and an LF; and the end record
abbrev pub TextLength : Type 0
TextLength = (p : List ℕ) → length (text_of p) ≡ length p * 2 + (length p + 15) / 16 * 12 + 12
