-- The Rust's program words are the port's, and so is what they decode to.
-- Assumes nothing.
use mathlib.Core.Path.{◌≡◌, refl}
use mathlib.Core.Bool.{Bool, true, false, ◌||◌, beq}
use mathlib.Core.List.{List}
use Prim.Native.Nat.{ℕ, ◌+◌, ◌*◌, ◌%◌}
use native.Mathlib.Omega.{arith}
use lib.Bits.{bit_or}
use lib.Dec.{eqb, ltb}
use lib.ListN.{get_or}
use borrow.Author.Tests.{lt-ltb, ltb-true}
use Rattle.basis.specs.Pick.{pick}
use Rattle.basis.proofs.Choice.{same}
use Rattle.basis.specs.Bytes.{Bytes}
use Rattle.instruction.specs.declared.Instruction.{Instruction}
use Rattle.instruction.specs.Decode.{decode_of}
use Rattle.instruction.specs.Code.{two_words}
use Rattle.instruction.specs.Fields.{InFields}
use Rattle.instruction.proofs.Laws.{fields_in_range}
use Rattle.instruction.proofs.Tests.{each}
use Rattle.memory.specs.Memory.{word_of, program_word_of, has_word_of}
use Rattle.cores.specs.Flow.{op_at}
use Rattle.cores.proofs.Bounds.{program_word_lt}
use Rattle.source_decode.specs.RustDecode.{rust_decode}
use Rattle.source_decode.proofs.Decodes.{decodes_as_the_rust}
use Rattle.source.specs.Monad.{Self, Outcome, ok, panic}
use Rattle.source.specs.Registers.{progmem_read, progmem_read_or_0, get_progmem, get_progmem_unused}
use Rattle.source.specs.CallJmpLdsSts.{CALL|JMP|LDS|STS}
use Rattle.source.proofs.Steps.{after_pick, pick_panic}
use Rattle.source.proofs.Stack.{joined}

-- ---- words
both_bytes_by : {A : Type 0} (x n : ℕ) (t : Bool) (o : Outcome A) → ltb (x + 1) n ≡ t → pick (ltb x n) (pick t o panic) panic ≡ pick t o panic
both_bytes_by x n true o e = let h = ltb-true (x + 1) n e in rw (lt-ltb x n (omega arith))
both_bytes_by x n false o e = pick_panic (ltb x n)

-- the low byte is there where the high byte is
both_bytes : {A : Type 0} (x n : ℕ) (o : Outcome A) → pick (ltb x n) (pick (ltb (x + 1) n) o panic) panic ≡ pick (ltb (x + 1) n) o panic
both_bytes x n o = both_bytes_by x n (ltb (x + 1) n) o refl

module _ (s : Self) (b : Bytes s.progmem) where
  bytes_joined : (pc : ℕ) → bit_or (get_or s.progmem (pc * 2 + 1) 0 * 256 % 65536) (get_or s.progmem (pc * 2) 0) ≡ word_of s.progmem (pc * 2)
  bytes_joined pc = joined (get_or s.progmem (pc * 2 + 1) 0) (get_or s.progmem (pc * 2) 0) (b.byte_lt (pc * 2 + 1)) (b.byte_lt (pc * 2))

  pub unused_word_ok : (pc : ℕ) → get_progmem_unused pc s ≡ ok (program_word_of s.progmem pc) s
  unfolding get_progmem_unused progmem_read_or_0 program_word_of
  unused_word_ok pc = rw (bytes_joined pc)

  word_by : (pc : ℕ) (end : Bool) → eqb s.core.pc 65535 ≡ end
      → get_progmem pc s ≡ pick (end || has_word_of s.progmem pc) (ok (program_word_of s.progmem pc) s) panic
  unfolding get_progmem progmem_read progmem_read_or_0 program_word_of has_word_of
  word_by pc true e = rw (e, bytes_joined pc)
  word_by pc false e = simp (e, after_pick, both_bytes, bytes_joined pc)

  -- at PC 65,535 no word panics
  pub word_ok : (pc : ℕ) → get_progmem pc s ≡ pick (eqb s.core.pc 65535 || has_word_of s.progmem pc) (ok (program_word_of s.progmem pc) s) panic
  word_ok pc = word_by pc (eqb s.core.pc 65535) refl

-- ---- what they decode to
pub op_same : (p : List ℕ) (pc : ℕ) → Bytes p → rust_decode (program_word_of p pc) (program_word_of p (pc + 1)) ≡ op_at decode_of p pc
op_same p pc b = decodes_as_the_rust (program_word_of p pc) (program_word_of p (pc + 1)) (program_word_lt p pc b) (program_word_lt p (pc + 1) b)

pub op_in : (p : List ℕ) (pc : ℕ) → Bytes p → InFields (op_at decode_of p pc)
op_in p pc b = fields_in_range (program_word_of p pc) (program_word_of p (pc + 1)) (program_word_lt p (pc + 1) b)

-- ---- the Rust's pattern is 01's list of instructions of two words
pub pattern_is : (op : Instruction) → CALL|JMP|LDS|STS op ≡ two_words op
pattern_is op = same (CALL|JMP|LDS|STS op) (two_words op) (each (λ i. beq (CALL|JMP|LDS|STS i) (two_words i)) (λ a b. tt) tt op)
