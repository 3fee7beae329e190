-- Two bytes make a word.
-- Assumes nothing.
use Rattle.std.proofs.Common.{ℕ, ◌+◌, ◌*◌, ◌<◌, List, get_or, arith}
use Rattle.basis.specs.Bytes.{Bytes}
use Rattle.memory.specs.Memory.{word_of, program_word_of}

pub word_lt : (l : List ℕ) (at : ℕ) → ((i : ℕ) → get_or l i 0 < 256) → word_of l at < 65536
word_lt l at h = omega (arith, h at, h (at + 1))

pub program_word_lt : (p : List ℕ) (pc : ℕ) → Bytes p → program_word_of p pc < 65536
unfolding program_word_of
program_word_lt p pc b = word_lt p (pc * 2) b.byte_lt
