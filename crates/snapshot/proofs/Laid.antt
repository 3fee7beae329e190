-- A buffer of 38 bytes, whose last six are written behind 32 registers.
-- Assumes nothing.
use Rattle.std.proofs.Common.{◌≡◌, ◌∙◌, ℕ, ◌+◌, ◌*◌, ◌/◌, ◌%◌, ◌<◌, List, [], ◌∷◌, ◌++◌, append-nil, get_or, length, replicate, take_at, drop_at, arith}
use Rattle.basis.specs.Bit.{one}
use Rattle.cores.specs.declared.Core.{Core}
use Rattle.snapshot.specs.Snapshot.{bytes_of}
use borrow.Rule.Slice.PartMut.{put_mid}

behind : (r t : List ℕ) → length r ≡ 32 → put_mid 32 6 (r ++ replicate 6 0) t ≡ r ++ t
behind r t h = rw (take_at r (replicate 6 0) 32 h, drop_at r (replicate 6 0) 32 h, append-nil)

high : (x : ℕ) → x < 65536 → x / 256 % 256 ≡ x / 256
high x h = omega arith

-- a word's two bytes
abbrev two : ℕ → List ℕ
two x = x / 256 % 256 ∷ x % 256 ∷ []

pub laid : (k : Core) (pc sp r t : List ℕ) (last : ℕ) → k.pc < 65536 → k.sp < 65536 → length r ≡ 32 → r ≡ k.regs → pc ≡ two k.pc → sp ≡ two k.sp
    → last ≡ k.busy * 32 + one k.inhibit * 16 + one k.in_service * 8 + one k.chip * 4
    → t ≡ k.sreg ∷ get_or pc 0 0 ∷ get_or pc 1 0 ∷ get_or sp 0 0 ∷ get_or sp 1 0 ∷ last ∷ []
    → put_mid 32 6 (r ++ replicate 6 0) t ≡ bytes_of k
laid k pc sp r t last pb sb h re pe se le te = behind r t h ∙ rw (te, re, pe, se, le, high k.pc pb, high k.sp sb)
