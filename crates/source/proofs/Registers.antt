-- Registers and SREG of the Rust, on a core by its types: nothing panics, and what is read and written is the port's.
-- Assumes nothing.
use mathlib.Core.Path.{◌≡◌, refl, ◌∙◌}
use mathlib.Core.Bool.{Bool, true, false, not, beq}
use mathlib.Core.List.{List}
use Prim.Native.Nat.{ℕ, ◌+◌, ◌*◌, ◌/◌, ◌%◌, ◌^◌, ◌<◌}
use native.Mathlib.Omega.{arith}
use lib.Bits.{bit_and}
use lib.Dec.{eqb}
use lib.ListN.{set, length, length-set}
use borrow.Author.Tests.{lt-ltb}
use Rattle.basis.specs.Bit.{bit, put}
use Rattle.basis.proofs.Bits.{or_put, and_put, put_lt}
use Rattle.bits.proofs.Booleans.{tests_agree2}
use Rattle.cores.specs.State.{reg, word, with_reg, with_word, with_sreg, flag, cz, znvs, cznvs, cznvsh}
use Rattle.source.specs.Monad.{Self, Outcome, ok, Rust, ◌>>◌, with_core}
use Rattle.source.specs.Integers.{◌xor◌}
use Rattle.source.specs.Registers.{get_register, set_register, get_register_word, set_register_word, get_sreg_bit, set_sreg_bit}

-- ---- registers
pub get_ok : (s : Self) (d : ℕ) → length s.core.regs ≡ 32 → d < 32 → get_register d s ≡ ok (reg s.core d) s
unfolding get_register
get_ok s d e h = rw (lt-ltb d (length s.core.regs) (omega arith))

pub set_ok : (s : Self) (d v : ℕ) → length s.core.regs ≡ 32 → d < 32 → set_register d v s ≡ ok tt (with_core s (with_reg s.core d v))
unfolding set_register
set_ok s d v e h = rw (lt-ltb d (length s.core.regs) (omega arith))

pub get_word_ok : (s : Self) (d : ℕ) → length s.core.regs ≡ 32 → d < 31 → get_register_word d s ≡ ok (word s.core d) s
unfolding get_register_word
get_word_ok s d e h = rw (get_ok s d e (omega arith), get_ok s (d + 1) e (omega arith))

pub set_word_ok : (s : Self) (d v : ℕ) → length s.core.regs ≡ 32 → d < 31 → set_register_word d v s ≡ ok tt (with_core s (with_word s.core d v))
unfolding set_register_word with_reg
set_word_ok s d v e h = rw (set_ok s d (v % 256) e (omega arith)) (set_ok _ (d + 1) (v / 256) (length-set s.core.regs d (v % 256) ∙ e) (omega arith))

pub count_set : (l : List ℕ) (i v : ℕ) → length l ≡ 32 → length (set l i v) ≡ 32
count_set l i v e = length-set l i v ∙ e

-- ---- one bit of a byte, by a mask
pub and_flag : (x b : ℕ) → x < 256 → b < 8 → not (eqb (bit_and x (1 * 2 ^ b % 256)) 0) ≡ bit x b
unfolding bit
and_flag = tests_agree2 256 8 (λ x b. not (eqb (bit_and x (1 * 2 ^ b % 256)) 0)) bit tt

pub flag_ok : (s : Self) (b : ℕ) → s.core.sreg < 256 → b < 8 → get_sreg_bit b s ≡ ok (flag s.core b) s
unfolding get_sreg_bit
flag_ok s b h hb = rw (lt-ltb b 8 hb, and_flag s.core.sreg b h hb)

pub put_ok : (s : Self) (b : ℕ) (on : Bool) → s.core.sreg < 256 → b < 8 → set_sreg_bit b on s ≡ ok tt (with_core s (with_sreg s.core (put s.core.sreg b on)))
unfolding set_sreg_bit
put_ok s b true h hb = rw (lt-ltb b 8 hb, or_put s.core.sreg b h hb)
put_ok s b false h hb = rw (lt-ltb b 8 hb, and_put s.core.sreg b h hb)

-- ---- flags stored one after the other: S is always N ^ V
pub xor_is : (n v : Bool) → n xor v ≡ not (beq n v)
xor_is true true = refl
xor_is true false = refl
xor_is false true = refl
xor_is false false = refl

abbrev pub sreg_at : Self → ℕ → Self
sreg_at s x = with_core s (with_sreg s.core x)

-- a flag, and what comes after it, where SREG is still a byte
flag_then : (rest : Rust Unit) (o : Outcome Unit) (s : Self) (x b : ℕ) (on : Bool) → x < 256 → b < 8
    → (put x b on < 256 → rest (sreg_at s (put x b on)) ≡ o)
    → (set_sreg_bit b on >> rest) (sreg_at s x) ≡ o
flag_then rest o s x b on h hb f = rw (put_ok (sreg_at s x) b on h hb) (f (put_lt x b on h))

cz_of : (s : Self) (x : ℕ) (c z : Bool) → x < 256 → (set_sreg_bit 0 c >> set_sreg_bit 1 z) (sreg_at s x) ≡ ok tt (sreg_at s (cz x c z))
unfolding cz
cz_of s x c z h = flag_then _ _ s x 0 c h (omega arith) λ h₀. put_ok _ 1 z h₀ (omega arith)

znvs_of : (s : Self) (x : ℕ) (z n v : Bool) → x < 256
    → (set_sreg_bit 1 z >> (set_sreg_bit 2 n >> (set_sreg_bit 3 v >> set_sreg_bit 4 (n xor v)))) (sreg_at s x) ≡ ok tt (sreg_at s (znvs x z n v))
unfolding znvs
znvs_of s x z n v h = rw (xor_is n v)
    (flag_then _ _ s x 1 z h (omega arith) λ h₁. flag_then _ _ s _ 2 n h₁ (omega arith) λ h₂. flag_then _ _ s _ 3 v h₂ (omega arith) λ h₃.
    put_ok _ 4 (not (beq n v)) h₃ (omega arith))

cznvs_of : (s : Self) (x : ℕ) (c z n v : Bool) → x < 256
    → (set_sreg_bit 0 c >> (set_sreg_bit 1 z >> (set_sreg_bit 2 n >> (set_sreg_bit 3 v >> set_sreg_bit 4 (n xor v))))) (sreg_at s x) ≡ ok tt (sreg_at s (cznvs x c z n v))
unfolding cznvs
cznvs_of s x c z n v h = flag_then _ _ s x 0 c h (omega arith) λ h₀. znvs_of s _ z n v h₀

cznvsh_of : (s : Self) (x : ℕ) (c z n v e : Bool) → x < 256
    → (set_sreg_bit 0 c >> (set_sreg_bit 1 z >> (set_sreg_bit 2 n >> (set_sreg_bit 3 v >> (set_sreg_bit 4 (n xor v) >> set_sreg_bit 5 e))))) (sreg_at s x)
    ≡ ok tt (sreg_at s (cznvsh x c z n v e))
unfolding znvs cznvs cznvsh
cznvsh_of s x c z n v e h = rw (xor_is n v)
    (flag_then _ _ s x 0 c h (omega arith) λ h₀. flag_then _ _ s _ 1 z h₀ (omega arith) λ h₁. flag_then _ _ s _ 2 n h₁ (omega arith) λ h₂. flag_then _ _ s _ 3 v h₂ (omega arith) λ h₃.
    flag_then _ _ s _ 4 (not (beq n v)) h₃ (omega arith) λ h₄. put_ok _ 5 e h₄ (omega arith))

pub cz_ok : (s : Self) (c z : Bool) → s.core.sreg < 256 → (set_sreg_bit 0 c >> set_sreg_bit 1 z) s ≡ ok tt (sreg_at s (cz s.core.sreg c z))
cz_ok s c z h = cz_of s s.core.sreg c z h

pub znvs_ok : (s : Self) (z n v : Bool) → s.core.sreg < 256
    → (set_sreg_bit 1 z >> (set_sreg_bit 2 n >> (set_sreg_bit 3 v >> set_sreg_bit 4 (n xor v)))) s ≡ ok tt (sreg_at s (znvs s.core.sreg z n v))
znvs_ok s z n v h = znvs_of s s.core.sreg z n v h

pub cznvs_ok : (s : Self) (c z n v : Bool) → s.core.sreg < 256
    → (set_sreg_bit 0 c >> (set_sreg_bit 1 z >> (set_sreg_bit 2 n >> (set_sreg_bit 3 v >> set_sreg_bit 4 (n xor v))))) s
    ≡ ok tt (sreg_at s (cznvs s.core.sreg c z n v))
cznvs_ok s c z n v h = cznvs_of s s.core.sreg c z n v h

pub cznvsh_ok : (s : Self) (c z n v e : Bool) → s.core.sreg < 256
    → (set_sreg_bit 0 c >> (set_sreg_bit 1 z >> (set_sreg_bit 2 n >> (set_sreg_bit 3 v >> (set_sreg_bit 4 (n xor v) >> set_sreg_bit 5 e))))) s
    ≡ ok tt (sreg_at s (cznvsh s.core.sreg c z n v e))
cznvsh_ok s c z n v e h = cznvsh_of s s.core.sreg c z n v e h
