-- 01, 'Arithmetic and flags' and the bit instructions, in the order of cores.rs. CBI and SBI are `memory`'s `bit_set_of`.
use Rattle.std.specs.Prelude.{ℕ, ◌+◌, ◌*◌, ◌/◌, ◌%◌, Bool, true, false, not, ◌||◌, ◌==◌}
use Rattle.std.specs.Bool.{beq}
use Rattle.basis.specs.Bit.{bit, put}
use Rattle.alu.specs.Alu.{negative, halved_of}
use Rattle.rule.specs.Rule.{bset_inhibits}
use Rattle.cores.specs.declared.Core.{Core}
use Rattle.cores.specs.State.{reg, with_reg, with_sreg, with_inhibit, flag, cznvs}

-- "ASR LSR ROR: C old bit 0, V is N xor C, H kept." top is the new bit 7
abbrev pub shifted : Core → ℕ → Bool → Core
shifted k d top =
    let c = bit (reg k d) 0 in
    let x = halved_of (reg k d) top in
    with_sreg (with_reg k d x) (cznvs k.sreg c (x == 0) (negative x) (not (beq (negative x) c)))

abbrev pub asr_of : Core → ℕ → Core
asr_of k d = shifted k d (negative (reg k d))

abbrev pub bclr_of : Core → ℕ → Core
bclr_of k s = with_sreg k (put k.sreg s false)

abbrev pub bld_of : Core → ℕ → ℕ → Core
bld_of k d b = with_reg k d (put (reg k d) b (flag k 6))

-- 02, W4: "Under the chip rule BSET 7 sets inhibit as RETI does"
abbrev pub bset_of : Core → ℕ → Core
bset_of k s = with_inhibit (with_sreg k (put k.sreg s true)) (bset_inhibits k.chip s || k.inhibit)

abbrev pub bst_of : Core → ℕ → ℕ → Core
bst_of k d b = with_sreg k (put k.sreg 6 (bit (reg k d) b))

abbrev pub lsr_of : Core → ℕ → Core
lsr_of k d = shifted k d false

abbrev pub ror_of : Core → ℕ → Core
ror_of k d = shifted k d (flag k 0)

abbrev pub swap_of : Core → ℕ → Core
swap_of k d = with_reg k d (reg k d % 16 * 16 + reg k d / 16)
