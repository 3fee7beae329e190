-- 01, 'Arithmetic and flags', in the order of cores.rs. k is a core, d and r are register numbers, K and b are bytes, x is a result.
-- "Z is result zero, N its top bit, S is N xor V."
use Rattle.std.specs.Prelude.{ℕ, ◌+◌, ◌-◌, ◌%◌, Bool, true, false, not, ◌&&◌, ◌||◌, ◌==◌, bit_and, bit_or, bit_xor, nat_lt}
use Rattle.basis.specs.Bit.{bit}
use Rattle.alu.specs.Alu.{negative, negative_word, plus_of, minus_of, plus_word_of, minus_word_of, signed_of, product_of, doubled_of}
use Rattle.alu.specs.declared.Sum.{Sum}
use Rattle.rule.specs.Rule.{old_bit_clear}
use Rattle.cores.specs.declared.Core.{Core}
use Rattle.cores.specs.State.{reg, word, with_reg, with_word, with_sreg, with_busy, flag, cz, znvs, cznvs, cznvsh}

-- ---- what several handlers share
-- SREG after a sum or a difference x, with Z given
abbrev pub sum_flags : Core → Sum → Bool → ℕ
sum_flags k x z = cznvsh k.sreg x.carry z (negative x.value) x.overflow x.half

abbrev pub is_zero : Sum → Bool
is_zero x = x.value == 0

-- a sum or a difference into register d
abbrev pub summed : Core → ℕ → Sum → Bool → Core
summed k d x z = with_sreg (with_reg k d x.value) (sum_flags k x z)

-- a byte x into register d, with V given: "C, H kept"
abbrev pub resulted : Core → ℕ → ℕ → Bool → Core
resulted k d x v = with_sreg (with_reg k d x) (znvs k.sreg (x == 0) (negative x) v)

-- ---- sums: "ADD ADC: C carry, H carry out of bit 3, V signed overflow; ADC adds C."
abbrev pub adc_of : Core → ℕ → ℕ → Core
adc_of k d r = let x = plus_of (reg k d) (reg k r) (flag k 0) in summed k d x (is_zero x)

abbrev pub add_of : Core → ℕ → ℕ → Core
add_of k d r = let x = plus_of (reg k d) (reg k r) false in summed k d x (is_zero x)

-- "ADIW: C carry, V old bit 7 clear and new bit 15 set. H kept." Which old bit it is goes by the rule
abbrev pub adiw_of : Core → ℕ → ℕ → Core
adiw_of k d K =
    let k₁ = with_busy k 1 in
    let a = word k₁ d in
    let x = plus_word_of a K in
    let v = old_bit_clear k.chip a && negative_word x.value in
    with_sreg (with_word k₁ d x.value) (cznvs k.sreg x.carry (x.value == 0) (negative_word x.value) v)

-- ---- "AND ANDI OR ORI EOR: V 0; C, H kept." AND and ANDI with a register's byte and with K for b; so OR and ORI
abbrev pub and_of : Core → ℕ → ℕ → Core
and_of k d b = resulted k d (bit_and (reg k d) b) false

-- "COM: C 1, V 0, H kept."
abbrev pub com_of : Core → ℕ → Core
com_of k d = let x = 255 - reg k d in with_sreg (with_reg k d x) (cznvs k.sreg true (x == 0) (negative x) false)

-- "INC V at old 0x7F, DEC V at old 0x80; C, H kept."
abbrev pub dec_of : Core → ℕ → Core
dec_of k d = resulted k d ((reg k d + 255) % 256) (reg k d == 128)

abbrev pub eor_of : Core → ℕ → ℕ → Core
eor_of k d b = resulted k d (bit_xor (reg k d) b) false

-- ---- products, of 16 bits
-- "exact product in R1:R0, C its bit 15, Z; no other flag"
abbrev pub multiplied : Core → ℕ → Core
multiplied k product = let k₁ = with_busy k 1 in with_sreg (with_word k₁ 0 product) (cz k.sreg (negative_word product) (product == 0))

-- "FMUL forms: C product bit 15, then doubled modulo 65,536, Z of that."
abbrev pub fractional : Core → ℕ → Core
fractional k product =
    let k₁ = with_busy k 1 in
    let x = doubled_of product in
    with_sreg (with_word k₁ 0 x) (cz k.sreg (negative_word product) (x == 0))

-- "MULSU and FMULSU take Rd signed and Rr unsigned, MULS and FMULS both signed, MUL and FMUL both unsigned."
abbrev pub unsigned_of : Core → ℕ → ℕ → ℕ
unsigned_of k d r = product_of (reg k d) (reg k r)

abbrev pub both_signed_of : Core → ℕ → ℕ → ℕ
both_signed_of k d r = product_of (signed_of (reg k d)) (signed_of (reg k r))

abbrev pub first_signed_of : Core → ℕ → ℕ → ℕ
first_signed_of k d r = product_of (signed_of (reg k d)) (reg k r)

abbrev pub fmul_of : Core → ℕ → ℕ → Core
fmul_of k d r = fractional k (unsigned_of k d r)

abbrev pub fmuls_of : Core → ℕ → ℕ → Core
fmuls_of k d r = fractional k (both_signed_of k d r)

abbrev pub fmulsu_of : Core → ℕ → ℕ → Core
fmulsu_of k d r = fractional k (first_signed_of k d r)

abbrev pub inc_of : Core → ℕ → Core
inc_of k d = resulted k d ((reg k d + 1) % 256) (reg k d == 127)

abbrev pub mul_of : Core → ℕ → ℕ → Core
mul_of k d r = multiplied k (unsigned_of k d r)

abbrev pub muls_of : Core → ℕ → ℕ → Core
muls_of k d r = multiplied k (both_signed_of k d r)

abbrev pub mulsu_of : Core → ℕ → ℕ → Core
mulsu_of k d r = multiplied k (first_signed_of k d r)

-- "NEG: C result not 0, V result 0x80, H bit 3 of old or new."
abbrev pub neg_of : Core → ℕ → Core
neg_of k d =
    let a = reg k d in
    let x = (256 - a) % 256 in
    with_sreg (with_reg k d x) (cznvsh k.sreg (not (x == 0)) (x == 0) (negative x) (x == 128) (bit x 3 || bit a 3))

abbrev pub or_of : Core → ℕ → ℕ → Core
or_of k d b = resulted k d (bit_or (reg k d) b) false

-- ---- differences: "SUB SUBI CP CPI: the same with borrow. SBC SBCI CPC subtract C too, and Z is old Z and result zero."
-- SUB and SUBI, SBC and SBCI: with a register's byte and with K for b
abbrev pub sbc_of : Core → ℕ → ℕ → Core
sbc_of k d b = let x = minus_of (reg k d) b (flag k 0) in summed k d x (flag k 1 && is_zero x)

-- "SBIW: C borrow, V old bit 15 set and new bit 15 clear. H kept."
abbrev pub sbiw_of : Core → ℕ → ℕ → Core
sbiw_of k d K =
    let k₁ = with_busy k 1 in
    let a = word k₁ d in
    let x = minus_word_of a K in
    let v = negative_word a && nat_lt x.value 32768 in
    with_sreg (with_word k₁ d x.value) (cznvs k.sreg x.carry (x.value == 0) (negative_word x.value) v)

abbrev pub sub_of : Core → ℕ → ℕ → Core
sub_of k d b = let x = minus_of (reg k d) b false in summed k d x (is_zero x)
