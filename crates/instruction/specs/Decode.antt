-- 01, 'Decode': "The patterns of `decode` in their order; every word has one reading. The only overlap: the `LSL` pattern lies under `ADD`,
-- so 0x0C00 is ADD. Unlisted words are undefined and run as no-ops. Decode keeps all 22 target bits of CALL and JMP."
-- Written as 01's "decision over number ranges on the word", with the pattern of cores.rs beside each case; that the patterns themselves, read
-- in their order, say the same of every word is the theorem of the crate `source_decode`.
use Rattle.std.specs.Prelude.{ℕ, ◌+◌, ◌*◌, ◌/◌, ◌%◌, List, [], ◌∷◌, ltb, eqb}
use Rattle.basis.specs.Pick.{pick}
use Rattle.instruction.specs.declared.Instruction.{Instruction}
use Rattle.instruction.specs.declared.Instruction.TheVariants.{ADC, ADD, ADIW, AND, ANDI, ASR, BCLR, BLD, BRBC, BRBS, BREAK, BSET, BST, CALL, CBI, COM, CP, CPC, CPI, CPSE, DEC, EOR, FMUL, FMULS, FMULSU, ICALL, IJMP, IN, INC, JMP, LDX, LDXinc, LDXdec, LDYinc, LDYdec, LDZinc, LDZdec, LDDY, LDDZ, LDI, LDS, LPM, LPMZ, LPMZinc, LSR, MOV, MOVW, MUL, MULS, MULSU, NEG, NOP, OR, ORI, OUT, POP, PUSH, RCALL, RET, RETI, RJMP, ROR, SBC, SBCI, SBI, SBIC, SBIS, SBIW, SBRC, SBRS, SLEEP, STX, STXdec, STXinc, STYdec, STYinc, STZdec, STZinc, STDY, STDZ, STS, SUB, SUBI, SWAP, WDR, UNDEF}

-- ---- two kinds of table
-- numbers, each with an instruction
abbrev pub Cases : Type 0
Cases = List (ℕ × Instruction)

-- the case with the number k; "unlisted words are undefined"
abbrev pub look : ℕ → Cases → Instruction
look k [] = UNDEF
look k (p ∷ l) = pick (eqb k p.0) p.1 (look k l)

-- the first case with a number above k
abbrev pub under : ℕ → Cases → Instruction
under k [] = UNDEF
under k (p ∷ l) = pick (ltb k p.0) p.1 (under k l)

-- ---- the fields of a word: the letter of the patterns, and how many bits it has
abbrev pub d5 : ℕ → ℕ
d5 w = w / 16 % 32

abbrev pub d4 : ℕ → ℕ
d4 w = w / 16 % 16

abbrev pub d3 : ℕ → ℕ
d3 w = w / 16 % 8

abbrev pub d2 : ℕ → ℕ
d2 w = w / 16 % 4

abbrev pub r5 : ℕ → ℕ
r5 w = w / 512 % 2 * 16 + w % 16

abbrev pub r4 : ℕ → ℕ
r4 w = w % 16

abbrev pub r3 : ℕ → ℕ
r3 w = w % 8

abbrev pub K8 : ℕ → ℕ
K8 w = w / 256 % 16 * 16 + w % 16

abbrev pub K6 : ℕ → ℕ
K6 w = w / 64 % 4 * 16 + w % 16

abbrev pub q6 : ℕ → ℕ
q6 w = w / 8192 % 2 * 32 + w / 1024 % 4 * 8 + w % 8

abbrev pub A6 : ℕ → ℕ
A6 w = w / 512 % 4 * 16 + w % 16

abbrev pub A5 : ℕ → ℕ
A5 w = w / 8 % 32

abbrev pub b3 : ℕ → ℕ
b3 w = w % 8

-- of BSET and BCLR; the s of BRBS and BRBC is the lowest three bits
abbrev pub s3 : ℕ → ℕ
s3 w = w / 16 % 8

-- the target of CALL and JMP: six bits of the word, then the second word
abbrev pub k22 : ℕ → ℕ → ℕ
k22 w s = (w / 16 % 32 * 2 + w % 2) * 65536 + s

-- the offset of RCALL and RJMP, its bit 11 repeated up to bit 15: the bits of the Rust's i16
abbrev pub k12 : ℕ → ℕ
k12 w = w % 2048 + w / 2048 % 2 * 63488

-- the offset of BRBC and BRBS, its bit 6 repeated at bit 7: the bits of the Rust's i8
abbrev pub k7 : ℕ → ℕ
k7 w = w / 8 % 64 + w / 512 % 2 * 192

-- ---- 0x0300 to 0x03FF, by bits 7 and 3
abbrev pub mulsu_to_fmulsu : ℕ → Cases
mulsu_to_fmulsu w =
    let d = d3 w + 16 in
    let r = r3 w + 16 in
    (0, MULSU d r) ∷  -- 0000_0011_0ddd_0rrr
    (1, FMUL d r) ∷  -- 0000_0011_0ddd_1rrr
    (2, FMULS d r) ∷  -- 0000_0011_1ddd_0rrr
    (3, FMULSU d r) ∷  -- 0000_0011_1ddd_1rrr
    []

unfoldable pub mulsu_to_fmulsu_of : ℕ → Instruction
mulsu_to_fmulsu_of w = look (w / 128 % 2 * 2 + w / 8 % 2) (mulsu_to_fmulsu w)

-- ---- 0x0000 to 0x0FFF
abbrev pub nop_to_add : ℕ → Cases
nop_to_add w =
    (0x001, NOP) ∷  -- 0000_0000_0000_0000
    (0x100, UNDEF) ∷
    (0x200, MOVW (d4 w * 2) (r4 w * 2)) ∷  -- 0000_0001_dddd_rrrr
    (0x300, MULS (d4 w + 16) (r4 w + 16)) ∷  -- 0000_0010_dddd_rrrr
    (0x400, mulsu_to_fmulsu_of w) ∷
    (0x800, CPC (d5 w) (r5 w)) ∷  -- 0000_01rd_dddd_rrrr
    (0xC00, SBC (d5 w) (r5 w)) ∷  -- 0000_10rd_dddd_rrrr
    (0x10000, ADD (d5 w) (r5 w)) ∷  -- 0000_11rd_dddd_rrrr
    []

unfoldable pub nop_to_add_of : ℕ → Instruction
nop_to_add_of w = under w (nop_to_add w)

-- ---- 0x1000 to 0x1FFF, by bits 11 and 10
abbrev pub cpse_to_adc : ℕ → Cases
cpse_to_adc w =
    (0, CPSE (d5 w) (r5 w)) ∷  -- 0001_00rd_dddd_rrrr
    (1, CP (d5 w) (r5 w)) ∷  -- 0001_01rd_dddd_rrrr
    (2, SUB (d5 w) (r5 w)) ∷  -- 0001_10rd_dddd_rrrr
    (3, ADC (d5 w) (r5 w)) ∷  -- 0001_11rd_dddd_rrrr
    []

unfoldable pub cpse_to_adc_of : ℕ → Instruction
cpse_to_adc_of w = look (w / 1024 % 4) (cpse_to_adc w)

-- ---- 0x2000 to 0x2FFF, by bits 11 and 10
abbrev pub and_to_mov : ℕ → Cases
and_to_mov w =
    (0, AND (d5 w) (r5 w)) ∷  -- 0010_00rd_dddd_rrrr
    (1, EOR (d5 w) (r5 w)) ∷  -- 0010_01rd_dddd_rrrr
    (2, OR (d5 w) (r5 w)) ∷  -- 0010_10rd_dddd_rrrr
    (3, MOV (d5 w) (r5 w)) ∷  -- 0010_11rd_dddd_rrrr
    []

unfoldable pub and_to_mov_of : ℕ → Instruction
and_to_mov_of w = look (w / 1024 % 4) (and_to_mov w)

-- ---- 0x3000 to 0x7FFF, and 0xE000 to 0xEFFF, by bits 15 to 12
abbrev pub immediate : ℕ → Cases
immediate w =
    let d = d4 w + 16 in
    (3, CPI d (K8 w)) ∷  -- 0011_KKKK_dddd_KKKK
    (4, SBCI d (K8 w)) ∷  -- 0100_KKKK_dddd_KKKK
    (5, SUBI d (K8 w)) ∷  -- 0101_KKKK_dddd_KKKK
    (6, ORI d (K8 w)) ∷  -- 0110_KKKK_dddd_KKKK
    (7, ANDI d (K8 w)) ∷  -- 0111_KKKK_dddd_KKKK
    (14, LDI d (K8 w)) ∷  -- 1110_KKKK_dddd_KKKK
    []

unfoldable pub immediate_of : ℕ → Instruction
immediate_of w = look (w / 4096) (immediate w)

-- ---- 0x8000 to 0x8FFF, and 0xA000 to 0xAFFF, by bits 9 and 3
abbrev pub displaced : ℕ → Cases
displaced w =
    (0, LDDZ (d5 w) (q6 w)) ∷  -- 10q0_qq0d_dddd_0qqq
    (1, LDDY (d5 w) (q6 w)) ∷  -- 10q0_qq0d_dddd_1qqq
    (2, STDZ (q6 w) (d5 w)) ∷  -- 10q0_qq1r_rrrr_0qqq
    (3, STDY (q6 w) (d5 w)) ∷  -- 10q0_qq1r_rrrr_1qqq
    []

unfoldable pub displaced_of : ℕ → Instruction
displaced_of w = look (w / 512 % 2 * 2 + w / 8 % 2) (displaced w)

-- ---- 0x9000 to 0x91FF, by bits 3 to 0
abbrev pub load : ℕ → ℕ → Cases
load w s =
    let d = d5 w in
    (0, LDS d s) ∷  -- 1001_000d_dddd_0000
    (1, LDZinc d) ∷  -- 1001_000d_dddd_0001
    (2, LDZdec d) ∷  -- 1001_000d_dddd_0010
    (4, LPMZ d) ∷  -- 1001_000d_dddd_0100
    (5, LPMZinc d) ∷  -- 1001_000d_dddd_0101
    (9, LDYinc d) ∷  -- 1001_000d_dddd_1001
    (10, LDYdec d) ∷  -- 1001_000d_dddd_1010
    (12, LDX d) ∷  -- 1001_000d_dddd_1100
    (13, LDXinc d) ∷  -- 1001_000d_dddd_1101
    (14, LDXdec d) ∷  -- 1001_000d_dddd_1110
    (15, POP d) ∷  -- 1001_000d_dddd_1111
    []

unfoldable pub load_of : ℕ → ℕ → Instruction
load_of w s = look (w % 16) (load w s)

-- ---- 0x9200 to 0x93FF, by bits 3 to 0
abbrev pub store : ℕ → ℕ → Cases
store w s =
    let r = d5 w in
    (0, STS s r) ∷  -- 1001_001r_rrrr_0000
    (1, STZinc r) ∷  -- 1001_001r_rrrr_0001
    (2, STZdec r) ∷  -- 1001_001r_rrrr_0010
    (9, STYinc r) ∷  -- 1001_001r_rrrr_1001
    (10, STYdec r) ∷  -- 1001_001r_rrrr_1010
    (12, STX r) ∷  -- 1001_001r_rrrr_1100
    (13, STXinc r) ∷  -- 1001_001r_rrrr_1101
    (14, STXdec r) ∷  -- 1001_001r_rrrr_1110
    (15, PUSH r) ∷  -- 1001_001d_dddd_1111
    []

unfoldable pub store_of : ℕ → ℕ → Instruction
store_of w s = look (w % 16) (store w s)

-- ---- 0x9408 and each sixteenth word after it, to 0x95F8, by bits 8 to 4
abbrev pub control_rest : Cases
control_rest =
    (16, RET) ∷  -- 1001_0101_0000_1000
    (17, RETI) ∷  -- 1001_0101_0001_1000
    (24, SLEEP) ∷  -- 1001_0101_1000_1000
    (25, BREAK) ∷  -- 1001_0101_1001_1000
    (26, WDR) ∷  -- 1001_0101_1010_1000
    (28, LPM) ∷  -- 1001_0101_1100_1000
    []

abbrev pub control : ℕ → Cases
control w =
    (8, BSET (s3 w)) ∷  -- 1001_0100_0sss_1000
    (16, BCLR (s3 w)) ∷  -- 1001_0100_1sss_1000
    (32, look (w / 16 % 32) control_rest) ∷
    []

unfoldable pub control_of : ℕ → Instruction
control_of w = under (w / 16 % 32) (control w)

-- ---- 0x9409 and each sixteenth word after it, to 0x95F9, by bits 8 to 4
abbrev pub indirect : Cases
indirect =
    (0, IJMP) ∷  -- 1001_0100_0000_1001
    (16, ICALL) ∷  -- 1001_0101_0000_1001
    []

unfoldable pub indirect_of : ℕ → Instruction
indirect_of w = look (w / 16 % 32) indirect

-- ---- 0x9400 to 0x95FF, by bits 3 to 0
abbrev pub one_register : ℕ → ℕ → Cases
one_register w s =
    let d = d5 w in
    (0, COM d) ∷  -- 1001_010d_dddd_0000
    (1, NEG d) ∷  -- 1001_010d_dddd_0001
    (2, SWAP d) ∷  -- 1001_010d_dddd_0010
    (3, INC d) ∷  -- 1001_010d_dddd_0011
    (5, ASR d) ∷  -- 1001_010d_dddd_0101
    (6, LSR d) ∷  -- 1001_010d_dddd_0110
    (7, ROR d) ∷  -- 1001_010d_dddd_0111
    (8, control_of w) ∷
    (9, indirect_of w) ∷
    (10, DEC d) ∷  -- 1001_010d_dddd_1010
    (12, JMP (k22 w s)) ∷  -- 1001_010k_kkkk_110k
    (13, JMP (k22 w s)) ∷
    (14, CALL (k22 w s)) ∷  -- 1001_010k_kkkk_111k
    (15, CALL (k22 w s)) ∷
    []

unfoldable pub one_register_of : ℕ → ℕ → Instruction
one_register_of w s = look (w % 16) (one_register w s)

-- ---- 0x9600 to 0x97FF, by bit 8
abbrev pub word_immediate : ℕ → Cases
word_immediate w =
    let d = d2 w * 2 + 24 in
    (0, ADIW d (K6 w)) ∷  -- 1001_0110_KKdd_KKKK
    (1, SBIW d (K6 w)) ∷  -- 1001_0111_KKdd_KKKK
    []

unfoldable pub word_immediate_of : ℕ → Instruction
word_immediate_of w = look (w / 256 % 2) (word_immediate w)

-- ---- 0x9800 to 0x9BFF, by bits 9 and 8
abbrev pub port_bit : ℕ → Cases
port_bit w =
    (0, CBI (A5 w) (b3 w)) ∷  -- 1001_1000_AAAA_Abbb
    (1, SBIC (A5 w) (b3 w)) ∷  -- 1001_1001_AAAA_Abbb
    (2, SBI (A5 w) (b3 w)) ∷  -- 1001_1010_AAAA_Abbb
    (3, SBIS (A5 w) (b3 w)) ∷  -- 1001_1011_AAAA_Abbb
    []

unfoldable pub port_bit_of : ℕ → Instruction
port_bit_of w = look (w / 256 % 4) (port_bit w)

-- ---- 0x9C00 to 0x9FFF
abbrev pub mul_of : ℕ → Instruction
mul_of w = MUL (d5 w) (r5 w)  -- 1001_11rd_dddd_rrrr

-- ---- 0xB000 to 0xBFFF, by bit 11
abbrev pub port : ℕ → Cases
port w =
    (0, IN (d5 w) (A6 w)) ∷  -- 1011_0AAd_dddd_AAAA
    (1, OUT (A6 w) (d5 w)) ∷  -- 1011_1AAr_rrrr_AAAA
    []

unfoldable pub port_of : ℕ → Instruction
port_of w = look (w / 2048 % 2) (port w)

-- ---- 0xC000 to 0xDFFF, by bit 12
abbrev pub relative : ℕ → Cases
relative w =
    (0, RJMP (k12 w)) ∷  -- 1100_kkkk_kkkk_kkkk
    (1, RCALL (k12 w)) ∷  -- 1101_kkkk_kkkk_kkkk
    []

unfoldable pub relative_of : ℕ → Instruction
relative_of w = look (w / 4096 % 2) (relative w)

-- ---- 0xF800 to 0xFFFF, by bits 10, 9 and 3
abbrev pub register_bit : ℕ → Cases
register_bit w =
    (0, BLD (d5 w) (b3 w)) ∷  -- 1111_100d_dddd_0bbb
    (2, BST (d5 w) (b3 w)) ∷  -- 1111_101d_dddd_0bbb
    (4, SBRC (d5 w) (b3 w)) ∷  -- 1111_110r_rrrr_0bbb
    (6, SBRS (d5 w) (b3 w)) ∷  -- 1111_111r_rrrr_0bbb
    []

unfoldable pub register_bit_of : ℕ → Instruction
register_bit_of w = look (w / 512 % 4 * 2 + w / 8 % 2) (register_bit w)

-- ---- 0xF000 to 0xFFFF, by bits 11 and 10
abbrev pub branch_or_bit : ℕ → Cases
branch_or_bit w =
    (1, BRBS (w % 8) (k7 w)) ∷  -- 1111_00kk_kkkk_ksss
    (2, BRBC (w % 8) (k7 w)) ∷  -- 1111_01kk_kkkk_ksss
    (4, register_bit_of w) ∷
    []

unfoldable pub branch_or_bit_of : ℕ → Instruction
branch_or_bit_of w = under (w / 1024 % 4) (branch_or_bit w)

-- ---- every word w, with the second word s: the first range that ends above w
abbrev pub ranges : ℕ → ℕ → Cases
ranges w s =
    (0x1000, nop_to_add_of w) ∷
    (0x2000, cpse_to_adc_of w) ∷
    (0x3000, and_to_mov_of w) ∷
    (0x8000, immediate_of w) ∷
    (0x9000, displaced_of w) ∷
    (0x9200, load_of w s) ∷
    (0x9400, store_of w s) ∷
    (0x9600, one_register_of w s) ∷
    (0x9800, word_immediate_of w) ∷
    (0x9C00, port_bit_of w) ∷
    (0xA000, mul_of w) ∷
    (0xB000, displaced_of w) ∷
    (0xC000, port_of w) ∷
    (0xE000, relative_of w) ∷
    (0xF000, immediate_of w) ∷
    (0x10000, branch_or_bit_of w) ∷
    []

unfoldable pub decode_of : ℕ → ℕ → Instruction
decode_of w s = under w (ranges w s)
