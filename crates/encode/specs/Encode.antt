-- 02, W8: "an encoder from an instruction to its one or two words. .. Refusals: 33 an operand outside its field, 34 undefined or LSL has no encoding."
-- The letters of fields are those of the patterns of `decode`; o is a pattern with 0 for its letters. That these are the words that decode to the instruction is proved in the crate `round_trip`.
use Rattle.std.specs.Prelude.{Bool, ◌&&◌, ◌||◌, ℕ, ◌+◌, ◌*◌, ◌/◌, ◌%◌, eqb, ltb, leb, Result, Ok, Err, if◌then◌else◌}
use Rattle.basis.specs.Pick.{pick}
use Rattle.instruction.specs.declared.Instruction.{Instruction}
use Rattle.instruction.specs.declared.Instruction.TheVariants.{ADC, ADD, ADIW, AND, ANDI, ASR, BCLR, BLD, BRBC, BRBS, BREAK, BSET, BST, CALL, CBI, COM, CP, CPC, CPI, CPSE, DEC, EOR, FMUL, FMULS, FMULSU, ICALL, IJMP, IN, INC, JMP, LDX, LDXinc, LDXdec, LDYinc, LDYdec, LDZinc, LDZdec, LDDY, LDDZ, LDI, LDS, LPM, LPMZ, LPMZinc, LSL, LSR, MOV, MOVW, MUL, MULS, MULSU, NEG, NOP, OR, ORI, OUT, POP, PUSH, RCALL, RET, RETI, RJMP, ROR, SBC, SBCI, SBI, SBIC, SBIS, SBIW, SBRC, SBRS, SLEEP, STX, STXdec, STXinc, STYdec, STYinc, STZdec, STZinc, STDY, STDZ, STS, SUB, SUBI, SWAP, WDR, UNDEF}
use Rattle.encode.specs.declared.Refusal.{Refusal}
use Rattle.encode.specs.declared.Words.{Words}

-- ---- what an encoder hands back: 0, or why there are no words; how many there are; and the words, 0 where there is none
pub record Encoded : Type 0 where
  pub refusal : ℕ
  pub words : ℕ
  pub first : ℕ
  pub second : ℕ

abbrev pub refused : ℕ → Encoded
refused n = record { refusal = n; words = 0; first = 0; second = 0 }

-- "33 an operand outside its field": in one word or in two, where the operands are inside
abbrev pub in_one : Bool → ℕ → Encoded
in_one inside first = pick inside (record { refusal = 0; words = 1; first = first; second = 0 }) (refused 33)

abbrev pub in_two : Bool → ℕ → ℕ → Encoded
in_two inside first second = pick inside (record { refusal = 0; words = 2; first = first; second = second }) (refused 33)

-- "Refusals: 33 an operand outside its field, 34 undefined or LSL has no encoding."
abbrev pub number_of : Refusal → ℕ
number_of Refusal.Outside = 33
number_of Refusal.NoEncoding = 34

-- a result in these words
abbrev pub said : Result Words Refusal → Encoded
said (Ok (Words.One w)) = record { refusal = 0; words = 1; first = w; second = 0 }
said (Ok (Words.Two w s)) = record { refusal = 0; words = 2; first = w; second = s }
said (Err e) = refused (number_of e)

-- a field by itself
abbrev pub field_of : Bool → ℕ → Result ℕ Refusal
field_of inside x = if inside then Ok x else Err Refusal.Outside

-- ---- the fields that not every number is inside of
-- R0 to R31
abbrev pub is_register : ℕ → Bool
is_register d = ltb d 32

-- R16 to R31
abbrev pub is_high : ℕ → Bool
is_high d = leb 16 d && ltb d 32

-- R16 to R23
abbrev pub is_low : ℕ → Bool
is_low d = leb 16 d && ltb d 24

-- the lower register of a pair, R0 to R30
abbrev pub is_pair : ℕ → Bool
is_pair d = ltb d 32 && eqb (d % 2) 0

-- the lower register of one of the last four pairs, R24 to R30
abbrev pub is_last_pair : ℕ → Bool
is_last_pair d = leb 24 d && is_pair d

-- bits 0 to 7 of a register, of an I/O address and of SREG
abbrev pub is_bit : ℕ → Bool
is_bit b = ltb b 8

-- "not in the two's complement range of its 7 or 12 bits": as a byte and as a word
abbrev pub is_offset7 : ℕ → Bool
is_offset7 k = ltb k 64 || (leb 192 k && ltb k 256)

abbrev pub is_offset12 : ℕ → Bool
is_offset12 k = ltb k 2048 || (leb 63488 k && ltb k 65536)

-- ---- the layouts: where the fields stand in the word
abbrev pub bare_of : ℕ → Encoded
bare_of o = record { refusal = 0; words = 1; first = o; second = 0 }

-- xxxx_xxxd_dddd_xxxx
abbrev pub register_of : ℕ → ℕ → Encoded
register_of o d = in_one (is_register d) (o + d * 16)

-- xxxx_xxrd_dddd_rrrr
abbrev pub registers_of : ℕ → ℕ → ℕ → Encoded
registers_of o d r = in_one (is_register d && is_register r) (o + r / 16 * 512 + d * 16 + r % 16)

-- xxxx_xxxx_dddd_rrrr
abbrev pub high_registers_of : ℕ → ℕ → ℕ → Encoded
high_registers_of o d r = in_one (is_high d && is_high r) (o + d % 16 * 16 + r % 16)

-- xxxx_xxxx_xddd_xrrr
abbrev pub low_registers_of : ℕ → ℕ → ℕ → Encoded
low_registers_of o d r = in_one (is_low d && is_low r) (o + d % 8 * 16 + r % 8)

-- xxxx_xxxx_dddd_rrrr
abbrev pub pairs_of : ℕ → ℕ → ℕ → Encoded
pairs_of o d r = in_one (is_pair d && is_pair r) (o + d / 2 * 16 + r / 2)

-- xxxx_KKKK_dddd_KKKK
abbrev pub constant_of : ℕ → ℕ → ℕ → Encoded
constant_of o d K = in_one (is_high d && ltb K 256) (o + K / 16 * 256 + d % 16 * 16 + K % 16)

-- xxxx_xxxx_KKdd_KKKK
abbrev pub pair_constant_of : ℕ → ℕ → ℕ → Encoded
pair_constant_of o d K = in_one (is_last_pair d && ltb K 64) (o + K / 16 * 64 + d / 2 % 4 * 16 + K % 16)

-- xxxx_xxxd_dddd_xbbb
abbrev pub register_bit_of : ℕ → ℕ → ℕ → Encoded
register_bit_of o d b = in_one (is_register d && is_bit b) (o + d * 16 + b)

-- xxxx_xxxx_AAAA_Abbb
abbrev pub port_bit_of : ℕ → ℕ → ℕ → Encoded
port_bit_of o A b = in_one (ltb A 32 && is_bit b) (o + A * 8 + b)

-- xxxx_xAAd_dddd_AAAA
abbrev pub port_of : ℕ → ℕ → ℕ → Encoded
port_of o d A = in_one (is_register d && ltb A 64) (o + A / 16 * 512 + d * 16 + A % 16)

-- xxqx_qqxd_dddd_xqqq
abbrev pub displaced_of : ℕ → ℕ → ℕ → Encoded
displaced_of o d q = in_one (is_register d && ltb q 64) (o + q / 32 * 8192 + q / 8 % 4 * 1024 + d * 16 + q % 8)

-- xxxx_xxxx_xsss_xxxx
abbrev pub flag_of : ℕ → ℕ → Encoded
flag_of o s = in_one (is_bit s) (o + s * 16)

-- xxxx_xxkk_kkkk_ksss
abbrev pub branch_of : ℕ → ℕ → ℕ → Encoded
branch_of o s k = in_one (is_bit s && is_offset7 k) (o + k % 128 * 8 + s)

-- xxxx_kkkk_kkkk_kkkk
abbrev pub relative_of : ℕ → ℕ → Encoded
relative_of o k = in_one (is_offset12 k) (o + k % 4096)

-- xxxx_xxxk_kkkk_xxxk, and the low 16 bits in the second word
abbrev pub target_of : ℕ → ℕ → Encoded
target_of o k = in_two (ltb k 4194304) (o + k / 131072 * 16 + k / 65536 % 2) (k % 65536)

-- xxxx_xxxd_dddd_xxxx, and the address in the second word
abbrev pub data_address_of : ℕ → ℕ → ℕ → Encoded
data_address_of o d k = in_two (is_register d && ltb k 65536) (o + d * 16) k

-- ---- each instruction, in the order of the enum: its layout, and its pattern with 0 for the letters
unfoldable pub encode_of : Instruction → Encoded
encode_of (ADC d r) = registers_of 0x1C00 d r  -- 0001_11rd_dddd_rrrr
encode_of (ADD d r) = registers_of 0x0C00 d r  -- 0000_11rd_dddd_rrrr
encode_of (ADIW d K) = pair_constant_of 0x9600 d K  -- 1001_0110_KKdd_KKKK
encode_of (AND d r) = registers_of 0x2000 d r  -- 0010_00rd_dddd_rrrr
encode_of (ANDI d K) = constant_of 0x7000 d K  -- 0111_KKKK_dddd_KKKK
encode_of (ASR d) = register_of 0x9405 d  -- 1001_010d_dddd_0101
encode_of (BCLR s) = flag_of 0x9488 s  -- 1001_0100_1sss_1000
encode_of (BLD d b) = register_bit_of 0xF800 d b  -- 1111_100d_dddd_0bbb
encode_of (BRBC s k) = branch_of 0xF400 s k  -- 1111_01kk_kkkk_ksss
encode_of (BRBS s k) = branch_of 0xF000 s k  -- 1111_00kk_kkkk_ksss
encode_of BREAK = bare_of 0x9598  -- 1001_0101_1001_1000
encode_of (BSET s) = flag_of 0x9408 s  -- 1001_0100_0sss_1000
encode_of (BST d b) = register_bit_of 0xFA00 d b  -- 1111_101d_dddd_0bbb
encode_of (CALL k) = target_of 0x940E k  -- 1001_010k_kkkk_111k
encode_of (CBI A b) = port_bit_of 0x9800 A b  -- 1001_1000_AAAA_Abbb
encode_of (COM d) = register_of 0x9400 d  -- 1001_010d_dddd_0000
encode_of (CP d r) = registers_of 0x1400 d r  -- 0001_01rd_dddd_rrrr
encode_of (CPC d r) = registers_of 0x0400 d r  -- 0000_01rd_dddd_rrrr
encode_of (CPI d K) = constant_of 0x3000 d K  -- 0011_KKKK_dddd_KKKK
encode_of (CPSE d r) = registers_of 0x1000 d r  -- 0001_00rd_dddd_rrrr
encode_of (DEC d) = register_of 0x940A d  -- 1001_010d_dddd_1010
encode_of (EOR d r) = registers_of 0x2400 d r  -- 0010_01rd_dddd_rrrr
encode_of (FMUL d r) = low_registers_of 0x0308 d r  -- 0000_0011_0ddd_1rrr
encode_of (FMULS d r) = low_registers_of 0x0380 d r  -- 0000_0011_1ddd_0rrr
encode_of (FMULSU d r) = low_registers_of 0x0388 d r  -- 0000_0011_1ddd_1rrr
encode_of ICALL = bare_of 0x9509  -- 1001_0101_0000_1001
encode_of IJMP = bare_of 0x9409  -- 1001_0100_0000_1001
encode_of (IN d A) = port_of 0xB000 d A  -- 1011_0AAd_dddd_AAAA
encode_of (INC d) = register_of 0x9403 d  -- 1001_010d_dddd_0011
encode_of (JMP k) = target_of 0x940C k  -- 1001_010k_kkkk_110k
encode_of (LDX d) = register_of 0x900C d  -- 1001_000d_dddd_1100
encode_of (LDXinc d) = register_of 0x900D d  -- 1001_000d_dddd_1101
encode_of (LDXdec d) = register_of 0x900E d  -- 1001_000d_dddd_1110
encode_of (LDYinc d) = register_of 0x9009 d  -- 1001_000d_dddd_1001
encode_of (LDYdec d) = register_of 0x900A d  -- 1001_000d_dddd_1010
encode_of (LDZinc d) = register_of 0x9001 d  -- 1001_000d_dddd_0001
encode_of (LDZdec d) = register_of 0x9002 d  -- 1001_000d_dddd_0010
encode_of (LDDY d q) = displaced_of 0x8008 d q  -- 10q0_qq0d_dddd_1qqq
encode_of (LDDZ d q) = displaced_of 0x8000 d q  -- 10q0_qq0d_dddd_0qqq
encode_of (LDI d K) = constant_of 0xE000 d K  -- 1110_KKKK_dddd_KKKK
encode_of (LDS d k) = data_address_of 0x9000 d k  -- 1001_000d_dddd_0000
encode_of LPM = bare_of 0x95C8  -- 1001_0101_1100_1000
encode_of (LPMZ d) = register_of 0x9004 d  -- 1001_000d_dddd_0100
encode_of (LPMZinc d) = register_of 0x9005 d  -- 1001_000d_dddd_0101
encode_of (LSL d) = refused 34  -- "LSL has no encoding"
encode_of (LSR d) = register_of 0x9406 d  -- 1001_010d_dddd_0110
encode_of (MOV d r) = registers_of 0x2C00 d r  -- 0010_11rd_dddd_rrrr
encode_of (MOVW d r) = pairs_of 0x0100 d r  -- 0000_0001_dddd_rrrr
encode_of (MUL d r) = registers_of 0x9C00 d r  -- 1001_11rd_dddd_rrrr
encode_of (MULS d r) = high_registers_of 0x0200 d r  -- 0000_0010_dddd_rrrr
encode_of (MULSU d r) = low_registers_of 0x0300 d r  -- 0000_0011_0ddd_0rrr
encode_of (NEG d) = register_of 0x9401 d  -- 1001_010d_dddd_0001
encode_of NOP = bare_of 0x0000  -- 0000_0000_0000_0000
encode_of (OR d r) = registers_of 0x2800 d r  -- 0010_10rd_dddd_rrrr
encode_of (ORI d K) = constant_of 0x6000 d K  -- 0110_KKKK_dddd_KKKK
encode_of (OUT A r) = port_of 0xB800 r A  -- 1011_1AAr_rrrr_AAAA
encode_of (POP d) = register_of 0x900F d  -- 1001_000d_dddd_1111
encode_of (PUSH d) = register_of 0x920F d  -- 1001_001d_dddd_1111
encode_of (RCALL k) = relative_of 0xD000 k  -- 1101_kkkk_kkkk_kkkk
encode_of RET = bare_of 0x9508  -- 1001_0101_0000_1000
encode_of RETI = bare_of 0x9518  -- 1001_0101_0001_1000
encode_of (RJMP k) = relative_of 0xC000 k  -- 1100_kkkk_kkkk_kkkk
encode_of (ROR d) = register_of 0x9407 d  -- 1001_010d_dddd_0111
encode_of (SBC d r) = registers_of 0x0800 d r  -- 0000_10rd_dddd_rrrr
encode_of (SBCI d K) = constant_of 0x4000 d K  -- 0100_KKKK_dddd_KKKK
encode_of (SBI A b) = port_bit_of 0x9A00 A b  -- 1001_1010_AAAA_Abbb
encode_of (SBIC A b) = port_bit_of 0x9900 A b  -- 1001_1001_AAAA_Abbb
encode_of (SBIS A b) = port_bit_of 0x9B00 A b  -- 1001_1011_AAAA_Abbb
encode_of (SBIW d K) = pair_constant_of 0x9700 d K  -- 1001_0111_KKdd_KKKK
encode_of (SBRC r b) = register_bit_of 0xFC00 r b  -- 1111_110r_rrrr_0bbb
encode_of (SBRS r b) = register_bit_of 0xFE00 r b  -- 1111_111r_rrrr_0bbb
encode_of SLEEP = bare_of 0x9588  -- 1001_0101_1000_1000
encode_of (STX r) = register_of 0x920C r  -- 1001_001r_rrrr_1100
encode_of (STXdec r) = register_of 0x920E r  -- 1001_001r_rrrr_1110
encode_of (STXinc r) = register_of 0x920D r  -- 1001_001r_rrrr_1101
encode_of (STYdec r) = register_of 0x920A r  -- 1001_001r_rrrr_1010
encode_of (STYinc r) = register_of 0x9209 r  -- 1001_001r_rrrr_1001
encode_of (STZdec r) = register_of 0x9202 r  -- 1001_001r_rrrr_0010
encode_of (STZinc r) = register_of 0x9201 r  -- 1001_001r_rrrr_0001
encode_of (STDY q r) = displaced_of 0x8208 r q  -- 10q0_qq1r_rrrr_1qqq
encode_of (STDZ q r) = displaced_of 0x8200 r q  -- 10q0_qq1r_rrrr_0qqq
encode_of (STS k r) = data_address_of 0x9200 r k  -- 1001_001r_rrrr_0000
encode_of (SUB d r) = registers_of 0x1800 d r  -- 0001_10rd_dddd_rrrr
encode_of (SUBI d K) = constant_of 0x5000 d K  -- 0101_KKKK_dddd_KKKK
encode_of (SWAP d) = register_of 0x9402 d  -- 1001_010d_dddd_0010
encode_of WDR = bare_of 0x95A8  -- 1001_0101_1010_1000
encode_of UNDEF = refused 34  -- "34 undefined"
