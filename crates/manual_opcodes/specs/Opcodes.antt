-- The 16-bit opcodes, and the first words of the 32-bit ones, as the AVR Instruction Set Manual writes them, in its order.
-- A pattern is read as crate `patterns` says. `second` is the word after. The manual's Rd of two words, "d ∈ {24,26,28,30}" and "16 ≤ d ≤ 31", are spelled out.
-- Its aliases (LSL, ROL, TST, CLR, SER, SBR, CBR, SEC .., BREQ ..) share the opcode of the instruction they stand for, and have no line of their own.
use Rattle.std.specs.Prelude.{ℕ, ◌+◌, ◌*◌, ◌/◌, ◌<◌, List, [], ◌∷◌, ◌≡◌}
use Rattle.instruction.specs.Decode.{decode_of}
use Rattle.instruction.specs.declared.Instruction.{Instruction}
use Rattle.instruction.specs.declared.Instruction.TheVariants.{ADC, ADD, ADIW, AND, ANDI, ASR, BCLR, BLD, BRBC, BRBS, BREAK, BSET, BST, CALL, CBI, COM, CP, CPC, CPI, CPSE, DEC, EOR, FMUL, FMULS, FMULSU, ICALL, IJMP, IN, INC, JMP, LDX, LDXinc, LDXdec, LDYinc, LDYdec, LDZinc, LDZdec, LDDY, LDDZ, LDI, LDS, LPM, LPMZ, LPMZinc, LSR, MOV, MOVW, MUL, MULS, MULSU, NEG, NOP, OR, ORI, OUT, POP, PUSH, RCALL, RET, RETI, RJMP, ROR, SBC, SBCI, SBI, SBIC, SBIS, SBIW, SBRC, SBRS, SLEEP, STX, STXdec, STXinc, STYdec, STYinc, STZdec, STZinc, STDY, STDZ, STS, SUB, SUBI, SWAP, WDR, UNDEF}
use Rattle.patterns.specs.Pattern.{Arm, plain, wide, on, matched}

-- an offset of 7 bits in two's complement, as a byte; one of 12 bits, as a word
abbrev pub offset7 : ℕ → ℕ
offset7 k = k + k / 64 * 128

abbrev pub offset12 : ℕ → ℕ
offset12 k = k + k / 2048 * 61440

-- instructions that 01's core lacks are UNDEF here, by name
unfoldable pub arms : List Arm
arms =
    on "0001_11rd_dddd_rrrr" (plain (λ x. ADC (x "d") (x "r"))) ∷
    on "0000_11rd_dddd_rrrr" (plain (λ x. ADD (x "d") (x "r"))) ∷
    on "1001_0110_KKdd_KKKK" (plain (λ x. ADIW (x "d" * 2 + 24) (x "K"))) ∷
    on "0010_00rd_dddd_rrrr" (plain (λ x. AND (x "d") (x "r"))) ∷
    on "0111_KKKK_dddd_KKKK" (plain (λ x. ANDI (x "d" + 16) (x "K"))) ∷
    on "1001_010d_dddd_0101" (plain (λ x. ASR (x "d"))) ∷
    on "1001_0100_1sss_1000" (plain (λ x. BCLR (x "s"))) ∷
    on "1111_100d_dddd_0bbb" (plain (λ x. BLD (x "d") (x "b"))) ∷
    on "1111_01kk_kkkk_ksss" (plain (λ x. BRBC (x "s") (offset7 (x "k")))) ∷
    on "1111_00kk_kkkk_ksss" (plain (λ x. BRBS (x "s") (offset7 (x "k")))) ∷
    on "1001_0101_1001_1000" (plain (λ x. BREAK)) ∷
    on "1001_0100_0sss_1000" (plain (λ x. BSET (x "s"))) ∷
    on "1111_101d_dddd_0bbb" (plain (λ x. BST (x "d") (x "b"))) ∷
    on "1001_010k_kkkk_111k" (wide (λ x second. CALL (x "k" * 65536 + second))) ∷
    on "1001_1000_AAAA_Abbb" (plain (λ x. CBI (x "A") (x "b"))) ∷
    on "1001_010d_dddd_0000" (plain (λ x. COM (x "d"))) ∷
    on "0001_01rd_dddd_rrrr" (plain (λ x. CP (x "d") (x "r"))) ∷
    on "0000_01rd_dddd_rrrr" (plain (λ x. CPC (x "d") (x "r"))) ∷
    on "0011_KKKK_dddd_KKKK" (plain (λ x. CPI (x "d" + 16) (x "K"))) ∷
    on "0001_00rd_dddd_rrrr" (plain (λ x. CPSE (x "d") (x "r"))) ∷
    on "1001_010d_dddd_1010" (plain (λ x. DEC (x "d"))) ∷
    on "1001_0100_KKKK_1011" (plain (λ x. UNDEF)) ∷  -- DES
    on "1001_0101_0001_1001" (plain (λ x. UNDEF)) ∷  -- EICALL
    on "1001_0100_0001_1001" (plain (λ x. UNDEF)) ∷  -- EIJMP
    on "1001_0101_1101_1000" (plain (λ x. UNDEF)) ∷  -- ELPM
    on "1001_000d_dddd_0110" (plain (λ x. UNDEF)) ∷  -- ELPM Rd, Z
    on "1001_000d_dddd_0111" (plain (λ x. UNDEF)) ∷  -- ELPM Rd, Z+
    on "0010_01rd_dddd_rrrr" (plain (λ x. EOR (x "d") (x "r"))) ∷
    on "0000_0011_0ddd_1rrr" (plain (λ x. FMUL (x "d" + 16) (x "r" + 16))) ∷
    on "0000_0011_1ddd_0rrr" (plain (λ x. FMULS (x "d" + 16) (x "r" + 16))) ∷
    on "0000_0011_1ddd_1rrr" (plain (λ x. FMULSU (x "d" + 16) (x "r" + 16))) ∷
    on "1001_0101_0000_1001" (plain (λ x. ICALL)) ∷
    on "1001_0100_0000_1001" (plain (λ x. IJMP)) ∷
    on "1011_0AAd_dddd_AAAA" (plain (λ x. IN (x "d") (x "A"))) ∷
    on "1001_010d_dddd_0011" (plain (λ x. INC (x "d"))) ∷
    on "1001_010k_kkkk_110k" (wide (λ x second. JMP (x "k" * 65536 + second))) ∷
    on "1001_001r_rrrr_0110" (plain (λ x. UNDEF)) ∷  -- LAC
    on "1001_001r_rrrr_0101" (plain (λ x. UNDEF)) ∷  -- LAS
    on "1001_001r_rrrr_0111" (plain (λ x. UNDEF)) ∷  -- LAT
    on "1001_000d_dddd_1100" (plain (λ x. LDX (x "d"))) ∷
    on "1001_000d_dddd_1101" (plain (λ x. LDXinc (x "d"))) ∷
    on "1001_000d_dddd_1110" (plain (λ x. LDXdec (x "d"))) ∷
    on "1000_000d_dddd_1000" (plain (λ x. LDDY (x "d") 0)) ∷
    on "1001_000d_dddd_1001" (plain (λ x. LDYinc (x "d"))) ∷
    on "1001_000d_dddd_1010" (plain (λ x. LDYdec (x "d"))) ∷
    on "10q0_qq0d_dddd_1qqq" (plain (λ x. LDDY (x "d") (x "q"))) ∷
    on "1000_000d_dddd_0000" (plain (λ x. LDDZ (x "d") 0)) ∷
    on "1001_000d_dddd_0001" (plain (λ x. LDZinc (x "d"))) ∷
    on "1001_000d_dddd_0010" (plain (λ x. LDZdec (x "d"))) ∷
    on "10q0_qq0d_dddd_0qqq" (plain (λ x. LDDZ (x "d") (x "q"))) ∷
    on "1110_KKKK_dddd_KKKK" (plain (λ x. LDI (x "d" + 16) (x "K"))) ∷
    on "1001_000d_dddd_0000" (wide (λ x second. LDS (x "d") second)) ∷
    on "1001_0101_1100_1000" (plain (λ x. LPM)) ∷
    on "1001_000d_dddd_0100" (plain (λ x. LPMZ (x "d"))) ∷
    on "1001_000d_dddd_0101" (plain (λ x. LPMZinc (x "d"))) ∷
    on "1001_010d_dddd_0110" (plain (λ x. LSR (x "d"))) ∷
    on "0010_11rd_dddd_rrrr" (plain (λ x. MOV (x "d") (x "r"))) ∷
    on "0000_0001_dddd_rrrr" (plain (λ x. MOVW (x "d" * 2) (x "r" * 2))) ∷
    on "1001_11rd_dddd_rrrr" (plain (λ x. MUL (x "d") (x "r"))) ∷
    on "0000_0010_dddd_rrrr" (plain (λ x. MULS (x "d" + 16) (x "r" + 16))) ∷
    on "0000_0011_0ddd_0rrr" (plain (λ x. MULSU (x "d" + 16) (x "r" + 16))) ∷
    on "1001_010d_dddd_0001" (plain (λ x. NEG (x "d"))) ∷
    on "0000_0000_0000_0000" (plain (λ x. NOP)) ∷
    on "0010_10rd_dddd_rrrr" (plain (λ x. OR (x "d") (x "r"))) ∷
    on "0110_KKKK_dddd_KKKK" (plain (λ x. ORI (x "d" + 16) (x "K"))) ∷
    on "1011_1AAr_rrrr_AAAA" (plain (λ x. OUT (x "A") (x "r"))) ∷
    on "1001_000d_dddd_1111" (plain (λ x. POP (x "d"))) ∷
    on "1001_001d_dddd_1111" (plain (λ x. PUSH (x "d"))) ∷
    on "1101_kkkk_kkkk_kkkk" (plain (λ x. RCALL (offset12 (x "k")))) ∷
    on "1001_0101_0000_1000" (plain (λ x. RET)) ∷
    on "1001_0101_0001_1000" (plain (λ x. RETI)) ∷
    on "1100_kkkk_kkkk_kkkk" (plain (λ x. RJMP (offset12 (x "k")))) ∷
    on "1001_010d_dddd_0111" (plain (λ x. ROR (x "d"))) ∷
    on "0000_10rd_dddd_rrrr" (plain (λ x. SBC (x "d") (x "r"))) ∷
    on "0100_KKKK_dddd_KKKK" (plain (λ x. SBCI (x "d" + 16) (x "K"))) ∷
    on "1001_1010_AAAA_Abbb" (plain (λ x. SBI (x "A") (x "b"))) ∷
    on "1001_1001_AAAA_Abbb" (plain (λ x. SBIC (x "A") (x "b"))) ∷
    on "1001_1011_AAAA_Abbb" (plain (λ x. SBIS (x "A") (x "b"))) ∷
    on "1001_0111_KKdd_KKKK" (plain (λ x. SBIW (x "d" * 2 + 24) (x "K"))) ∷
    on "1111_110r_rrrr_0bbb" (plain (λ x. SBRC (x "r") (x "b"))) ∷
    on "1111_111r_rrrr_0bbb" (plain (λ x. SBRS (x "r") (x "b"))) ∷
    on "1001_0101_1000_1000" (plain (λ x. SLEEP)) ∷
    on "1001_0101_1110_1000" (plain (λ x. UNDEF)) ∷  -- SPM
    on "1001_0101_1111_1000" (plain (λ x. UNDEF)) ∷  -- SPM Z+
    on "1001_001r_rrrr_1100" (plain (λ x. STX (x "r"))) ∷
    on "1001_001r_rrrr_1101" (plain (λ x. STXinc (x "r"))) ∷
    on "1001_001r_rrrr_1110" (plain (λ x. STXdec (x "r"))) ∷
    on "1000_001r_rrrr_1000" (plain (λ x. STDY 0 (x "r"))) ∷
    on "1001_001r_rrrr_1001" (plain (λ x. STYinc (x "r"))) ∷
    on "1001_001r_rrrr_1010" (plain (λ x. STYdec (x "r"))) ∷
    on "10q0_qq1r_rrrr_1qqq" (plain (λ x. STDY (x "q") (x "r"))) ∷
    on "1000_001r_rrrr_0000" (plain (λ x. STDZ 0 (x "r"))) ∷
    on "1001_001r_rrrr_0001" (plain (λ x. STZinc (x "r"))) ∷
    on "1001_001r_rrrr_0010" (plain (λ x. STZdec (x "r"))) ∷
    on "10q0_qq1r_rrrr_0qqq" (plain (λ x. STDZ (x "q") (x "r"))) ∷
    on "1001_001d_dddd_0000" (wide (λ x second. STS second (x "d"))) ∷
    on "0001_10rd_dddd_rrrr" (plain (λ x. SUB (x "d") (x "r"))) ∷
    on "0101_KKKK_dddd_KKKK" (plain (λ x. SUBI (x "d" + 16) (x "K"))) ∷
    on "1001_010d_dddd_0010" (plain (λ x. SWAP (x "d"))) ∷
    on "1001_0101_1010_1000" (plain (λ x. WDR)) ∷
    on "1001_001r_rrrr_0100" (plain (λ x. UNDEF)) ∷  -- XCH
    []

unfoldable pub manual_decode : ℕ → ℕ → Instruction
manual_decode w second = matched arms w second

-- ---- the theorem, proved in proofs/Decodes.antt
-- for every word and every word after it, the port's decode reads what the manual's opcodes say
abbrev pub DecodesAsTheManual : Type 0
DecodesAsTheManual = (w s : ℕ) → w < 65536 → s < 65536 → manual_decode w s ≡ decode_of w s
