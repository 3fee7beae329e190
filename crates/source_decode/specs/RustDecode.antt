-- `Instruction::decode` of cores.rs (lines 1512 to 1776), arm by arm and in its order; the number behind an arm is its line there.
-- A pattern is the Rust's text, read as `bitmatch` reads it (crate `patterns`). The letters come as numbers, `prefetch` is the word after.
-- Branch offsets are the bits of the Rust's i8 and i16: `k as i8` and `k as i16` change no bit.
use Rattle.std.specs.Prelude.{ℕ, ◌+◌, ◌*◌, ◌/◌, ◌%◌, ◌^◌, ◌<◌, List, [], ◌∷◌, ◌≡◌}
use Rattle.std.specs.Int.Bits.{bit_or}
use Rattle.instruction.specs.Decode.{decode_of}
use Rattle.instruction.specs.declared.Instruction.{Instruction}
use Rattle.instruction.specs.declared.Instruction.TheVariants.{ADC, ADD, ADIW, AND, ANDI, ASR, BCLR, BLD, BRBC, BRBS, BREAK, BSET, BST, CALL, CBI, COM, CP, CPC, CPI, CPSE, DEC, EOR, FMUL, FMULS, FMULSU, ICALL, IJMP, IN, INC, JMP, LDX, LDXinc, LDXdec, LDYinc, LDYdec, LDZinc, LDZdec, LDDY, LDDZ, LDI, LDS, LPM, LPMZ, LPMZinc, LSL, LSR, MOV, MOVW, MUL, MULS, MULSU, NEG, NOP, OR, ORI, OUT, POP, PUSH, RCALL, RET, RETI, RJMP, ROR, SBC, SBCI, SBI, SBIC, SBIS, SBIW, SBRC, SBRS, SLEEP, STX, STXdec, STXinc, STYdec, STYinc, STZdec, STZinc, STDY, STDZ, STS, SUB, SUBI, SWAP, WDR}
use Rattle.patterns.specs.Pattern.{Arm, plain, wide, on, matched}

-- `bk[i]`, as a number
abbrev pub bit : ℕ → ℕ → ℕ
bit i k = k / 2 ^ i % 2

-- `bk.set(i, b)`
abbrev pub set : ℕ → ℕ → ℕ → ℕ
set i b k = k / 2 ^ (i + 1) * 2 ^ (i + 1) + b * 2 ^ i + k % 2 ^ i

-- lines 1547 to 1550, and 1556 to 1559
abbrev pub extended7 : ℕ → ℕ
extended7 k = set 7 (bit 6 k) k

-- lines 1685 to 1691, and 1698 to 1704
abbrev pub extended12 : ℕ → ℕ
extended12 k =
    let k₁ = set 12 (bit 11 k) k in
    let k₂ = set 13 (bit 11 k₁) k₁ in
    let k₃ = set 14 (bit 11 k₂) k₂ in
    set 15 (bit 11 k₃) k₃

-- A letter's number is cast to u8, or to u32 for `k << 16`, which changes none but LSL's d of ten bits. `+ 16`, `+ 24` and `x << 1`, which is `x * 2`, are of a u8,
-- and the letter before them has at most four bits: none overflows and none is checked
unfoldable pub arms : List Arm
arms =
    on "0000_0000_0000_0000" (plain (λ x. NOP)) ∷  -- 1518
    on "0001_11rd_dddd_rrrr" (plain (λ x. ADC (x "d") (x "r"))) ∷  -- 1519
    on "0000_11rd_dddd_rrrr" (plain (λ x. ADD (x "d") (x "r"))) ∷  -- 1523
    on "1001_0110_KKdd_KKKK" (plain (λ x. ADIW (x "d" * 2 + 24) (x "K"))) ∷  -- 1527
    on "0010_00rd_dddd_rrrr" (plain (λ x. AND (x "d") (x "r"))) ∷  -- 1531
    on "0111_KKKK_dddd_KKKK" (plain (λ x. ANDI (x "d" + 16) (x "K"))) ∷  -- 1535
    on "1001_010d_dddd_0101" (plain (λ x. ASR (x "d"))) ∷  -- 1539
    on "1001_0100_1sss_1000" (plain (λ x. BCLR (x "s"))) ∷  -- 1540
    on "1111_100d_dddd_0bbb" (plain (λ x. BLD (x "d") (x "b"))) ∷  -- 1541
    on "1111_01kk_kkkk_ksss" (plain (λ x. BRBC (x "s") (extended7 (x "k")))) ∷  -- 1545
    on "1111_00kk_kkkk_ksss" (plain (λ x. BRBS (x "s") (extended7 (x "k")))) ∷  -- 1554
    on "1001_0101_1001_1000" (plain (λ x. BREAK)) ∷  -- 1563
    on "1001_0100_0sss_1000" (plain (λ x. BSET (x "s"))) ∷  -- 1564
    on "1111_101d_dddd_0bbb" (plain (λ x. BST (x "d") (x "b"))) ∷  -- 1565
    on "1001_010k_kkkk_111k" (wide (λ x prefetch. CALL (bit_or (x "k" * 2 ^ 16) prefetch))) ∷  -- 1569
    on "1001_1000_AAAA_Abbb" (plain (λ x. CBI (x "A") (x "b"))) ∷  -- 1572
    on "1001_010d_dddd_0000" (plain (λ x. COM (x "d"))) ∷  -- 1576
    on "0001_01rd_dddd_rrrr" (plain (λ x. CP (x "d") (x "r"))) ∷  -- 1577
    on "0000_01rd_dddd_rrrr" (plain (λ x. CPC (x "d") (x "r"))) ∷  -- 1581
    on "0011_KKKK_dddd_KKKK" (plain (λ x. CPI (x "d" + 16) (x "K"))) ∷  -- 1585
    on "0001_00rd_dddd_rrrr" (plain (λ x. CPSE (x "d") (x "r"))) ∷  -- 1589
    on "1001_010d_dddd_1010" (plain (λ x. DEC (x "d"))) ∷  -- 1593
    on "0010_01rd_dddd_rrrr" (plain (λ x. EOR (x "d") (x "r"))) ∷  -- 1594
    on "0000_0011_0ddd_1rrr" (plain (λ x. FMUL (x "d" + 16) (x "r" + 16))) ∷  -- 1598
    on "0000_0011_1ddd_0rrr" (plain (λ x. FMULS (x "d" + 16) (x "r" + 16))) ∷  -- 1602
    on "0000_0011_1ddd_1rrr" (plain (λ x. FMULSU (x "d" + 16) (x "r" + 16))) ∷  -- 1606
    on "1001_0101_0000_1001" (plain (λ x. ICALL)) ∷  -- 1610
    on "1001_0100_0000_1001" (plain (λ x. IJMP)) ∷  -- 1611
    on "1011_0AAd_dddd_AAAA" (plain (λ x. IN (x "d") (x "A"))) ∷  -- 1612
    on "1001_010d_dddd_0011" (plain (λ x. INC (x "d"))) ∷  -- 1616
    on "1001_010k_kkkk_110k" (wide (λ x prefetch. JMP (bit_or (x "k" * 2 ^ 16) prefetch))) ∷  -- 1617
    on "1001_000d_dddd_1100" (plain (λ x. LDX (x "d"))) ∷  -- 1620
    on "1001_000d_dddd_1101" (plain (λ x. LDXinc (x "d"))) ∷  -- 1621
    on "1001_000d_dddd_1110" (plain (λ x. LDXdec (x "d"))) ∷  -- 1622
    on "1001_000d_dddd_1001" (plain (λ x. LDYinc (x "d"))) ∷  -- 1623
    on "1001_000d_dddd_1010" (plain (λ x. LDYdec (x "d"))) ∷  -- 1624
    on "1001_000d_dddd_0001" (plain (λ x. LDZinc (x "d"))) ∷  -- 1625
    on "1001_000d_dddd_0010" (plain (λ x. LDZdec (x "d"))) ∷  -- 1626
    on "10q0_qq0d_dddd_1qqq" (plain (λ x. LDDY (x "d") (x "q"))) ∷  -- 1627
    on "10q0_qq0d_dddd_0qqq" (plain (λ x. LDDZ (x "d") (x "q"))) ∷  -- 1631
    on "1110_KKKK_dddd_KKKK" (plain (λ x. LDI (x "d" + 16) (x "K"))) ∷  -- 1635
    on "1001_000d_dddd_0000" (wide (λ x prefetch. LDS (x "d") prefetch)) ∷  -- 1639
    on "1001_0101_1100_1000" (plain (λ x. LPM)) ∷  -- 1643
    on "1001_000d_dddd_0100" (plain (λ x. LPMZ (x "d"))) ∷  -- 1644
    on "1001_000d_dddd_0101" (plain (λ x. LPMZinc (x "d"))) ∷  -- 1645
    on "0000_11dd_dddd_dddd" (plain (λ x. LSL (x "d" % 256))) ∷  -- 1646
    on "1001_010d_dddd_0110" (plain (λ x. LSR (x "d"))) ∷  -- 1647
    on "0010_11rd_dddd_rrrr" (plain (λ x. MOV (x "d") (x "r"))) ∷  -- 1648
    on "0000_0001_dddd_rrrr" (plain (λ x. MOVW (x "d" * 2) (x "r" * 2))) ∷  -- 1652
    on "1001_11rd_dddd_rrrr" (plain (λ x. MUL (x "d") (x "r"))) ∷  -- 1656
    on "0000_0010_dddd_rrrr" (plain (λ x. MULS (x "d" + 16) (x "r" + 16))) ∷  -- 1660
    on "0000_0011_0ddd_0rrr" (plain (λ x. MULSU (x "d" + 16) (x "r" + 16))) ∷  -- 1664
    on "1001_010d_dddd_0001" (plain (λ x. NEG (x "d"))) ∷  -- 1668
    on "0010_10rd_dddd_rrrr" (plain (λ x. OR (x "d") (x "r"))) ∷  -- 1669
    on "0110_KKKK_dddd_KKKK" (plain (λ x. ORI (x "d" + 16) (x "K"))) ∷  -- 1673
    on "1011_1AAr_rrrr_AAAA" (plain (λ x. OUT (x "A") (x "r"))) ∷  -- 1677
    on "1001_000d_dddd_1111" (plain (λ x. POP (x "d"))) ∷  -- 1681
    on "1001_001d_dddd_1111" (plain (λ x. PUSH (x "d"))) ∷  -- 1682
    on "1101_kkkk_kkkk_kkkk" (plain (λ x. RCALL (extended12 (x "k")))) ∷  -- 1683
    on "1001_0101_0000_1000" (plain (λ x. RET)) ∷  -- 1694
    on "1001_0101_0001_1000" (plain (λ x. RETI)) ∷  -- 1695
    on "1100_kkkk_kkkk_kkkk" (plain (λ x. RJMP (extended12 (x "k")))) ∷  -- 1696
    on "1001_010d_dddd_0111" (plain (λ x. ROR (x "d"))) ∷  -- 1707
    on "0000_10rd_dddd_rrrr" (plain (λ x. SBC (x "d") (x "r"))) ∷  -- 1708
    on "0100_KKKK_dddd_KKKK" (plain (λ x. SBCI (x "d" + 16) (x "K"))) ∷  -- 1712
    on "1001_1010_AAAA_Abbb" (plain (λ x. SBI (x "A") (x "b"))) ∷  -- 1716
    on "1001_1001_AAAA_Abbb" (plain (λ x. SBIC (x "A") (x "b"))) ∷  -- 1720
    on "1001_1011_AAAA_Abbb" (plain (λ x. SBIS (x "A") (x "b"))) ∷  -- 1724
    on "1001_0111_KKdd_KKKK" (plain (λ x. SBIW (x "d" * 2 + 24) (x "K"))) ∷  -- 1728
    on "1111_110r_rrrr_0bbb" (plain (λ x. SBRC (x "r") (x "b"))) ∷  -- 1732
    on "1111_111r_rrrr_0bbb" (plain (λ x. SBRS (x "r") (x "b"))) ∷  -- 1736
    on "1001_0101_1000_1000" (plain (λ x. SLEEP)) ∷  -- 1740
    on "1001_001r_rrrr_1100" (plain (λ x. STX (x "r"))) ∷  -- 1741
    on "1001_001r_rrrr_1110" (plain (λ x. STXdec (x "r"))) ∷  -- 1742
    on "1001_001r_rrrr_1101" (plain (λ x. STXinc (x "r"))) ∷  -- 1743
    on "1001_001r_rrrr_1010" (plain (λ x. STYdec (x "r"))) ∷  -- 1744
    on "1001_001r_rrrr_1001" (plain (λ x. STYinc (x "r"))) ∷  -- 1745
    on "1001_001r_rrrr_0010" (plain (λ x. STZdec (x "r"))) ∷  -- 1746
    on "1001_001r_rrrr_0001" (plain (λ x. STZinc (x "r"))) ∷  -- 1747
    on "10q0_qq1r_rrrr_1qqq" (plain (λ x. STDY (x "q") (x "r"))) ∷  -- 1748
    on "10q0_qq1r_rrrr_0qqq" (plain (λ x. STDZ (x "q") (x "r"))) ∷  -- 1752
    on "1001_001r_rrrr_0000" (wide (λ x prefetch. STS prefetch (x "r"))) ∷  -- 1756
    on "0001_10rd_dddd_rrrr" (plain (λ x. SUB (x "d") (x "r"))) ∷  -- 1760
    on "0101_KKKK_dddd_KKKK" (plain (λ x. SUBI (x "d" + 16) (x "K"))) ∷  -- 1764
    on "1001_010d_dddd_0010" (plain (λ x. SWAP (x "d"))) ∷  -- 1768
    on "1001_0101_1010_1000" (plain (λ x. WDR)) ∷  -- 1769
    []  -- `_ => UNDEF`, line 1770

unfoldable pub rust_decode : ℕ → ℕ → Instruction
rust_decode opcode prefetch = matched arms opcode prefetch

-- ---- the theorem, proved in proofs/Decodes.antt
-- for every word and every word after it, the port's decode is the Rust's
abbrev pub DecodesAsTheRust : Type 0
DecodesAsTheRust = (w s : ℕ) → w < 65536 → s < 65536 → rust_decode w s ≡ decode_of w s
