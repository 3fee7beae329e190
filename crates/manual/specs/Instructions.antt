-- The manual's instruction: its page, for each. LSL is ADD Rd,Rd, and has no opcode of its own.
use Rattle.std.specs.Prelude.{Bool, List, ℕ}
use Rattle.instruction.specs.declared.Instruction.{Instruction}
use Rattle.instruction.specs.declared.Instruction.TheVariants.{ADC, ADD, ADIW, AND, ANDI, ASR, BCLR, BLD, BRBC, BRBS, BREAK, BSET, BST, CALL, CBI, COM, CP, CPC, CPI, CPSE, DEC, EOR, FMUL, FMULS, FMULSU, ICALL, IJMP, IN, INC, JMP, LDX, LDXinc, LDXdec, LDYinc, LDYdec, LDZinc, LDZdec, LDDY, LDDZ, LDI, LDS, LPM, LPMZ, LPMZinc, LSL, LSR, MOV, MOVW, MUL, MULS, MULSU, NEG, NOP, OR, ORI, OUT, POP, PUSH, RCALL, RET, RETI, RJMP, ROR, SBC, SBCI, SBI, SBIC, SBIS, SBIW, SBRC, SBRS, SLEEP, STX, STXdec, STXinc, STYdec, STYinc, STZdec, STZinc, STDY, STDZ, STS, SUB, SUBI, SWAP, WDR, UNDEF}
use Rattle.cores.specs.declared.Core.{Core}
use Rattle.tick.specs.declared.Answer.TheVariants.{Undefined}
use Rattle.manual.specs.Notation.{next}
use Rattle.manual.specs.Switches.{Switches, unknown, Says, says, ran, ran_out, defined_if}
use Rattle.manual.specs.AdcToCpse.{adc, add, adiw, and, andi, asr, bclr, bld, brbc, brbs, break, bset, bst, call, cbi, «com», cp, cpc, cpi, cpse}
use Rattle.manual.specs.DecToLsr.{dec, eor, fmul, fmuls, fmulsu, icall, ijmp, in_, inc, jmp, ld_x, ld_x_inc, ld_x_dec, ld_y_inc, ld_y_dec, ldd_y, ld_z_inc, ld_z_dec, ldd_z, ldi, lds, lpm, lpm_inc, lsr}
use Rattle.manual.specs.MovToRor.{mov, movw, mul, muls, mulsu, neg, nop, or, ori, out_, pop, push, rcall, ret, reti, rjmp, ror}
use Rattle.manual.specs.SbcToWdr.{sbc, sbci, sbi, sbic, sbis, sbiw, sbrc, sbrs, sleep, st_x, st_x_inc, st_x_dec, st_y_inc, st_y_dec, std_y, st_z_inc, st_z_dec, std_z, sts, sub, subi, swap, wdr}

-- core k, program p, data m; two: the instruction after this one is of two words, which the skips look at. A word that 01's decode doesn't know has no page here
abbrev pub instruction : Switches → Bool → Core → Instruction → List ℕ → List ℕ → Says
instruction s two k (ADC d r) p m = ran (adc k d r) m
instruction s two k (ADD d r) p m = ran (add k d r) m
instruction s two k (ADIW d K) p m = ran (adiw s k d K) m
instruction s two k (AND d r) p m = ran (and k d r) m
instruction s two k (ANDI d K) p m = ran (andi k d K) m
instruction s two k (ASR d) p m = ran (asr k d) m
instruction s two k (BCLR b) p m = ran (bclr k b) m
instruction s two k (BLD d b) p m = ran (bld k d b) m
instruction s two k (BRBC b o) p m = ran (brbc k b o) m
instruction s two k (BRBS b o) p m = ran (brbs k b o) m
instruction s two k BREAK p m = break s k m
instruction s two k (BSET b) p m = ran (bset s k b) m
instruction s two k (BST d b) p m = ran (bst k d b) m
instruction s two k (CALL t) p m = ran_out (call s k t m)
instruction s two k (CBI A b) p m = ran_out (cbi k A b m)
instruction s two k (COM d) p m = ran («com» k d) m
instruction s two k (CP d r) p m = ran (cp k d r) m
instruction s two k (CPC d r) p m = ran (cpc k d r) m
instruction s two k (CPI d K) p m = ran (cpi k d K) m
instruction s two k (CPSE d r) p m = ran (cpse k d r two) m
instruction s two k (DEC d) p m = ran (dec k d) m
instruction s two k (EOR d r) p m = ran (eor k d r) m
instruction s two k (FMUL d r) p m = ran (fmul k d r) m
instruction s two k (FMULS d r) p m = ran (fmuls k d r) m
instruction s two k (FMULSU d r) p m = ran (fmulsu k d r) m
instruction s two k ICALL p m = ran_out (icall k m)
instruction s two k IJMP p m = ran (ijmp k) m
instruction s two k (IN d A) p m = ran (in_ k d A m) m
instruction s two k (INC d) p m = ran (inc k d) m
instruction s two k (JMP t) p m = ran (jmp s k t) m
instruction s two k (LDX d) p m = ld_x s k d m
instruction s two k (LDXinc d) p m = ld_x_inc s k d m
instruction s two k (LDXdec d) p m = ld_x_dec s k d m
instruction s two k (LDYinc d) p m = ld_y_inc s k d m
instruction s two k (LDYdec d) p m = ld_y_dec s k d m
instruction s two k (LDZinc d) p m = ld_z_inc s k d m
instruction s two k (LDZdec d) p m = ld_z_dec s k d m
instruction s two k (LDDY d q) p m = ldd_y s k d q m
instruction s two k (LDDZ d q) p m = ldd_z s k d q m
instruction s two k (LDI d K) p m = ran (ldi k d K) m
instruction s two k (LDS d a) p m = ran (lds k d a m) m
instruction s two k LPM p m = ran (lpm k 0 p) m
instruction s two k (LPMZ d) p m = ran (lpm k d p) m
instruction s two k (LPMZinc d) p m = lpm_inc s k d p m
instruction s two k (LSL d) p m = ran (add k d d) m
instruction s two k (LSR d) p m = ran (lsr k d) m
instruction s two k (MOV d r) p m = ran (mov k d r) m
instruction s two k (MOVW d r) p m = ran (movw k d r) m
instruction s two k (MUL d r) p m = ran (mul k d r) m
instruction s two k (MULS d r) p m = ran (muls k d r) m
instruction s two k (MULSU d r) p m = ran (mulsu k d r) m
instruction s two k (NEG d) p m = ran (neg k d) m
instruction s two k NOP p m = ran (nop k) m
instruction s two k (OR d r) p m = ran (or k d r) m
instruction s two k (ORI d K) p m = ran (ori k d K) m
instruction s two k (OUT A r) p m = ran_out (out_ k A r m)
instruction s two k (POP d) p m = ran (pop k d m) m
instruction s two k (PUSH r) p m = ran_out (push k r m)
instruction s two k (RCALL o) p m = ran_out (rcall k o m)
instruction s two k RET p m = ran (ret k m) m
instruction s two k RETI p m = ran (reti k m) m
instruction s two k (RJMP o) p m = ran (rjmp k o) m
instruction s two k (ROR d) p m = ran (ror k d) m
instruction s two k (SBC d r) p m = ran (sbc k d r) m
instruction s two k (SBCI d K) p m = ran (sbci k d K) m
instruction s two k (SBI A b) p m = ran_out (sbi k A b m)
instruction s two k (SBIC A b) p m = ran (sbic k A b two m) m
instruction s two k (SBIS A b) p m = ran (sbis k A b two m) m
instruction s two k (SBIW d K) p m = ran (sbiw k d K) m
instruction s two k (SBRC r b) p m = ran (sbrc k r b two) m
instruction s two k (SBRS r b) p m = ran (sbrs k r b two) m
instruction s two k SLEEP p m = sleep s k m
instruction s two k (STX r) p m = st_x s k r m
instruction s two k (STXdec r) p m = st_x_dec s k r m
instruction s two k (STXinc r) p m = st_x_inc s k r m
instruction s two k (STYdec r) p m = st_y_dec s k r m
instruction s two k (STYinc r) p m = st_y_inc s k r m
instruction s two k (STZdec r) p m = st_z_dec s k r m
instruction s two k (STZinc r) p m = st_z_inc s k r m
instruction s two k (STDY q r) p m = std_y s k q r m
instruction s two k (STDZ q r) p m = std_z s k q r m
instruction s two k (STS a r) p m = ran_out (sts k a r m)
instruction s two k (SUB d r) p m = ran (sub k d r) m
instruction s two k (SUBI d K) p m = ran (subi k d K) m
instruction s two k (SWAP d) p m = ran (swap k d) m
instruction s two k WDR p m = wdr s k m
instruction s two k UNDEF p m = defined_if (s unknown) (says Undefined (next k 1 1) m)
