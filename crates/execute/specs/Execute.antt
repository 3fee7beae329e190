-- What each instruction does, of a core whose PC is behind its first word: the handler that 01 gives it, and the answer.
use Rattle.std.specs.Prelude.{ℕ, ◌+◌, true, false, List, [], ◌∷◌, ◌==◌}
use Rattle.basis.specs.Pick.{pick}
use Rattle.instruction.specs.Code.{one_of}
use Rattle.instruction.specs.declared.Instruction.{Instruction}
use Rattle.instruction.specs.declared.Instruction.TheVariants.{ADC, ADD, ADIW, AND, ANDI, ASR, BCLR, BLD, BRBC, BRBS, BREAK, BSET, BST, CALL, CBI, COM, CP, CPC, CPI, CPSE, DEC, EOR, FMUL, FMULS, FMULSU, ICALL, IJMP, IN, INC, JMP, LDX, LDXinc, LDXdec, LDYinc, LDYdec, LDZinc, LDZdec, LDDY, LDDZ, LDI, LDS, LPM, LPMZ, LPMZinc, LSL, LSR, MOV, MOVW, MUL, MULS, MULSU, NEG, NOP, OR, ORI, OUT, POP, PUSH, RCALL, RET, RETI, RJMP, ROR, SBC, SBCI, SBI, SBIC, SBIS, SBIW, SBRC, SBRS, SLEEP, STX, STXdec, STXinc, STYdec, STYinc, STZdec, STZinc, STDY, STDZ, STS, SUB, SUBI, SWAP, WDR, UNDEF}
use Rattle.memory.specs.Memory.{bit_set_of}
use Rattle.cores.specs.declared.Core.{Core}
use Rattle.cores.specs.State.{Out, out, reg, word, with_reg, with_word, with_pc, with_inhibit}
use Rattle.cores.specs.Arithmetic.{adc_of, add_of, adiw_of, and_of, com_of, dec_of, eor_of, fmul_of, fmuls_of, fmulsu_of, inc_of, mul_of, muls_of, mulsu_of, neg_of, or_of, sbc_of, sbiw_of, sub_of}
use Rattle.cores.specs.Flow.{over_second, brbx_of, call_of, cp_of, cpc_of, cpse_of, icall_of, ijmp_of, jmp_of, rcall_of, ret_of, reti_of, rjmp_of, sbix_of, sbrx_of}
use Rattle.cores.specs.Bits.{asr_of, bclr_of, bld_of, bset_of, bst_of, lsr_of, ror_of, swap_of}
use Rattle.cores.specs.Transfer.{set_data_of, in_of, ld_of, st_of, lds_of, lpm_of, pop_of, push_of, sts_of}
use Rattle.execute.specs.declared.Done.{Done}
use Rattle.execute.specs.declared.Done.TheVariants.{Ran, Sleep, Watchdog, Undefined, Break}

-- 01, step 5: "add 1 to PC", with inhibit clear: the core that the instruction at PC is executed on. From 65,535, where no tick executes, PC goes to 0
unfoldable pub behind : Core → Core
behind k = with_pc (with_inhibit k false) (pick (k.pc == 65535) 0 (k.pc + 1))

-- what an executed instruction gives: no refusal is among it
pub record Executed : Type 0 where
  pub done : Done
  pub core : Core
  pub bytes : List ℕ

-- its core and its bytes alone
abbrev pub effect_of : Executed → Out
effect_of e = out e.core e.bytes

abbrev pub did : Done → Core → List ℕ → Executed
did a k m = record { done = a; core = k; bytes = m }

abbrev pub ran : Core → List ℕ → Executed
ran k m = did Ran k m

abbrev pub ran_out : Out → Executed
ran_out o = did Ran o.core o.bytes

-- program p, data m. "19 20 21 sleep, watchdog, undefined: executed as a no-op"; LSL is never decoded
module _ (decode : ℕ → ℕ → Instruction) where
  abbrev pub executed : Core → Instruction → List ℕ → List ℕ → Executed
  executed k (ADC d r) p m = ran (adc_of k d r) m
  executed k (ADD d r) p m = ran (add_of k d r) m
  executed k (ADIW d K) p m = ran (adiw_of k d K) m
  executed k (AND d r) p m = ran (and_of k d (reg k r)) m
  executed k (ANDI d K) p m = ran (and_of k d K) m
  executed k (ASR d) p m = ran (asr_of k d) m
  executed k (BCLR s) p m = ran (bclr_of k s) m
  executed k (BLD d b) p m = ran (bld_of k d b) m
  executed k (BRBC s t) p m = ran (brbx_of k s t false) m
  executed k (BRBS s t) p m = ran (brbx_of k s t true) m
  executed k BREAK p m = did Break k m
  executed k (BSET s) p m = ran (bset_of k s) m
  executed k (BST d b) p m = ran (bst_of k d b) m
  executed k (CALL t) p m = ran_out (call_of k t m)
  executed k (CBI A b) p m = ran k (bit_set_of m A b false)
  executed k (COM d) p m = ran (com_of k d) m
  executed k (CP d r) p m = ran (cp_of k d (reg k r)) m
  executed k (CPC d r) p m = ran (cpc_of k d (reg k r)) m
  executed k (CPI d K) p m = ran (cp_of k d K) m
  executed k (CPSE d r) p m = ran (cpse_of decode k d r p) m
  executed k (DEC d) p m = ran (dec_of k d) m
  executed k (EOR d r) p m = ran (eor_of k d (reg k r)) m
  executed k (FMUL d r) p m = ran (fmul_of k d r) m
  executed k (FMULS d r) p m = ran (fmuls_of k d r) m
  executed k (FMULSU d r) p m = ran (fmulsu_of k d r) m
  executed k ICALL p m = ran_out (icall_of k m)
  executed k IJMP p m = ran (ijmp_of k) m
  executed k (IN d A) p m = ran (in_of k d A m) m
  executed k (INC d) p m = ran (inc_of k d) m
  executed k (JMP t) p m = ran (jmp_of k t) m
  executed k (LDX d) p m = ran (ld_of k d 26 0 false false m) m
  executed k (LDXinc d) p m = ran (ld_of k d 26 0 false true m) m
  executed k (LDXdec d) p m = ran (ld_of k d 26 0 true false m) m
  executed k (LDYinc d) p m = ran (ld_of k d 28 0 false true m) m
  executed k (LDYdec d) p m = ran (ld_of k d 28 0 true false m) m
  executed k (LDZinc d) p m = ran (ld_of k d 30 0 false true m) m
  executed k (LDZdec d) p m = ran (ld_of k d 30 0 true false m) m
  executed k (LDDY d q) p m = ran (ld_of k d 28 q false false m) m
  executed k (LDDZ d q) p m = ran (ld_of k d 30 q false false m) m
  executed k (LDI d K) p m = ran (with_reg k d K) m
  executed k (LDS d at) p m = ran (over_second (lds_of k d at m)) m
  executed k LPM p m = ran (lpm_of k 0 false p) m
  executed k (LPMZ d) p m = ran (lpm_of k d false p) m
  executed k (LPMZinc d) p m = ran (lpm_of k d true p) m
  executed k (LSL d) p m = ran (add_of k d d) m
  executed k (LSR d) p m = ran (lsr_of k d) m
  executed k (MOV d r) p m = ran (with_reg k d (reg k r)) m
  executed k (MOVW d r) p m = ran (with_word k d (word k r)) m
  executed k (MUL d r) p m = ran (mul_of k d r) m
  executed k (MULS d r) p m = ran (muls_of k d r) m
  executed k (MULSU d r) p m = ran (mulsu_of k d r) m
  executed k (NEG d) p m = ran (neg_of k d) m
  executed k NOP p m = ran k m
  executed k (OR d r) p m = ran (or_of k d (reg k r)) m
  executed k (ORI d K) p m = ran (or_of k d K) m
  executed k (OUT A r) p m = ran_out (set_data_of k A (reg k r) m)
  executed k (POP d) p m = ran (pop_of k d m) m
  executed k (PUSH d) p m = ran_out (push_of k d m)
  executed k (RCALL t) p m = ran_out (rcall_of k t m)
  executed k RET p m = ran (ret_of k m) m
  executed k RETI p m = ran (reti_of k m) m
  executed k (RJMP t) p m = ran (rjmp_of k t) m
  executed k (ROR d) p m = ran (ror_of k d) m
  executed k (SBC d r) p m = ran (sbc_of k d (reg k r)) m
  executed k (SBCI d K) p m = ran (sbc_of k d K) m
  executed k (SBI A b) p m = ran k (bit_set_of m A b true)
  executed k (SBIC A b) p m = ran (sbix_of decode k A b false p m) m
  executed k (SBIS A b) p m = ran (sbix_of decode k A b true p m) m
  executed k (SBIW d K) p m = ran (sbiw_of k d K) m
  executed k (SBRC r b) p m = ran (sbrx_of decode k r b false p) m
  executed k (SBRS r b) p m = ran (sbrx_of decode k r b true p) m
  executed k SLEEP p m = did Sleep k m
  executed k (STX r) p m = ran_out (st_of k r 26 0 false false m)
  executed k (STXdec r) p m = ran_out (st_of k r 26 0 true false m)
  executed k (STXinc r) p m = ran_out (st_of k r 26 0 false true m)
  executed k (STYdec r) p m = ran_out (st_of k r 28 0 true false m)
  executed k (STYinc r) p m = ran_out (st_of k r 28 0 false true m)
  executed k (STZdec r) p m = ran_out (st_of k r 30 0 true false m)
  executed k (STZinc r) p m = ran_out (st_of k r 30 0 false true m)
  executed k (STDY q r) p m = ran_out (st_of k r 28 q false false m)
  executed k (STDZ q r) p m = ran_out (st_of k r 30 q false false m)
  executed k (STS at r) p m = ran_out (let o = sts_of k r at m in out (over_second o.core) o.bytes)
  executed k (SUB d r) p m = ran (sub_of k d (reg k r)) m
  executed k (SUBI d K) p m = ran (sub_of k d K) m
  executed k (SWAP d) p m = ran (swap_of k d) m
  executed k WDR p m = did Watchdog k m
  executed k UNDEF p m = did Undefined k m

-- what it answers, whatever core, program and data are: "sleep, watchdog, undefined", "break", and ran for all others
abbrev pub done_of : Instruction → Done
done_of i =
    pick (one_of (SLEEP ∷ []) i) Sleep
    (pick (one_of (WDR ∷ []) i) Watchdog
    (pick (one_of (UNDEF ∷ []) i) Undefined
    (pick (one_of (BREAK ∷ []) i) Break Ran)))
