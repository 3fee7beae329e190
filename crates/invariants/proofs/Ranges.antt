-- Every instruction leaves a core by its types and data in range.
-- Assumes nothing.
use mathlib.Core.Path.{refl}
use mathlib.Core.Bool.{true, false}
use mathlib.Core.List.{List}
use Prim.Native.Nat.{ℕ}
use native.Mathlib.Omega.{arith}
use Rattle.basis.proofs.Bits.{put_lt}
use Rattle.basis.specs.Bytes.{Bytes}
use Rattle.alu.specs.Alu.{negative}
use Rattle.instruction.specs.declared.Instruction.{Instruction}
use Rattle.instruction.specs.declared.Instruction.TheVariants.{ADC, ADD, ADIW, AND, ANDI, ASR, BCLR, BLD, BRBC, BRBS, BREAK, BSET, BST, CALL, CBI, COM, CP, CPC, CPI, CPSE, DEC, EOR, FMUL, FMULS, FMULSU, ICALL, IJMP, IN, INC, JMP, LDX, LDXinc, LDXdec, LDYinc, LDYdec, LDZinc, LDZdec, LDDY, LDDZ, LDI, LDS, LPM, LPMZ, LPMZinc, LSL, LSR, MOV, MOVW, MUL, MULS, MULSU, NEG, NOP, OR, ORI, OUT, POP, PUSH, RCALL, RET, RETI, RJMP, ROR, SBC, SBCI, SBI, SBIC, SBIS, SBIW, SBRC, SBRS, SLEEP, STX, STXdec, STXinc, STYdec, STYinc, STZdec, STZinc, STDY, STDZ, STS, SUB, SUBI, SWAP, WDR, UNDEF}
use Rattle.cores.specs.declared.Core.{Core}
use Rattle.cores.specs.State.{reg, flag, with_reg, with_sreg}
use Rattle.execute.specs.Execute.{executed}
use Rattle.invariants.specs.Instructions.{ByteOperand, InstructionsStayInRange}
use Rattle.invariants.proofs.Bounds.{cznvs_lt, cznvsh_lt, plus_lt, minus_lt, and_byte, or_byte, xor_byte}
use Rattle.invariants.proofs.Fits.{Fits, fits_of, sound_of, fits_reg, fits_sreg, fits_inhibit, fits_word, reg_word_lt}
use Rattle.invariants.proofs.Handlers.{OutFits, unstored, stored, fits_summed, fits_resulted, fits_shifted, fits_flagged_word, fits_multiplied, fits_fractional, fits_jumped, fits_branch, fits_skip, fits_lpm, data_lt, set_data_leaves, fits_ret, fits_reti, fits_lds, fits_ld, fits_pop, st_leaves, sts_leaves, push_leaves, called_leaves}
use Rattle.invariants.proofs.Waits.{instructions_wait_at_most_3}

-- ---- the table
leaves : (decode : ℕ → ℕ → Instruction) (op : Instruction) (k : Core) (p m : List ℕ) → ByteOperand op → Fits k → Bytes p → Bytes m
    → OutFits (executed decode k op p m).core (executed decode k op p m).bytes m
leaves decode (ADC d r) k p m i f bp bm = unstored bm (fits_summed k f d _ _ (plus_lt _ _ _))
leaves decode (ADD d r) k p m i f bp bm = unstored bm (fits_summed k f d _ _ (plus_lt _ _ _))
leaves decode (ADIW d K) k p m i f bp bm = unstored bm (fits_flagged_word k f d _ _ (omega arith) (cznvs_lt k.sreg f.sreg_lt _ _ _ _))
leaves decode (AND d r) k p m i f bp bm = unstored bm (fits_resulted k f d _ false (and_byte _ _ (f.reg_lt d)))
leaves decode (ANDI d K) k p m i f bp bm = unstored bm (fits_resulted k f d _ false (and_byte _ _ (f.reg_lt d)))
leaves decode (ASR d) k p m i f bp bm = unstored bm (fits_shifted k f d (negative (reg k d)))
leaves decode (BCLR s) k p m i f bp bm = unstored bm (fits_sreg k f _ (put_lt _ s _ f.sreg_lt))
leaves decode (BLD d b) k p m i f bp bm = unstored bm (fits_reg k f d _ (put_lt _ b _ (f.reg_lt d)))
leaves decode (BRBC s t) k p m i f bp bm = unstored bm (fits_branch k f s t _)
leaves decode (BRBS s t) k p m i f bp bm = unstored bm (fits_branch k f s t _)
leaves decode BREAK k p m i f bp bm = unstored bm f
leaves decode (BSET s) k p m i f bp bm = unstored bm (fits_inhibit (with_sreg k _) (fits_sreg k f _ (put_lt _ s _ f.sreg_lt)) _)
leaves decode (BST d b) k p m i f bp bm = unstored bm (fits_sreg k f _ (put_lt _ 6 _ f.sreg_lt))
leaves decode (CALL t) k p m i f bp bm = called_leaves k f m bm _ _ 2 (omega arith) (omega arith)
leaves decode (CBI A b) k p m i f bp bm = stored k m A _ bm (put_lt _ b _ (bm.byte_lt A)) f
leaves decode (COM d) k p m i f bp bm = unstored bm (fits_sreg (with_reg k d _) (fits_reg k f d _ (omega arith)) _ (cznvs_lt k.sreg f.sreg_lt _ _ _ _))
leaves decode (CP d r) k p m i f bp bm = unstored bm (fits_sreg k f _ (cznvsh_lt k.sreg f.sreg_lt _ _ _ _ _))
leaves decode (CPC d r) k p m i f bp bm = unstored bm (fits_sreg k f _ (cznvsh_lt k.sreg f.sreg_lt _ _ _ _ _))
leaves decode (CPI d K) k p m i f bp bm = unstored bm (fits_sreg k f _ (cznvsh_lt k.sreg f.sreg_lt _ _ _ _ _))
leaves decode (CPSE d r) k p m i f bp bm = unstored bm (fits_skip k f _ _)
leaves decode (DEC d) k p m i f bp bm = unstored bm (fits_resulted k f d _ _ (omega arith))
leaves decode (EOR d r) k p m i f bp bm = unstored bm (fits_resulted k f d _ false (xor_byte _ _ (f.reg_lt d) (f.reg_lt r)))
leaves decode (FMUL d r) k p m i f bp bm = unstored bm (fits_fractional k f _)
leaves decode (FMULS d r) k p m i f bp bm = unstored bm (fits_fractional k f _)
leaves decode (FMULSU d r) k p m i f bp bm = unstored bm (fits_fractional k f _)
leaves decode ICALL k p m i f bp bm = called_leaves k f m bm _ _ 1 f.pc_lt (reg_word_lt k f 30)
leaves decode IJMP k p m i f bp bm = unstored bm (fits_jumped k f _ 1 (reg_word_lt k f 30))
leaves decode (IN d A) k p m i f bp bm = unstored bm (fits_reg k f d _ (data_lt k f m bm A))
leaves decode (INC d) k p m i f bp bm = unstored bm (fits_resulted k f d _ _ (omega arith))
leaves decode (JMP t) k p m i f bp bm = unstored bm (fits_jumped k f _ 2 (omega arith))
leaves decode (LDX d) k p m i f bp bm = unstored bm (fits_ld k f m bm d _ _ _ _)
leaves decode (LDXinc d) k p m i f bp bm = unstored bm (fits_ld k f m bm d _ _ _ _)
leaves decode (LDXdec d) k p m i f bp bm = unstored bm (fits_ld k f m bm d _ _ _ _)
leaves decode (LDYinc d) k p m i f bp bm = unstored bm (fits_ld k f m bm d _ _ _ _)
leaves decode (LDYdec d) k p m i f bp bm = unstored bm (fits_ld k f m bm d _ _ _ _)
leaves decode (LDZinc d) k p m i f bp bm = unstored bm (fits_ld k f m bm d _ _ _ _)
leaves decode (LDZdec d) k p m i f bp bm = unstored bm (fits_ld k f m bm d _ _ _ _)
leaves decode (LDDY d q) k p m i f bp bm = unstored bm (fits_ld k f m bm d _ _ _ _)
leaves decode (LDDZ d q) k p m i f bp bm = unstored bm (fits_ld k f m bm d _ _ _ _)
leaves decode (LDI d K) k p m i f bp bm = unstored bm (fits_reg k f d K (omega (arith, i.ldi_lt d K refl)))
leaves decode (LDS d at) k p m i f bp bm = unstored bm (fits_lds k f m bm d at)
leaves decode LPM k p m i f bp bm = unstored bm (fits_lpm k f 0 false p bp)
leaves decode (LPMZ d) k p m i f bp bm = unstored bm (fits_lpm k f d false p bp)
leaves decode (LPMZinc d) k p m i f bp bm = unstored bm (fits_lpm k f d true p bp)
leaves decode (LSL d) k p m i f bp bm = unstored bm (fits_summed k f d _ _ (plus_lt _ _ _))
leaves decode (LSR d) k p m i f bp bm = unstored bm (fits_shifted k f d false)
leaves decode (MOV d r) k p m i f bp bm = unstored bm (fits_reg k f d _ (f.reg_lt r))
leaves decode (MOVW d r) k p m i f bp bm = unstored bm (fits_word k f d _ (reg_word_lt k f r))
leaves decode (MUL d r) k p m i f bp bm = unstored bm (fits_multiplied k f _ (omega arith))
leaves decode (MULS d r) k p m i f bp bm = unstored bm (fits_multiplied k f _ (omega arith))
leaves decode (MULSU d r) k p m i f bp bm = unstored bm (fits_multiplied k f _ (omega arith))
leaves decode (NEG d) k p m i f bp bm = unstored bm (fits_sreg (with_reg k d _) (fits_reg k f d _ (omega arith)) _ (cznvsh_lt k.sreg f.sreg_lt _ _ _ _ _))
leaves decode NOP k p m i f bp bm = unstored bm f
leaves decode (OR d r) k p m i f bp bm = unstored bm (fits_resulted k f d _ false (or_byte _ _ (f.reg_lt d) (f.reg_lt r)))
leaves decode (ORI d K) k p m i f bp bm = unstored bm (fits_resulted k f d _ false (or_byte _ _ (f.reg_lt d) (omega (arith, i.ori_lt d K refl))))
leaves decode (OUT A r) k p m i f bp bm = set_data_leaves k f m bm A _ (f.reg_lt r)
leaves decode (POP d) k p m i f bp bm = unstored bm (fits_pop k f m bm d)
leaves decode (PUSH d) k p m i f bp bm = push_leaves k f m bm d
leaves decode (RCALL t) k p m i f bp bm = called_leaves k f m bm _ _ 1 f.pc_lt (omega arith)
leaves decode RET k p m i f bp bm = unstored bm (fits_ret k f m bm)
leaves decode RETI k p m i f bp bm = unstored bm (fits_reti k f m bm)
leaves decode (RJMP t) k p m i f bp bm = unstored bm (fits_jumped k f _ 1 (omega arith))
leaves decode (ROR d) k p m i f bp bm = unstored bm (fits_shifted k f d (flag k 0))
leaves decode (SBC d r) k p m i f bp bm = unstored bm (fits_summed k f d _ _ (minus_lt _ _ _))
leaves decode (SBCI d K) k p m i f bp bm = unstored bm (fits_summed k f d _ _ (minus_lt _ _ _))
leaves decode (SBI A b) k p m i f bp bm = stored k m A _ bm (put_lt _ b _ (bm.byte_lt A)) f
leaves decode (SBIC A b) k p m i f bp bm = unstored bm (fits_skip k f _ _)
leaves decode (SBIS A b) k p m i f bp bm = unstored bm (fits_skip k f _ _)
leaves decode (SBIW d K) k p m i f bp bm = unstored bm (fits_flagged_word k f d _ _ (omega arith) (cznvs_lt k.sreg f.sreg_lt _ _ _ _))
leaves decode (SBRC r b) k p m i f bp bm = unstored bm (fits_skip k f _ _)
leaves decode (SBRS r b) k p m i f bp bm = unstored bm (fits_skip k f _ _)
leaves decode SLEEP k p m i f bp bm = unstored bm f
leaves decode (STX r) k p m i f bp bm = st_leaves k f m bm r _ _ _ _
leaves decode (STXdec r) k p m i f bp bm = st_leaves k f m bm r _ _ _ _
leaves decode (STXinc r) k p m i f bp bm = st_leaves k f m bm r _ _ _ _
leaves decode (STYdec r) k p m i f bp bm = st_leaves k f m bm r _ _ _ _
leaves decode (STYinc r) k p m i f bp bm = st_leaves k f m bm r _ _ _ _
leaves decode (STZdec r) k p m i f bp bm = st_leaves k f m bm r _ _ _ _
leaves decode (STZinc r) k p m i f bp bm = st_leaves k f m bm r _ _ _ _
leaves decode (STDY q r) k p m i f bp bm = st_leaves k f m bm r _ _ _ _
leaves decode (STDZ q r) k p m i f bp bm = st_leaves k f m bm r _ _ _ _
leaves decode (STS at r) k p m i f bp bm = sts_leaves k f m bm r at
leaves decode (SUB d r) k p m i f bp bm = unstored bm (fits_summed k f d _ _ (minus_lt _ _ _))
leaves decode (SUBI d K) k p m i f bp bm = unstored bm (fits_summed k f d _ _ (minus_lt _ _ _))
leaves decode (SWAP d) k p m i f bp bm = unstored bm (fits_reg k f d _ (omega (arith, f.reg_lt d)))
leaves decode WDR k p m i f bp bm = unstored bm f
leaves decode UNDEF k p m i f bp bm = unstored bm f

-- ---- with busy
pub instructions_stay_in_range : InstructionsStayInRange
instructions_stay_in_range decode op k p m i s bp bm =
    let l = leaves decode op k p m i (fits_of k s) bp bm in
    record {
      core = sound_of (executed decode k op p m).core l.core (instructions_wait_at_most_3 decode op k p m 4 (omega arith) s.busy_le);
      bytes = l.bytes;
      same_length = l.same_length;
    }
