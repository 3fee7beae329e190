-- The `match` of the Rust's `tick` is the port's `executed`, where what the instruction needs is there; elsewhere it panics.
-- Assumes nothing.
use mathlib.Core.Path.{◌≡◌, refl}
use mathlib.Core.Bool.{Bool, true, false, not, and-true}
use Prim.Native.Nat.{ℕ, ◌<◌}
use native.Mathlib.Omega.{arith}
use Rattle.basis.specs.Pick.{pick}
use Rattle.basis.specs.Bytes.{Bytes}
use Rattle.instruction.specs.declared.Instruction.{Instruction}
use Rattle.instruction.specs.declared.Instruction.TheVariants.{ADC, ADD, ADIW, AND, ANDI, ASR, BCLR, BLD, BRBC, BRBS, BREAK, BSET, BST, CALL, CBI, COM, CP, CPC, CPI, CPSE, DEC, EOR, FMUL, FMULS, FMULSU, ICALL, IJMP, IN, INC, JMP, LDX, LDXinc, LDXdec, LDYinc, LDYdec, LDZinc, LDZdec, LDDY, LDDZ, LDI, LDS, LPM, LPMZ, LPMZinc, LSL, LSR, MOV, MOVW, MUL, MULS, MULSU, NEG, NOP, OR, ORI, OUT, POP, PUSH, RCALL, RET, RETI, RJMP, ROR, SBC, SBCI, SBI, SBIC, SBIS, SBIW, SBRC, SBRS, SLEEP, STX, STXdec, STXinc, STYdec, STYinc, STZdec, STZinc, STDY, STDZ, STS, SUB, SUBI, SWAP, WDR, UNDEF}
use Rattle.instruction.specs.Decode.{decode_of}
use Rattle.instruction.specs.Fields.{InFields, Pair}
use Rattle.memory.specs.Memory.{has_of}
use Rattle.cores.specs.State.{Sound, out, word}
use Rattle.execute.specs.Needs.{needs}
use Rattle.execute.specs.Execute.{Executed, executed}
use Rattle.tick.specs.Tick.{answer_of, stops}
use Rattle.source.specs.Monad.{Self, Outcome, ok, panic}
use Rattle.source.specs.Tick.{dispatch}
use Rattle.source.proofs.Steps.{with_out, after_pick}
use Rattle.source.proofs.Needs.{met}
use Rattle.source.proofs.Arithmetic.{adc_is, add_is, adiw_is, and_is, andi_is, com_is, dec_is, eor_is, inc_is, neg_is, or_is, ori_is, sbiw_is}
use Rattle.source.proofs.Subtraction.{sbc_is, sbci_is, sub_is, subi_is, cp_is, cpc_is, cpi_is}
use Rattle.source.proofs.Products.{fmul_is, fmuls_is, fmulsu_is, mul_is, muls_is, mulsu_is}
use Rattle.source.proofs.Flow.{brbx_is, call_is, icall_is, ijmp_is, jmp_is, rcall_is, ret_is, reti_is, rjmp_is}
use Rattle.source.proofs.Skips.{cpse_is, sbix_is, sbrx_is}
use Rattle.source.proofs.Bits.{asr_is, bclr_is, bld_is, bset_is, bst_is, cbi_is, lsr_is, ror_is, sbi_is, swap_is}
use Rattle.source.proofs.Transfer.{in_is, ld_is, st_is, ldi_is, lds_is, lpm_is, mov_is, movw_is, out_is, pop_is, push_is, sts_is}

-- an even register below 32 has one above it
pair_lt : (d : ℕ) → Pair d → d < 31
pair_lt d h = let l = h.0 in let e = h.1 in omega arith

-- what the Rust shows of an executed instruction
abbrev pub done : Self → Executed → Outcome Bool
done s e = ok (not (stops (answer_of e.done))) (with_out s (out e.core e.bytes))

module _ (s : Self) (c : s.core.chip ≡ false) (w : Sound s.core) (m : Bytes s.ds) (u : Bytes s.progmem) where
  pub dispatch_is : (op : Instruction) → InFields op
      → dispatch op s ≡ pick (met (needs decode_of s.core op s.progmem s.ds)) (done s (executed decode_of s.core op s.progmem s.ds)) panic
  unfolding dispatch
  -- Arithmetic and Logic Instructions
  dispatch_is (ADC d r) v = rw (adc_is s w d r v.0 v.1)
  dispatch_is (ADD d r) v = rw (add_is s w d r v.0 v.1)
  dispatch_is (ADIW d K) v = rw (adiw_is s w c d K (pair_lt d v.0))
  dispatch_is (AND d r) v = rw (and_is s w d r v.0 v.1)
  dispatch_is (ANDI d K) v = rw (andi_is s w d K v.0 v.1)
  dispatch_is (COM d) v = rw (com_is s w d v)
  dispatch_is (DEC d) v = rw (dec_is s w d v)
  dispatch_is (EOR d r) v = rw (eor_is s w d r v.0 v.1)
  dispatch_is (FMUL d r) v = rw (fmul_is s w d r v.0 v.1)
  dispatch_is (FMULS d r) v = rw (fmuls_is s w d r v.0 v.1)
  dispatch_is (FMULSU d r) v = rw (fmulsu_is s w d r v.0 v.1)
  dispatch_is (INC d) v = rw (inc_is s w d v)
  dispatch_is (MUL d r) v = rw (mul_is s w d r v.0 v.1)
  dispatch_is (MULS d r) v = rw (muls_is s w d r v.0 v.1)
  dispatch_is (MULSU d r) v = rw (mulsu_is s w d r v.0 v.1)
  dispatch_is (NEG d) v = rw (neg_is s w d v)
  dispatch_is (OR d r) v = rw (or_is s w d r v.0 v.1)
  dispatch_is (ORI d K) v = rw (ori_is s w d K v.0 v.1)
  dispatch_is (SBC d r) v = rw (sbc_is s w d r v.0 v.1)
  dispatch_is (SBCI d K) v = rw (sbci_is s w d K v.0 v.1)
  dispatch_is (SBIW d K) v = rw (sbiw_is s w d K (pair_lt d v.0) (omega (arith, v.1)))
  dispatch_is (SUB d r) v = rw (sub_is s w d r v.0 v.1)
  dispatch_is (SUBI d K) v = rw (subi_is s w d K v.0 v.1)
  -- Change of Flow Instructions
  dispatch_is (BRBC b k) v = rw (brbx_is s w b k false v.0 v.1)
  dispatch_is (BRBS b k) v = rw (brbx_is s w b k true v.0 v.1)
  dispatch_is (CALL k) v = rw (call_is s w k, after_pick)
  dispatch_is (CP d r) v = rw (cp_is s w d r v.0 v.1)
  dispatch_is (CPC d r) v = rw (cpc_is s w d r v.0 v.1)
  dispatch_is (CPI d K) v = rw (cpi_is s w d K v.0 v.1)
  dispatch_is (CPSE d r) v = rw (cpse_is s u d r w v.0 v.1, after_pick)
  dispatch_is ICALL v = rw (icall_is s w, after_pick)
  dispatch_is IJMP v = rw (ijmp_is s w)
  dispatch_is (JMP k) v = rw (jmp_is s w k)
  dispatch_is (RCALL k) v = rw (rcall_is s w k, after_pick)
  dispatch_is RET v = rw (ret_is s w m, after_pick)
  dispatch_is RETI v = rw (reti_is s w m, after_pick)
  dispatch_is (RJMP k) v = rw (rjmp_is s w k)
  dispatch_is (SBIC A b) v = rw (sbix_is s u A b false m v.0 v.1, after_pick)
  dispatch_is (SBIS A b) v = rw (sbix_is s u A b true m v.0 v.1, after_pick)
  dispatch_is (SBRC r b) v = rw (sbrx_is s u r b false w v.0 v.1, after_pick)
  dispatch_is (SBRS r b) v = rw (sbrx_is s u r b true w v.0 v.1, after_pick)
  -- Data Transfer Instructions
  dispatch_is (IN d A) v = rw (in_is s w d A v.0, after_pick)
  dispatch_is (LDX d) v = rw (ld_is s w c d 26 0 false false v (omega arith), after_pick)
  dispatch_is (LDXinc d) v = rw (ld_is s w c d 26 0 false true v (omega arith), after_pick)
  dispatch_is (LDXdec d) v = rw (ld_is s w c d 26 0 true false v (omega arith), after_pick)
  dispatch_is (LDYinc d) v = rw (ld_is s w c d 28 0 false true v (omega arith), after_pick)
  dispatch_is (LDYdec d) v = rw (ld_is s w c d 28 0 true false v (omega arith), after_pick)
  dispatch_is (LDZinc d) v = rw (ld_is s w c d 30 0 false true v (omega arith), after_pick)
  dispatch_is (LDZdec d) v = rw (ld_is s w c d 30 0 true false v (omega arith), after_pick)
  dispatch_is (LDDY d q) v = rw (ld_is s w c d 28 q false false v.0 (omega arith), after_pick)
  dispatch_is (LDDZ d q) v = rw (ld_is s w c d 30 q false false v.0 (omega arith), after_pick)
  dispatch_is (LDI d K) v = rw (ldi_is s w d K v.0)
  dispatch_is (LDS d k) v = lds_is s w d k v.0
  dispatch_is LPM v = rw (lpm_is s w 0 false (omega arith), after_pick, and-true (has_of s.progmem (word s.core 30)))
  dispatch_is (LPMZ d) v = rw (lpm_is s w d false v, after_pick, and-true (has_of s.progmem (word s.core 30)))
  dispatch_is (LPMZinc d) v = rw (lpm_is s w d true v, after_pick, and-true (has_of s.progmem (word s.core 30)))
  dispatch_is (MOV d r) v = rw (mov_is s w d r v.0 v.1)
  dispatch_is (MOVW d r) v = rw (movw_is s w d r (pair_lt d v.0) (pair_lt r v.1))
  dispatch_is (OUT A r) v = rw (out_is s w A r v.1, after_pick)
  dispatch_is (POP d) v = rw (pop_is s w d v, after_pick)
  dispatch_is (PUSH d) v = rw (push_is s w d v, after_pick)
  dispatch_is (STX r) v = rw (st_is s w c r 26 0 false false tt v (omega arith), after_pick)
  dispatch_is (STXdec r) v = rw (st_is s w c r 26 0 true false tt v (omega arith), after_pick)
  dispatch_is (STXinc r) v = rw (st_is s w c r 26 0 false true tt v (omega arith), after_pick)
  dispatch_is (STYdec r) v = rw (st_is s w c r 28 0 true false tt v (omega arith), after_pick)
  dispatch_is (STYinc r) v = rw (st_is s w c r 28 0 false true tt v (omega arith), after_pick)
  dispatch_is (STZdec r) v = rw (st_is s w c r 30 0 true false tt v (omega arith), after_pick)
  dispatch_is (STZinc r) v = rw (st_is s w c r 30 0 false true tt v (omega arith), after_pick)
  dispatch_is (STDY q r) v = rw (st_is s w c r 28 q false false tt v.1 (omega arith), after_pick)
  dispatch_is (STDZ q r) v = rw (st_is s w c r 30 q false false tt v.1 (omega arith), after_pick)
  dispatch_is (STS k r) v = sts_is s w r k v.1
  -- Bit and Bit-Test Instructions
  dispatch_is (ASR d) v = rw (asr_is s w d v)
  dispatch_is (BCLR b) v = rw (bclr_is s w b v)
  dispatch_is (BLD d b) v = rw (bld_is s w d b v.0 v.1)
  dispatch_is (BSET b) v = rw (bset_is s w c b v)
  dispatch_is (BST d b) v = rw (bst_is s w d b v.0 v.1)
  dispatch_is (CBI A b) v = rw (cbi_is s w A b m v.0 v.1, after_pick)
  dispatch_is (LSL d) v = absurd v
  dispatch_is (LSR d) v = rw (lsr_is s w d v)
  dispatch_is (ROR d) v = rw (ror_is s w d v)
  dispatch_is (SBI A b) v = rw (sbi_is s w A b m v.0 v.1, after_pick)
  dispatch_is (SWAP d) v = rw (swap_is s w d v)
  -- MCU Control Instructions
  dispatch_is BREAK v = refl
  dispatch_is NOP v = refl
  dispatch_is SLEEP v = refl
  dispatch_is WDR v = refl
  -- Undefined
  dispatch_is UNDEF v = refl
