-- With the switches as the core's rule sets them, an instruction by its page is 01's, wherever 01 does not refuse it.
-- Assumes nothing.
use mathlib.Core.Path.{◌≡◌, refl, ap}
use mathlib.Core.Bool.{Bool, true, false, beq}
use mathlib.Core.List.{List}
use Prim.Native.Nat.{ℕ, ◌<◌}
use native.Mathlib.Omega.{arith}
use lib.Dec.{ltb}
use lib.ListN.{get_or, length}
use Rattle.basis.specs.Pick.{pick}
use Rattle.basis.specs.Bit.{bit}
use Rattle.basis.specs.Bytes.{Bytes}
use Rattle.instruction.specs.Decode.{decode_of}
use Rattle.instruction.specs.Fields.{InFields}
use Rattle.instruction.specs.declared.Instruction.{Instruction}
use Rattle.instruction.specs.declared.Instruction.TheVariants.{ADC, ADD, ADIW, AND, ANDI, ASR, BCLR, BLD, BRBC, BRBS, BREAK, BSET, BST, CALL, CBI, COM, CP, CPC, CPI, CPSE, DEC, EOR, FMUL, FMULS, FMULSU, ICALL, IJMP, IN, INC, JMP, LDX, LDXinc, LDXdec, LDYinc, LDYdec, LDZinc, LDZdec, LDDY, LDDZ, LDI, LDS, LPM, LPMZ, LPMZinc, LSL, LSR, MOV, MOVW, MUL, MULS, MULSU, NEG, NOP, OR, ORI, OUT, POP, PUSH, RCALL, RET, RETI, RJMP, ROR, SBC, SBCI, SBI, SBIC, SBIS, SBIW, SBRC, SBRS, SLEEP, STX, STXdec, STXinc, STYdec, STYinc, STZdec, STZinc, STDY, STDZ, STS, SUB, SUBI, SWAP, WDR, UNDEF}
use Rattle.cores.specs.declared.Core.{Core}
use Rattle.cores.specs.State.{reg, with_pc}
use Rattle.cores.specs.Flow.{two_at, data_bit_is}
use Rattle.cores.specs.Transfer.{data_of}
use Rattle.execute.specs.Needs.{Needs, refusal, needs}
use Rattle.execute.specs.Execute.{executed}
use Rattle.tick.specs.Tick.{executed_tick}
use Rattle.manual.specs.Notation.{◌!◌, bar}
use Rattle.manual.specs.Switches.{base, ran, ran_out}
use Rattle.manual.specs.AdcToCpse.{break, cbi}
use Rattle.manual.specs.DecToLsr.{in_, ldi}
use Rattle.manual.specs.MovToRor.{mov, movw, nop, out_}
use Rattle.manual.specs.SbcToWdr.{sbi, sleep, swap, wdr}
use Rattle.manual.specs.Instructions.{instruction}
use Rattle.manual.specs.Tick.{told}
use Rattle.manual.proofs.Rows.{bit_to_lem}
use Rattle.manual.proofs.Ready.{Ready, on, next_one}
use Rattle.manual.proofs.Sums.{adc_is, add_is, sub_is, subi_is, sbc_is, sbci_is, cp_is, cpi_is, cpc_is, neg_is}
use Rattle.manual.proofs.Logic.{bit_is, and_is, andi_is, or_is, ori_is, eor_is, inc_is, dec_is, com_is, asr_is, ror_is, lsr_is, bclr_is, bset_is, bld_is, bst_is}
use Rattle.manual.proofs.Words.{adiw_is, sbiw_is, mul_is, muls_is, mulsu_is, fmul_is, fmuls_is, fmulsu_is}
use Rattle.manual.proofs.Flow.{is_true, is_false, load_is, load_inc_is, load_dec_is, store_is, store_inc_is, store_dec_is, lpm_is, lpm_inc_is, lds_is, sts_is, push_is, pop_is, call_is, icall_is, rcall_is, ret_is, reti_is, ijmp_is, jmp_is, rjmp_is, brbs_is, brbc_is, skips_is}

-- what a page may rely on where 01 does not refuse: SBIC's and SBIS's byte is in data
pub record Granted (n : Needs) : Type 0 where
  pub bytes_there : n.bytes ≡ true

granted_by : (a b c d : Bool) → ◌≡◌ {A = ℕ} (pick a (pick b (pick c (pick d 0 4) 3) 2) 1) 0 → d ≡ true
granted_by true true true true h = refl
granted_by true true true false h = absurd (omega arith)
granted_by true true false d h = absurd (omega arith)
granted_by true false c d h = absurd (omega arith)
granted_by false b c d h = absurd (omega arith)

pub granted : (n : Needs) → refusal n ≡ 0 → Granted n
granted n h = record { bytes_there = granted_by n.program n.room n.stack n.bytes h }

-- ---- the tests of the skips
bit_true : (x b : ℕ) → b < 8 → x ! b ≡ beq (bit x b) true
bit_true x b h = rw (bit_is x b h) (is_true (x ! b))

bit_false : (x b : ℕ) → b < 8 → bar (x ! b) ≡ beq (bit x b) false
bit_false x b h = rw (bit_is x b h) (is_false (x ! b))

data_bit_true : (m : List ℕ) (A b : ℕ) → ltb A (length m) ≡ true → b < 8 → get_or m A 0 ! b ≡ data_bit_is m A b true
data_bit_true m A b e h = rw e (bit_true (get_or m A 0) b h)

data_bit_false : (m : List ℕ) (A b : ℕ) → ltb A (length m) ≡ true → b < 8 → bar (get_or m A 0 ! b) ≡ data_bit_is m A b false
data_bit_false m A b e h = rw e (bit_false (get_or m A 0) b h)

-- ---- the theorem, page by page
module _ (k : Core) (w : Ready k) (p m : List ℕ) (mm : Bytes m) where
  pub instruction_with : (i : Instruction) → InFields i → Granted (needs decode_of (on k) i p m)
      → instruction (base k.chip) (two_at decode_of (on k) p) k i p m ≡ told (executed_tick (executed decode_of (on k) i p m))
  unfolding with_pc data_of break cbi in_ ldi mov movw nop out_ sbi sleep swap wdr
  instruction_with (ADC d r) f h = ap (λ (c : Core). ran c m) (adc_is k w d r)
  instruction_with (ADD d r) f h = ap (λ (c : Core). ran c m) (add_is k w d r)
  instruction_with (ADIW d K) f h = ap (λ (c : Core). ran c m) (adiw_is k w d K f.1)
  instruction_with (AND d r) f h = ap (λ (c : Core). ran c m) (and_is k w d r)
  instruction_with (ANDI d K) f h = ap (λ (c : Core). ran c m) (andi_is k w d K f.1)
  instruction_with (ASR d) f h = ap (λ (c : Core). ran c m) (asr_is k w d)
  instruction_with (BCLR b) f h = ap (λ (c : Core). ran c m) (bclr_is k w b f)
  instruction_with (BLD d b) f h = ap (λ (c : Core). ran c m) (bld_is k w d b f.1)
  instruction_with (BRBC b o) f h = ap (λ (c : Core). ran c m) (brbc_is k w b o f.0 f.1)
  instruction_with (BRBS b o) f h = ap (λ (c : Core). ran c m) (brbs_is k w b o f.0 f.1)
  instruction_with BREAK f h = rw (next_one k w)
  instruction_with (BSET b) f h = ap (λ (c : Core). ran c m) (bset_is k w b f)
  instruction_with (BST d b) f h = ap (λ (c : Core). ran c m) (bst_is k w d b f.1)
  instruction_with (CALL t) f h = ap ran_out (call_is k w t m)
  instruction_with (CBI A b) f h = rw (next_one k w, bit_to_lem false (get_or m A 0) b (mm.byte_lt A) f.1)
  instruction_with (COM d) f h = ap (λ (c : Core). ran c m) (com_is k w d)
  instruction_with (CP d r) f h = ap (λ (c : Core). ran c m) (cp_is k w d r)
  instruction_with (CPC d r) f h = ap (λ (c : Core). ran c m) (cpc_is k w d r)
  instruction_with (CPI d K) f h = ap (λ (c : Core). ran c m) (cpi_is k w d K f.1)
  instruction_with (CPSE d r) f h = ap (λ (c : Core). ran c m) (skips_is k w _ _ (two_at decode_of (on k) p) refl)
  instruction_with (DEC d) f h = ap (λ (c : Core). ran c m) (dec_is k w d)
  instruction_with (EOR d r) f h = ap (λ (c : Core). ran c m) (eor_is k w d r)
  instruction_with (FMUL d r) f h = ap (λ (c : Core). ran c m) (fmul_is k w d r)
  instruction_with (FMULS d r) f h = ap (λ (c : Core). ran c m) (fmuls_is k w d r)
  instruction_with (FMULSU d r) f h = ap (λ (c : Core). ran c m) (fmulsu_is k w d r)
  instruction_with ICALL f h = ap ran_out (icall_is k w m)
  instruction_with IJMP f h = ap (λ (c : Core). ran c m) (ijmp_is k w)
  instruction_with (IN d A) f h = rw (next_one k w)
  instruction_with (INC d) f h = ap (λ (c : Core). ran c m) (inc_is k w d)
  instruction_with (JMP t) f h = ap (λ (c : Core). ran c m) (jmp_is k w t)
  instruction_with (LDX d) f h = ap (λ (c : Core). ran c m) (load_is k w d 26 0 m)
  instruction_with (LDXinc d) f h = ap (λ (c : Core). ran c m) (load_inc_is k w d 26 m)
  instruction_with (LDXdec d) f h = ap (λ (c : Core). ran c m) (load_dec_is k w d 26 m)
  instruction_with (LDYinc d) f h = ap (λ (c : Core). ran c m) (load_inc_is k w d 28 m)
  instruction_with (LDYdec d) f h = ap (λ (c : Core). ran c m) (load_dec_is k w d 28 m)
  instruction_with (LDZinc d) f h = ap (λ (c : Core). ran c m) (load_inc_is k w d 30 m)
  instruction_with (LDZdec d) f h = ap (λ (c : Core). ran c m) (load_dec_is k w d 30 m)
  instruction_with (LDDY d q) f h = ap (λ (c : Core). ran c m) (load_is k w d 28 q m)
  instruction_with (LDDZ d q) f h = ap (λ (c : Core). ran c m) (load_is k w d 30 q m)
  instruction_with (LDI d K) f h = rw (next_one k w)
  instruction_with (LDS d a) f h = ap (λ (c : Core). ran c m) (lds_is k w d a m)
  instruction_with LPM f h = ap (λ (c : Core). ran c m) (lpm_is k w 0 p)
  instruction_with (LPMZ d) f h = ap (λ (c : Core). ran c m) (lpm_is k w d p)
  instruction_with (LPMZinc d) f h = ap (λ (c : Core). ran c m) (lpm_inc_is k w d p)
  instruction_with (LSL d) f h = absurd f
  instruction_with (LSR d) f h = ap (λ (c : Core). ran c m) (lsr_is k w d)
  instruction_with (MOV d r) f h = rw (next_one k w)
  instruction_with (MOVW d r) f h = rw (next_one k w)
  instruction_with (MUL d r) f h = ap (λ (c : Core). ran c m) (mul_is k w d r)
  instruction_with (MULS d r) f h = ap (λ (c : Core). ran c m) (muls_is k w d r)
  instruction_with (MULSU d r) f h = ap (λ (c : Core). ran c m) (mulsu_is k w d r)
  instruction_with (NEG d) f h = ap (λ (c : Core). ran c m) (neg_is k w d)
  instruction_with NOP f h = rw (next_one k w)
  instruction_with (OR d r) f h = ap (λ (c : Core). ran c m) (or_is k w d r)
  instruction_with (ORI d K) f h = ap (λ (c : Core). ran c m) (ori_is k w d K f.1)
  instruction_with (OUT A r) f h = rw (next_one k w)
  instruction_with (POP d) f h = ap (λ (c : Core). ran c m) (pop_is k w d m)
  instruction_with (PUSH r) f h = ap ran_out (push_is k w r m)
  instruction_with (RCALL o) f h = ap ran_out (rcall_is k w o m)
  instruction_with RET f h = ap (λ (c : Core). ran c m) (ret_is k w m)
  instruction_with RETI f h = ap (λ (c : Core). ran c m) (reti_is k w m)
  instruction_with (RJMP o) f h = ap (λ (c : Core). ran c m) (rjmp_is k w o)
  instruction_with (ROR d) f h = ap (λ (c : Core). ran c m) (ror_is k w d)
  instruction_with (SBC d r) f h = ap (λ (c : Core). ran c m) (sbc_is k w d r)
  instruction_with (SBCI d K) f h = ap (λ (c : Core). ran c m) (sbci_is k w d K f.1)
  instruction_with (SBI A b) f h = rw (next_one k w, bit_to_lem true (get_or m A 0) b (mm.byte_lt A) f.1)
  instruction_with (SBIC A b) f h = ap (λ (c : Core). ran c m) (skips_is k w _ _ (two_at decode_of (on k) p) (data_bit_false m A b h.bytes_there f.1))
  instruction_with (SBIS A b) f h = ap (λ (c : Core). ran c m) (skips_is k w _ _ (two_at decode_of (on k) p) (data_bit_true m A b h.bytes_there f.1))
  instruction_with (SBIW d K) f h = ap (λ (c : Core). ran c m) (sbiw_is k w d K f.1)
  instruction_with (SBRC r b) f h = ap (λ (c : Core). ran c m) (skips_is k w _ _ (two_at decode_of (on k) p) (bit_false (reg k r) b f.1))
  instruction_with (SBRS r b) f h = ap (λ (c : Core). ran c m) (skips_is k w _ _ (two_at decode_of (on k) p) (bit_true (reg k r) b f.1))
  instruction_with SLEEP f h = rw (next_one k w)
  instruction_with (STX r) f h = ap ran_out (store_is k w r 26 0 m)
  instruction_with (STXdec r) f h = ap ran_out (store_dec_is k w r 26 m)
  instruction_with (STXinc r) f h = ap ran_out (store_inc_is k w r 26 m)
  instruction_with (STYdec r) f h = ap ran_out (store_dec_is k w r 28 m)
  instruction_with (STYinc r) f h = ap ran_out (store_inc_is k w r 28 m)
  instruction_with (STZdec r) f h = ap ran_out (store_dec_is k w r 30 m)
  instruction_with (STZinc r) f h = ap ran_out (store_inc_is k w r 30 m)
  instruction_with (STDY q r) f h = ap ran_out (store_is k w r 28 q m)
  instruction_with (STDZ q r) f h = ap ran_out (store_is k w r 30 q m)
  instruction_with (STS a r) f h = ap ran_out (sts_is k w a r m)
  instruction_with (SUB d r) f h = ap (λ (c : Core). ran c m) (sub_is k w d r)
  instruction_with (SUBI d K) f h = ap (λ (c : Core). ran c m) (subi_is k w d K f.1)
  instruction_with (SWAP d) f h = rw (next_one k w)
  instruction_with WDR f h = rw (next_one k w)
  instruction_with UNDEF f h = rw (next_one k w)
