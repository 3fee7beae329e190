-- Every instruction, judged: layout by layout the tests, computed over all fields, and then the instructions in the order of the enum.
-- Assumes nothing.
use mathlib.Core.Logic.{inr}
use mathlib.Core.Path.{refl}
use lib.Dec.{T}
use Rattle.instruction.specs.Decode.{decode_of, nop_to_add_of, mulsu_to_fmulsu_of, cpse_to_adc_of, and_to_mov_of, immediate_of, displaced_of, load_of, store_of, one_register_of, control_of, indirect_of, word_immediate_of, port_bit_of, port_of, relative_of, branch_or_bit_of, register_bit_of}
use Rattle.instruction.specs.declared.Instruction.{Instruction}
use Rattle.instruction.specs.declared.Instruction.TheVariants.{ADC, ADD, ADIW, AND, ANDI, ASR, BCLR, BLD, BRBC, BRBS, BREAK, BSET, BST, CALL, CBI, COM, CP, CPC, CPI, CPSE, DEC, EOR, FMUL, FMULS, FMULSU, ICALL, IJMP, IN, INC, JMP, LDX, LDXinc, LDXdec, LDYinc, LDYdec, LDZinc, LDZdec, LDDY, LDDZ, LDI, LDS, LPM, LPMZ, LPMZinc, LSL, LSR, MOV, MOVW, MUL, MULS, MULSU, NEG, NOP, OR, ORI, OUT, POP, PUSH, RCALL, RET, RETI, RJMP, ROR, SBC, SBCI, SBI, SBIC, SBIS, SBIW, SBRC, SBRS, SLEEP, STX, STXdec, STXinc, STYdec, STYinc, STZdec, STZinc, STDY, STDZ, STS, SUB, SUBI, SWAP, WDR, UNDEF}
use Rattle.encode.specs.Encode.{encode_of}
use Rattle.round_trip.proofs.Judged.{Judged, right}
use Rattle.round_trip.proofs.Layouts.{bare, one, two, rights_one, rights_two, register, registers, high_registers, low_registers, pairs, constant, pair_constant, register_bit, port_bit, port, displaced, flag, branch, relative, rights_low, rights_high}
use Rattle.round_trip.proofs.TwoWords.{data_address, rights_address, target, rights_target}

-- ---- the tests; one declaration may compute so much and no more
registers_tested : T (rights_two registers 0x1C00 ADC) × T (rights_two registers 0x0C00 ADD) × T (rights_two registers 0x2000 AND) × T (rights_two registers 0x1400 CP)
    × T (rights_two registers 0x0400 CPC) × T (rights_two registers 0x1000 CPSE)
unfolding decode_of nop_to_add_of mulsu_to_fmulsu_of cpse_to_adc_of and_to_mov_of immediate_of displaced_of load_of store_of one_register_of control_of indirect_of word_immediate_of port_bit_of port_of relative_of branch_or_bit_of register_bit_of
registers_tested = (tt, tt, tt, tt, tt, tt)

pair_constant_tested : T (rights_two pair_constant 0x9600 ADIW) × T (rights_two pair_constant 0x9700 SBIW)
unfolding decode_of nop_to_add_of mulsu_to_fmulsu_of cpse_to_adc_of and_to_mov_of immediate_of displaced_of load_of store_of one_register_of control_of indirect_of word_immediate_of port_bit_of port_of relative_of branch_or_bit_of register_bit_of
pair_constant_tested = (tt, tt)

constant_tested : T (rights_two constant 0x7000 ANDI) × T (rights_two constant 0x3000 CPI) × T (rights_two constant 0xE000 LDI)
unfolding decode_of nop_to_add_of mulsu_to_fmulsu_of cpse_to_adc_of and_to_mov_of immediate_of displaced_of load_of store_of one_register_of control_of indirect_of word_immediate_of port_bit_of port_of relative_of branch_or_bit_of register_bit_of
constant_tested = (tt, tt, tt)

register_tested : T (rights_one register 0x9405 ASR) × T (rights_one register 0x9400 COM) × T (rights_one register 0x940A DEC) × T (rights_one register 0x9403 INC)
    × T (rights_one register 0x900C LDX) × T (rights_one register 0x900D LDXinc) × T (rights_one register 0x900E LDXdec)
    × T (rights_one register 0x9009 LDYinc) × T (rights_one register 0x900A LDYdec) × T (rights_one register 0x9001 LDZinc)
    × T (rights_one register 0x9002 LDZdec) × T (rights_one register 0x9004 LPMZ) × T (rights_one register 0x9005 LPMZinc) × T (rights_one register 0x9406 LSR)
    × T (rights_one register 0x9401 NEG) × T (rights_one register 0x900F POP) × T (rights_one register 0x920F PUSH) × T (rights_one register 0x9407 ROR)
    × T (rights_one register 0x920C STX) × T (rights_one register 0x920E STXdec) × T (rights_one register 0x920D STXinc)
    × T (rights_one register 0x920A STYdec) × T (rights_one register 0x9209 STYinc) × T (rights_one register 0x9202 STZdec)
    × T (rights_one register 0x9201 STZinc) × T (rights_one register 0x9402 SWAP)
unfolding decode_of nop_to_add_of mulsu_to_fmulsu_of cpse_to_adc_of and_to_mov_of immediate_of displaced_of load_of store_of one_register_of control_of indirect_of word_immediate_of port_bit_of port_of relative_of branch_or_bit_of register_bit_of
register_tested = (tt, tt, tt, tt, tt, tt, tt, tt, tt, tt, tt, tt, tt, tt, tt, tt, tt, tt, tt, tt, tt, tt, tt, tt, tt, tt)

flag_tested : T (rights_one flag 0x9488 BCLR) × T (rights_one flag 0x9408 BSET)
unfolding decode_of nop_to_add_of mulsu_to_fmulsu_of cpse_to_adc_of and_to_mov_of immediate_of displaced_of load_of store_of one_register_of control_of indirect_of word_immediate_of port_bit_of port_of relative_of branch_or_bit_of register_bit_of
flag_tested = (tt, tt)

register_bit_tested : T (rights_two register_bit 0xF800 BLD) × T (rights_two register_bit 0xFA00 BST) × T (rights_two register_bit 0xFC00 SBRC)
    × T (rights_two register_bit 0xFE00 SBRS)
unfolding decode_of nop_to_add_of mulsu_to_fmulsu_of cpse_to_adc_of and_to_mov_of immediate_of displaced_of load_of store_of one_register_of control_of indirect_of word_immediate_of port_bit_of port_of relative_of branch_or_bit_of register_bit_of
register_bit_tested = (tt, tt, tt, tt)

branch_tested : T (rights_two branch 0xF400 BRBC) × T (rights_two branch 0xF000 BRBS)
unfolding decode_of nop_to_add_of mulsu_to_fmulsu_of cpse_to_adc_of and_to_mov_of immediate_of displaced_of load_of store_of one_register_of control_of indirect_of word_immediate_of port_bit_of port_of relative_of branch_or_bit_of register_bit_of
branch_tested = (tt, tt)

bare_tested : T (right BREAK 0x9598) × T (right ICALL 0x9509) × T (right IJMP 0x9409) × T (right LPM 0x95C8) × T (right NOP 0x0000) × T (right RET 0x9508)
    × T (right RETI 0x9518) × T (right SLEEP 0x9588) × T (right WDR 0x95A8)
unfolding decode_of nop_to_add_of mulsu_to_fmulsu_of cpse_to_adc_of and_to_mov_of immediate_of displaced_of load_of store_of one_register_of control_of indirect_of word_immediate_of port_bit_of port_of relative_of branch_or_bit_of register_bit_of
bare_tested = (tt, tt, tt, tt, tt, tt, tt, tt, tt)

target_tested : T (rights_target 0x940E CALL) × T (rights_target 0x940C JMP)
unfolding decode_of nop_to_add_of mulsu_to_fmulsu_of cpse_to_adc_of and_to_mov_of immediate_of displaced_of load_of store_of one_register_of control_of indirect_of word_immediate_of port_bit_of port_of relative_of branch_or_bit_of register_bit_of
target_tested = (tt, tt)

port_bit_tested : T (rights_two port_bit 0x9800 CBI) × T (rights_two port_bit 0x9A00 SBI) × T (rights_two port_bit 0x9900 SBIC) × T (rights_two port_bit 0x9B00 SBIS)
unfolding decode_of nop_to_add_of mulsu_to_fmulsu_of cpse_to_adc_of and_to_mov_of immediate_of displaced_of load_of store_of one_register_of control_of indirect_of word_immediate_of port_bit_of port_of relative_of branch_or_bit_of register_bit_of
port_bit_tested = (tt, tt, tt, tt)

registers_tested₂ : T (rights_two registers 0x2400 EOR) × T (rights_two registers 0x2C00 MOV) × T (rights_two registers 0x9C00 MUL) × T (rights_two registers 0x2800 OR)
    × T (rights_two registers 0x0800 SBC) × T (rights_two registers 0x1800 SUB)
unfolding decode_of nop_to_add_of mulsu_to_fmulsu_of cpse_to_adc_of and_to_mov_of immediate_of displaced_of load_of store_of one_register_of control_of indirect_of word_immediate_of port_bit_of port_of relative_of branch_or_bit_of register_bit_of
registers_tested₂ = (tt, tt, tt, tt, tt, tt)

low_registers_tested : T (rights_two low_registers 0x0308 FMUL) × T (rights_two low_registers 0x0380 FMULS) × T (rights_two low_registers 0x0388 FMULSU)
    × T (rights_two low_registers 0x0300 MULSU)
unfolding decode_of nop_to_add_of mulsu_to_fmulsu_of cpse_to_adc_of and_to_mov_of immediate_of displaced_of load_of store_of one_register_of control_of indirect_of word_immediate_of port_bit_of port_of relative_of branch_or_bit_of register_bit_of
low_registers_tested = (tt, tt, tt, tt)

port_tested : T (rights_two port 0xB000 IN) × T (rights_two port 0xB800 (λ x y. OUT y x))
unfolding decode_of nop_to_add_of mulsu_to_fmulsu_of cpse_to_adc_of and_to_mov_of immediate_of displaced_of load_of store_of one_register_of control_of indirect_of word_immediate_of port_bit_of port_of relative_of branch_or_bit_of register_bit_of
port_tested = (tt, tt)

displaced_tested : T (rights_two displaced 0x8008 LDDY) × T (rights_two displaced 0x8000 LDDZ) × T (rights_two displaced 0x8208 (λ x y. STDY y x))
    × T (rights_two displaced 0x8200 (λ x y. STDZ y x))
unfolding decode_of nop_to_add_of mulsu_to_fmulsu_of cpse_to_adc_of and_to_mov_of immediate_of displaced_of load_of store_of one_register_of control_of indirect_of word_immediate_of port_bit_of port_of relative_of branch_or_bit_of register_bit_of
displaced_tested = (tt, tt, tt, tt)

address_tested : T (rights_address 0x9000 LDS) × T (rights_address 0x9200 (λ d k. STS k d))
unfolding decode_of nop_to_add_of mulsu_to_fmulsu_of cpse_to_adc_of and_to_mov_of immediate_of displaced_of load_of store_of one_register_of control_of indirect_of word_immediate_of port_bit_of port_of relative_of branch_or_bit_of register_bit_of
address_tested = (tt, tt)

pairs_tested : T (rights_two pairs 0x0100 MOVW)
unfolding decode_of nop_to_add_of mulsu_to_fmulsu_of cpse_to_adc_of and_to_mov_of immediate_of displaced_of load_of store_of one_register_of control_of indirect_of word_immediate_of port_bit_of port_of relative_of branch_or_bit_of register_bit_of
pairs_tested = tt

high_registers_tested : T (rights_two high_registers 0x0200 MULS)
unfolding decode_of nop_to_add_of mulsu_to_fmulsu_of cpse_to_adc_of and_to_mov_of immediate_of displaced_of load_of store_of one_register_of control_of indirect_of word_immediate_of port_bit_of port_of relative_of branch_or_bit_of register_bit_of
high_registers_tested = tt

constant_tested₂ : T (rights_two constant 0x6000 ORI) × T (rights_two constant 0x4000 SBCI) × T (rights_two constant 0x5000 SUBI)
unfolding decode_of nop_to_add_of mulsu_to_fmulsu_of cpse_to_adc_of and_to_mov_of immediate_of displaced_of load_of store_of one_register_of control_of indirect_of word_immediate_of port_bit_of port_of relative_of branch_or_bit_of register_bit_of
constant_tested₂ = (tt, tt, tt)

relative_tested : T (rights_low 0xD000 RCALL) × T (rights_high 0xD000 RCALL) × T (rights_low 0xC000 RJMP) × T (rights_high 0xC000 RJMP)
unfolding decode_of nop_to_add_of mulsu_to_fmulsu_of cpse_to_adc_of and_to_mov_of immediate_of displaced_of load_of store_of one_register_of control_of indirect_of word_immediate_of port_bit_of port_of relative_of branch_or_bit_of register_bit_of
relative_tested = (tt, tt, tt, tt)

-- ---- the instructions
pub judged : (i : Instruction) → Judged i
unfolding encode_of
judged (ADC d r) = two registers 0x1C00 ADC (λ x y s. refl) registers_tested.0 d r
judged (ADD d r) = two registers 0x0C00 ADD (λ x y s. refl) registers_tested.1 d r
judged (ADIW d K) = two pair_constant 0x9600 ADIW (λ x y s. refl) pair_constant_tested.0 d K
judged (AND d r) = two registers 0x2000 AND (λ x y s. refl) registers_tested.2 d r
judged (ANDI d K) = two constant 0x7000 ANDI (λ x y s. refl) constant_tested.0 d K
judged (ASR d) = one register 0x9405 ASR (λ x y s. refl) register_tested.0 d
judged (BCLR s) = one flag 0x9488 BCLR (λ x y s. refl) flag_tested.0 s
judged (BLD d b) = two register_bit 0xF800 BLD (λ x y s. refl) register_bit_tested.0 d b
judged (BRBC s k) = two branch 0xF400 BRBC (λ x y s. refl) branch_tested.0 s k
judged (BRBS s k) = two branch 0xF000 BRBS (λ x y s. refl) branch_tested.1 s k
judged BREAK = bare 0x9598 BREAK (λ x y s. refl) bare_tested.0
judged (BSET s) = one flag 0x9408 BSET (λ x y s. refl) flag_tested.1 s
judged (BST d b) = two register_bit 0xFA00 BST (λ x y s. refl) register_bit_tested.1 d b
judged (CALL k) = target 0x940E CALL (λ k s. refl) target_tested.0 k
judged (CBI A b) = two port_bit 0x9800 CBI (λ x y s. refl) port_bit_tested.0 A b
judged (COM d) = one register 0x9400 COM (λ x y s. refl) register_tested.1 d
judged (CP d r) = two registers 0x1400 CP (λ x y s. refl) registers_tested.3 d r
judged (CPC d r) = two registers 0x0400 CPC (λ x y s. refl) registers_tested.4 d r
judged (CPI d K) = two constant 0x3000 CPI (λ x y s. refl) constant_tested.1 d K
judged (CPSE d r) = two registers 0x1000 CPSE (λ x y s. refl) registers_tested.5 d r
judged (DEC d) = one register 0x940A DEC (λ x y s. refl) register_tested.2 d
judged (EOR d r) = two registers 0x2400 EOR (λ x y s. refl) registers_tested₂.0 d r
judged (FMUL d r) = two low_registers 0x0308 FMUL (λ x y s. refl) low_registers_tested.0 d r
judged (FMULS d r) = two low_registers 0x0380 FMULS (λ x y s. refl) low_registers_tested.1 d r
judged (FMULSU d r) = two low_registers 0x0388 FMULSU (λ x y s. refl) low_registers_tested.2 d r
judged ICALL = bare 0x9509 ICALL (λ x y s. refl) bare_tested.1
judged IJMP = bare 0x9409 IJMP (λ x y s. refl) bare_tested.2
judged (IN d A) = two port 0xB000 IN (λ x y s. refl) port_tested.0 d A
judged (INC d) = one register 0x9403 INC (λ x y s. refl) register_tested.3 d
judged (JMP k) = target 0x940C JMP (λ k s. refl) target_tested.1 k
judged (LDX d) = one register 0x900C LDX (λ x y s. refl) register_tested.4 d
judged (LDXinc d) = one register 0x900D LDXinc (λ x y s. refl) register_tested.5 d
judged (LDXdec d) = one register 0x900E LDXdec (λ x y s. refl) register_tested.6 d
judged (LDYinc d) = one register 0x9009 LDYinc (λ x y s. refl) register_tested.7 d
judged (LDYdec d) = one register 0x900A LDYdec (λ x y s. refl) register_tested.8 d
judged (LDZinc d) = one register 0x9001 LDZinc (λ x y s. refl) register_tested.9 d
judged (LDZdec d) = one register 0x9002 LDZdec (λ x y s. refl) register_tested.10 d
judged (LDDY d q) = two displaced 0x8008 LDDY (λ x y s. refl) displaced_tested.0 d q
judged (LDDZ d q) = two displaced 0x8000 LDDZ (λ x y s. refl) displaced_tested.1 d q
judged (LDI d K) = two constant 0xE000 LDI (λ x y s. refl) constant_tested.2 d K
judged (LDS d k) = data_address 0x9000 LDS (λ d k s. refl) address_tested.0 d k
judged LPM = bare 0x95C8 LPM (λ x y s. refl) bare_tested.3
judged (LPMZ d) = one register 0x9004 LPMZ (λ x y s. refl) register_tested.11 d
judged (LPMZinc d) = one register 0x9005 LPMZinc (λ x y s. refl) register_tested.12 d
judged (LSL d) = inr (inr (refl, refl))
judged (LSR d) = one register 0x9406 LSR (λ x y s. refl) register_tested.13 d
judged (MOV d r) = two registers 0x2C00 MOV (λ x y s. refl) registers_tested₂.1 d r
judged (MOVW d r) = two pairs 0x0100 MOVW (λ x y s. refl) pairs_tested d r
judged (MUL d r) = two registers 0x9C00 MUL (λ x y s. refl) registers_tested₂.2 d r
judged (MULS d r) = two high_registers 0x0200 MULS (λ x y s. refl) high_registers_tested d r
judged (MULSU d r) = two low_registers 0x0300 MULSU (λ x y s. refl) low_registers_tested.3 d r
judged (NEG d) = one register 0x9401 NEG (λ x y s. refl) register_tested.14 d
judged NOP = bare 0x0000 NOP (λ x y s. refl) bare_tested.4
judged (OR d r) = two registers 0x2800 OR (λ x y s. refl) registers_tested₂.3 d r
judged (ORI d K) = two constant 0x6000 ORI (λ x y s. refl) constant_tested₂.0 d K
judged (OUT A r) = two port 0xB800 (λ x y. OUT y x) (λ x y s. refl) port_tested.1 r A
judged (POP d) = one register 0x900F POP (λ x y s. refl) register_tested.15 d
judged (PUSH d) = one register 0x920F PUSH (λ x y s. refl) register_tested.16 d
judged (RCALL k) = relative 0xD000 RCALL (λ x y s. refl) relative_tested.0 relative_tested.1 k
judged RET = bare 0x9508 RET (λ x y s. refl) bare_tested.5
judged RETI = bare 0x9518 RETI (λ x y s. refl) bare_tested.6
judged (RJMP k) = relative 0xC000 RJMP (λ x y s. refl) relative_tested.2 relative_tested.3 k
judged (ROR d) = one register 0x9407 ROR (λ x y s. refl) register_tested.17 d
judged (SBC d r) = two registers 0x0800 SBC (λ x y s. refl) registers_tested₂.4 d r
judged (SBCI d K) = two constant 0x4000 SBCI (λ x y s. refl) constant_tested₂.1 d K
judged (SBI A b) = two port_bit 0x9A00 SBI (λ x y s. refl) port_bit_tested.1 A b
judged (SBIC A b) = two port_bit 0x9900 SBIC (λ x y s. refl) port_bit_tested.2 A b
judged (SBIS A b) = two port_bit 0x9B00 SBIS (λ x y s. refl) port_bit_tested.3 A b
judged (SBIW d K) = two pair_constant 0x9700 SBIW (λ x y s. refl) pair_constant_tested.1 d K
judged (SBRC r b) = two register_bit 0xFC00 SBRC (λ x y s. refl) register_bit_tested.2 r b
judged (SBRS r b) = two register_bit 0xFE00 SBRS (λ x y s. refl) register_bit_tested.3 r b
judged SLEEP = bare 0x9588 SLEEP (λ x y s. refl) bare_tested.7
judged (STX r) = one register 0x920C STX (λ x y s. refl) register_tested.18 r
judged (STXdec r) = one register 0x920E STXdec (λ x y s. refl) register_tested.19 r
judged (STXinc r) = one register 0x920D STXinc (λ x y s. refl) register_tested.20 r
judged (STYdec r) = one register 0x920A STYdec (λ x y s. refl) register_tested.21 r
judged (STYinc r) = one register 0x9209 STYinc (λ x y s. refl) register_tested.22 r
judged (STZdec r) = one register 0x9202 STZdec (λ x y s. refl) register_tested.23 r
judged (STZinc r) = one register 0x9201 STZinc (λ x y s. refl) register_tested.24 r
judged (STDY q r) = two displaced 0x8208 (λ x y. STDY y x) (λ x y s. refl) displaced_tested.2 r q
judged (STDZ q r) = two displaced 0x8200 (λ x y. STDZ y x) (λ x y s. refl) displaced_tested.3 r q
judged (STS k r) = data_address 0x9200 (λ d k. STS k d) (λ d k s. refl) address_tested.1 r k
judged (SUB d r) = two registers 0x1800 SUB (λ x y s. refl) registers_tested₂.5 d r
judged (SUBI d K) = two constant 0x5000 SUBI (λ x y s. refl) constant_tested₂.2 d K
judged (SWAP d) = one register 0x9402 SWAP (λ x y s. refl) register_tested.25 d
judged WDR = bare 0x95A8 WDR (λ x y s. refl) bare_tested.8
judged UNDEF = inr (inr (refl, refl))
