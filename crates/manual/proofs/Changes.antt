-- Whatever the switches, an instruction does what it does with them as a rule sets them, changed as specs/Differences.antt says.
-- Assumes nothing.
use mathlib.Core.Path.{◌≡◌, refl, ◌∙◌}
use mathlib.Core.Bool.{Bool, false, true}
use mathlib.Core.List.{List}
use Prim.Native.Nat.{ℕ, ◌<◌}
use lib.Dec.{eqb, leb}
use Rattle.basis.specs.Bit.{up}
use Rattle.instruction.specs.declared.Instruction.{Instruction}
use Rattle.instruction.specs.declared.Instruction.TheVariants.{ADC, ADD, ADIW, AND, ANDI, ASR, BCLR, BLD, BRBC, BRBS, BREAK, BSET, BST, CALL, CBI, COM, CP, CPC, CPI, CPSE, DEC, EOR, FMUL, FMULS, FMULSU, ICALL, IJMP, IN, INC, JMP, LDX, LDXinc, LDXdec, LDYinc, LDYdec, LDZinc, LDZdec, LDDY, LDDZ, LDI, LDS, LPM, LPMZ, LPMZinc, LSL, LSR, MOV, MOVW, MUL, MULS, MULSU, NEG, NOP, OR, ORI, OUT, POP, PUSH, RCALL, RET, RETI, RJMP, ROR, SBC, SBCI, SBI, SBIC, SBIS, SBIW, SBRC, SBRS, SLEEP, STX, STXdec, STXinc, STYdec, STYinc, STZdec, STZinc, STDY, STDZ, STS, SUB, SUBI, SWAP, WDR, UNDEF}
use Rattle.cores.specs.declared.Core.{Core}
use Rattle.cores.specs.State.{with_sreg}
use Rattle.tick.specs.declared.Answer.TheVariants.{Watchdog, Break}
use Rattle.manual.specs.Notation.{bit_to, STACK←, next, goes}
use Rattle.manual.specs.Switches.{adiw_v, loads, stores, after_sei, outside, target, pointers, Switches, base, ran, ran_out}
use Rattle.manual.specs.Pointers.{X, Y, Z, is_in, load, load_inc, load_dec, store, store_inc, store_dec}
use Rattle.manual.specs.AdcToCpse.{adiw, break, bset, call}
use Rattle.manual.specs.DecToLsr.{jmp}
use Rattle.manual.specs.SbcToWdr.{sleep, wdr}
use Rattle.manual.specs.Instructions.{instruction}
use Rattle.manual.specs.Differences.{changed}
use Rattle.manual.proofs.Turned.{adiw_by_lem, cycles_by, load_cycles_lem, load_inc_cycles, load_dec_cycles, store_cycles_lem, store_inc_cycles, store_dec_cycles, defined_by, next_inhibit, sei_by, answer_by, target_by, call_lands, jump_lands}

module _ (chip : Bool) (s : Switches) (two : Bool) (k : Core) (p m : List ℕ) (h : k.sreg < 256) (calm : k.inhibit ≡ false) where
  pub instruction_changed : (i : Instruction) → instruction s two k i p m ≡ changed chip s k i (instruction (base chip) two k i p m)
  unfolding adiw break bset call jmp sleep wdr changed
  instruction_changed (ADC d r) = refl
  instruction_changed (ADD d r) = refl
  instruction_changed (ADIW d K) = adiw_by_lem k d K m h (base chip adiw_v) (s adiw_v)
  instruction_changed (AND d r) = refl
  instruction_changed (ANDI d K) = refl
  instruction_changed (ASR d) = refl
  instruction_changed (BCLR b) = refl
  instruction_changed (BLD d b) = refl
  instruction_changed (BRBC b o) = refl
  instruction_changed (BRBS b o) = refl
  instruction_changed BREAK = answer_by (s outside) Break (next k 1 1) m
  instruction_changed (BSET b) = sei_by (base chip after_sei) (s after_sei) (eqb b 7) (with_sreg (next k 1 1) (bit_to k.sreg b true)) m (next_inhibit k ∙ calm)
  instruction_changed (BST d b) = refl
  instruction_changed (CALL t) = target_by (λ t. ran_out (STACK← (goes k t 3) (up k.pc 2) m)) (call_lands k m) (s target) (leb 65536 t) t refl
  instruction_changed (CBI A b) = refl
  instruction_changed (COM d) = refl
  instruction_changed (CP d r) = refl
  instruction_changed (CPC d r) = refl
  instruction_changed (CPI d K) = refl
  instruction_changed (CPSE d r) = refl
  instruction_changed (DEC d) = refl
  instruction_changed (EOR d r) = refl
  instruction_changed (FMUL d r) = refl
  instruction_changed (FMULS d r) = refl
  instruction_changed (FMULSU d r) = refl
  instruction_changed ICALL = refl
  instruction_changed IJMP = refl
  instruction_changed (IN d A) = refl
  instruction_changed (INC d) = refl
  instruction_changed (JMP t) = target_by (λ t. ran (goes k t 3) m) (jump_lands k m) (s target) (leb 65536 t) t refl
  instruction_changed (LDX d) = cycles_by (λ c. ran (load c k d X 0 m) m) (λ c other. load_cycles_lem k d X m c other 0) 3 2 (base chip loads) (s loads)
  instruction_changed (LDXinc d) = defined_by (s pointers) (is_in d X) (cycles_by (λ c. ran (load_inc c k d X m) m) (load_inc_cycles k d X m) 3 2 (base chip loads) (s loads))
  instruction_changed (LDXdec d) = defined_by (s pointers) (is_in d X) (cycles_by (λ c. ran (load_dec c k d X m) m) (load_dec_cycles k d X m) 3 2 (base chip loads) (s loads))
  instruction_changed (LDYinc d) = defined_by (s pointers) (is_in d Y) (cycles_by (λ c. ran (load_inc c k d Y m) m) (load_inc_cycles k d Y m) 3 2 (base chip loads) (s loads))
  instruction_changed (LDYdec d) = defined_by (s pointers) (is_in d Y) (cycles_by (λ c. ran (load_dec c k d Y m) m) (load_dec_cycles k d Y m) 3 2 (base chip loads) (s loads))
  instruction_changed (LDZinc d) = defined_by (s pointers) (is_in d Z) (cycles_by (λ c. ran (load_inc c k d Z m) m) (load_inc_cycles k d Z m) 3 2 (base chip loads) (s loads))
  instruction_changed (LDZdec d) = defined_by (s pointers) (is_in d Z) (cycles_by (λ c. ran (load_dec c k d Z m) m) (load_dec_cycles k d Z m) 3 2 (base chip loads) (s loads))
  instruction_changed (LDDY d q) = cycles_by (λ c. ran (load c k d Y q m) m) (λ c other. load_cycles_lem k d Y m c other q) 3 2 (base chip loads) (s loads)
  instruction_changed (LDDZ d q) = cycles_by (λ c. ran (load c k d Z q m) m) (λ c other. load_cycles_lem k d Z m c other q) 3 2 (base chip loads) (s loads)
  instruction_changed (LDI d K) = refl
  instruction_changed (LDS d a) = refl
  instruction_changed LPM = refl
  instruction_changed (LPMZ d) = refl
  instruction_changed (LPMZinc d) = defined_by (s pointers) (is_in d Z) refl
  instruction_changed (LSL d) = refl
  instruction_changed (LSR d) = refl
  instruction_changed (MOV d r) = refl
  instruction_changed (MOVW d r) = refl
  instruction_changed (MUL d r) = refl
  instruction_changed (MULS d r) = refl
  instruction_changed (MULSU d r) = refl
  instruction_changed (NEG d) = refl
  instruction_changed NOP = refl
  instruction_changed (OR d r) = refl
  instruction_changed (ORI d K) = refl
  instruction_changed (OUT A r) = refl
  instruction_changed (POP d) = refl
  instruction_changed (PUSH r) = refl
  instruction_changed (RCALL o) = refl
  instruction_changed RET = refl
  instruction_changed RETI = refl
  instruction_changed (RJMP o) = refl
  instruction_changed (ROR d) = refl
  instruction_changed (SBC d r) = refl
  instruction_changed (SBCI d K) = refl
  instruction_changed (SBI A b) = refl
  instruction_changed (SBIC A b) = refl
  instruction_changed (SBIS A b) = refl
  instruction_changed (SBIW d K) = refl
  instruction_changed (SBRC r b) = refl
  instruction_changed (SBRS r b) = refl
  instruction_changed SLEEP = refl
  instruction_changed (STX r) = cycles_by (λ c. ran_out (store c k r X 0 m)) (λ c other. store_cycles_lem k r X m c other 0) 2 1 (base chip stores) (s stores)
  instruction_changed (STXdec r) = defined_by (s pointers) (is_in r X) (cycles_by (λ c. ran_out (store_dec c k r X m)) (store_dec_cycles k r X m) 2 1 (base chip stores) (s stores))
  instruction_changed (STXinc r) = defined_by (s pointers) (is_in r X) (cycles_by (λ c. ran_out (store_inc c k r X m)) (store_inc_cycles k r X m) 2 1 (base chip stores) (s stores))
  instruction_changed (STYdec r) = defined_by (s pointers) (is_in r Y) (cycles_by (λ c. ran_out (store_dec c k r Y m)) (store_dec_cycles k r Y m) 2 1 (base chip stores) (s stores))
  instruction_changed (STYinc r) = defined_by (s pointers) (is_in r Y) (cycles_by (λ c. ran_out (store_inc c k r Y m)) (store_inc_cycles k r Y m) 2 1 (base chip stores) (s stores))
  instruction_changed (STZdec r) = defined_by (s pointers) (is_in r Z) (cycles_by (λ c. ran_out (store_dec c k r Z m)) (store_dec_cycles k r Z m) 2 1 (base chip stores) (s stores))
  instruction_changed (STZinc r) = defined_by (s pointers) (is_in r Z) (cycles_by (λ c. ran_out (store_inc c k r Z m)) (store_inc_cycles k r Z m) 2 1 (base chip stores) (s stores))
  instruction_changed (STDY q r) = cycles_by (λ c. ran_out (store c k r Y q m)) (λ c other. store_cycles_lem k r Y m c other q) 2 1 (base chip stores) (s stores)
  instruction_changed (STDZ q r) = cycles_by (λ c. ran_out (store c k r Z q m)) (λ c other. store_cycles_lem k r Z m c other q) 2 1 (base chip stores) (s stores)
  instruction_changed (STS a r) = refl
  instruction_changed (SUB d r) = refl
  instruction_changed (SUBI d K) = refl
  instruction_changed (SWAP d) = refl
  instruction_changed WDR = answer_by (s outside) Watchdog (next k 1 1) m
  instruction_changed UNDEF = refl
