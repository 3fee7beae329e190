-- 01's table, refusals 1 to 4: what an instruction needs, of a core whose PC is behind its first word.
use Rattle.std.specs.Prelude.{ℕ, ◌+◌, Bool, true, false, ◌&&◌, List, length, ◌==◌, nat_le, nat_lt, Result, Ok, Err}
use Rattle.std.specs.Bool.{beq}
use Rattle.basis.specs.Pick.{pick}
use Rattle.basis.specs.Bit.{one, bit, up}
use Rattle.instruction.specs.Code.{two_words}
use Rattle.instruction.specs.declared.Instruction.{Instruction}
use Rattle.instruction.specs.declared.Instruction.TheVariants.{ADC, ADD, ADIW, AND, ANDI, ASR, BCLR, BLD, BRBC, BRBS, BREAK, BSET, BST, CALL, CBI, COM, CP, CPC, CPI, CPSE, DEC, EOR, FMUL, FMULS, FMULSU, ICALL, IJMP, IN, INC, JMP, LDX, LDXinc, LDXdec, LDYinc, LDYdec, LDZinc, LDZdec, LDDY, LDDZ, LDI, LDS, LPM, LPMZ, LPMZinc, LSL, LSR, MOV, MOVW, MUL, MULS, MULSU, NEG, NOP, OR, ORI, OUT, POP, PUSH, RCALL, RET, RETI, RJMP, ROR, SBC, SBCI, SBI, SBIC, SBIS, SBIW, SBRC, SBRS, SLEEP, STX, STXdec, STXinc, STYdec, STYinc, STZdec, STZinc, STDY, STDZ, STS, SUB, SUBI, SWAP, WDR, UNDEF}
use Rattle.memory.specs.Memory.{has_of, has_word_of}
use Rattle.cores.specs.declared.Core.{Core}
use Rattle.cores.specs.State.{reg, word}
use Rattle.cores.specs.Flow.{two_at, data_bit_is}
use Rattle.cores.specs.Transfer.{reach_of, pointed_of}
use Rattle.execute.specs.declared.lack.Lack.{Lack}
use Rattle.execute.specs.declared.lack.Lack.TheVariants.{Program, Room, Stack, Data}

-- what a step needs is there: one test for each of refusals 1 to 4
pub record Needs : Type 0 where
  pub program : Bool  -- 1: every word and every LPM byte is wholly in program
  pub room : Bool  -- 2: PC stays below 65,536
  pub stack : Bool  -- 3: SP stays from 0 to 65,535
  pub bytes : Bool  -- 4: every data byte is in data

-- "Where two refusals apply, the lower of 1 to 4 is given": 0 where nothing is lacking
abbrev pub refusal : Needs → ℕ
refusal n = pick n.program (pick n.room (pick n.stack (pick n.bytes 0 4) 3) 2) 1

-- the table's number of each: 1 "isn't wholly in program", 2 "PC 65,534", 3 "SP below 2; SP above 65,533", 4 "a data byte needed isn't in data"
abbrev pub lack_number : Lack → ℕ
lack_number Program = 1
lack_number Room = 2
lack_number Stack = 3
lack_number Data = 4

-- and 0 where nothing is lacking
abbrev pub said_lack : Result Unit Lack → ℕ
said_lack (Ok t) = 0
said_lack (Err l) = lack_number l

-- ---- what several instructions need
abbrev pub nothing : Needs
nothing = record { program = true; room = true; stack = true; bytes = true }

abbrev pub byte : Bool → Needs
byte b = record { program = true; room = true; stack = true; bytes = b }

abbrev pub program_byte : Bool → Needs
program_byte b = record { program = b; room = true; stack = true; bytes = true }

-- "CALL, LDS, STS at PC 65,534": PC is behind the opcode, so at 65,535
abbrev pub second_needs : Core → ℕ → List ℕ → Needs
second_needs k at m = record { program = true; room = nat_lt k.pc 65535; stack = true; bytes = reach_of at (length m) }

-- "entry, CALL, RCALL, ICALL with SP below 2": bytes SP and SP-1
abbrev pub push_needs : Core → List ℕ → Needs
push_needs k m = record { program = true; room = true; stack = nat_le 2 k.sp; bytes = has_of m k.sp }

abbrev pub call_needs : Core → List ℕ → Needs
call_needs k m = record { program = true; room = nat_lt k.pc 65535; stack = nat_le 2 k.sp; bytes = has_of m k.sp }

-- "RET, RETI with SP above 65,533": bytes SP+1 and SP+2
abbrev pub pop_needs : Core → List ℕ → Needs
pop_needs k m = record { program = true; room = true; stack = nat_le k.sp 65533; bytes = has_of m (k.sp + 2) }

-- a byte at the pointer in registers p and p + 1, with q added
abbrev pub at_pointer : Core → ℕ → ℕ → Bool → List ℕ → Needs
at_pointer k p q dec m = byte (reach_of (pointed_of k p dec + q) (length m))

-- "opcode, a second word the instruction uses (CALL JMP LDS STS)": in program, the opcode at pc
abbrev pub fetched : List ℕ → ℕ → Instruction → Bool
fetched p pc op = has_word_of p pc && pick (two_words op) (has_word_of p (pc + 1)) true

abbrev pub with_fetch : Bool → Needs → Needs
with_fetch f n = record { program = f && n.program; room = n.room; stack = n.stack; bytes = n.bytes }

module _ (decode : ℕ → ℕ → Instruction) where
  -- "taken skip at PC 65,534, or at 65,533 over a two-word instruction"; "the word to be skipped"; b: the skip's own data byte
  abbrev pub skip_needs : Core → Bool → List ℕ → Bool → Needs
  skip_needs k taken p b =
      record {
        program = pick taken (has_word_of p k.pc) true;
        room = pick taken (nat_lt (k.pc + one (two_at decode k p)) 65535) true;
        stack = true;
        bytes = b;
      }

  -- program p, data m
  abbrev pub needs : Core → Instruction → List ℕ → List ℕ → Needs
  needs k (ADC d r) p m = nothing
  needs k (ADD d r) p m = nothing
  needs k (ADIW d K) p m = nothing
  needs k (AND d r) p m = nothing
  needs k (ANDI d K) p m = nothing
  needs k (ASR d) p m = nothing
  needs k (BCLR s) p m = nothing
  needs k (BLD d b) p m = nothing
  needs k (BRBC s t) p m = nothing
  needs k (BRBS s t) p m = nothing
  needs k BREAK p m = nothing
  needs k (BSET s) p m = nothing
  needs k (BST d b) p m = nothing
  needs k (CALL t) p m = call_needs k m
  needs k (CBI A b) p m = byte (has_of m A)
  needs k (COM d) p m = nothing
  needs k (CP d r) p m = nothing
  needs k (CPC d r) p m = nothing
  needs k (CPI d K) p m = nothing
  needs k (CPSE d r) p m = skip_needs k (reg k d == reg k r) p true
  needs k (DEC d) p m = nothing
  needs k (EOR d r) p m = nothing
  needs k (FMUL d r) p m = nothing
  needs k (FMULS d r) p m = nothing
  needs k (FMULSU d r) p m = nothing
  needs k ICALL p m = push_needs k m
  needs k IJMP p m = nothing
  needs k (IN d A) p m = byte (reach_of A (length m))
  needs k (INC d) p m = nothing
  needs k (JMP t) p m = nothing
  needs k (LDX d) p m = at_pointer k 26 0 false m
  needs k (LDXinc d) p m = at_pointer k 26 0 false m
  needs k (LDXdec d) p m = at_pointer k 26 0 true m
  needs k (LDYinc d) p m = at_pointer k 28 0 false m
  needs k (LDYdec d) p m = at_pointer k 28 0 true m
  needs k (LDZinc d) p m = at_pointer k 30 0 false m
  needs k (LDZdec d) p m = at_pointer k 30 0 true m
  needs k (LDDY d q) p m = at_pointer k 28 q false m
  needs k (LDDZ d q) p m = at_pointer k 30 q false m
  needs k (LDI d K) p m = nothing
  needs k (LDS d at) p m = second_needs k at m
  needs k LPM p m = program_byte (has_of p (word k 30))
  needs k (LPMZ d) p m = program_byte (has_of p (word k 30))
  needs k (LPMZinc d) p m = program_byte (has_of p (word k 30))
  needs k (LSL d) p m = nothing
  needs k (LSR d) p m = nothing
  needs k (MOV d r) p m = nothing
  needs k (MOVW d r) p m = nothing
  needs k (MUL d r) p m = nothing
  needs k (MULS d r) p m = nothing
  needs k (MULSU d r) p m = nothing
  needs k (NEG d) p m = nothing
  needs k NOP p m = nothing
  needs k (OR d r) p m = nothing
  needs k (ORI d K) p m = nothing
  needs k (OUT A r) p m = byte (reach_of A (length m))
  needs k (POP d) p m = byte (reach_of (up k.sp 1) (length m))
  needs k (PUSH d) p m = byte (reach_of k.sp (length m))
  needs k (RCALL t) p m = push_needs k m
  needs k RET p m = pop_needs k m
  needs k RETI p m = pop_needs k m
  needs k (RJMP t) p m = nothing
  needs k (ROR d) p m = nothing
  needs k (SBC d r) p m = nothing
  needs k (SBCI d K) p m = nothing
  needs k (SBI A b) p m = byte (has_of m A)
  needs k (SBIC A b) p m = skip_needs k (data_bit_is m A b false) p (has_of m A)
  needs k (SBIS A b) p m = skip_needs k (data_bit_is m A b true) p (has_of m A)
  needs k (SBIW d K) p m = nothing
  needs k (SBRC r b) p m = skip_needs k (beq (bit (reg k r) b) false) p true
  needs k (SBRS r b) p m = skip_needs k (beq (bit (reg k r) b) true) p true
  needs k SLEEP p m = nothing
  needs k (STX r) p m = at_pointer k 26 0 false m
  needs k (STXdec r) p m = at_pointer k 26 0 true m
  needs k (STXinc r) p m = at_pointer k 26 0 false m
  needs k (STYdec r) p m = at_pointer k 28 0 true m
  needs k (STYinc r) p m = at_pointer k 28 0 false m
  needs k (STZdec r) p m = at_pointer k 30 0 true m
  needs k (STZinc r) p m = at_pointer k 30 0 false m
  needs k (STDY q r) p m = at_pointer k 28 q false m
  needs k (STDZ q r) p m = at_pointer k 30 q false m
  needs k (STS at r) p m = second_needs k at m
  needs k (SUB d r) p m = nothing
  needs k (SUBI d K) p m = nothing
  needs k (SWAP d) p m = nothing
  needs k WDR p m = nothing
  needs k UNDEF p m = nothing
