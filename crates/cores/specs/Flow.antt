-- 01, 'Memory, stack and flow': what changes PC, and the comparisons, in the order of cores.rs. PC is behind the opcode already.
-- k is a core, p a program, m the bytes of data, d and r are register numbers, t is a target, s a bit of SREG.
-- SP and PC are numbers of 16 bits, so each step of theirs wraps here; refusals 2 and 3 keep a tick from getting to where 01 does not wrap.
use Rattle.std.specs.Prelude.{ℕ, ◌+◌, ◌*◌, ◌/◌, ◌%◌, Bool, true, false, ◌&&◌, List, ◌==◌, slice_index, slice_set}
use Rattle.std.specs.Bool.{beq}
use Rattle.basis.specs.Pick.{pick}
use Rattle.basis.specs.Bit.{one, bit, up, down}
use Rattle.alu.specs.Alu.{signed_of, minus_of}
use Rattle.instruction.specs.Code.{two_words}
use Rattle.instruction.specs.declared.Instruction.{Instruction}
use Rattle.memory.specs.Memory.{has_of, program_word_of}
use Rattle.cores.specs.declared.Core.{Core}
use Rattle.cores.specs.State.{Out, out, reg, word, with_sreg, with_pc, with_sp, with_busy, with_inhibit, with_service, flag}
use Rattle.cores.specs.Arithmetic.{sum_flags, is_zero}

-- "relative jumps wrap at 65,536"; "1 for .. taken BRBC/BRBS". The offset is a byte in two's complement
unfoldable pub brbx_of : Core → ℕ → ℕ → Bool → Core
brbx_of k s offset on = pick (beq (flag k s) on) (with_busy (with_pc k (up k.pc (signed_of offset))) 1) k

-- a word on the stack, in "the data bytes themselves": the low byte at SP, the high byte at SP-1; SP falls by 2
abbrev pub word_pushed : Core → ℕ → List ℕ → Out
word_pushed k v m = out (with_sp k (down k.sp 2)) (slice_set (slice_set m k.sp (v % 256)) (down k.sp 1) (v / 256))

-- LDS and STS: past the second word
abbrev pub over_second : Core → Core
over_second k = with_pc k (up k.pc 1)

-- a return address pushed, and a jump to t with so many waits
abbrev pub called : Core → ℕ → ℕ → ℕ → List ℕ → Out
called k back t waits m = let pushed = word_pushed (with_busy k waits) back m in out (with_pc pushed.core t) pushed.bytes

-- "CALL pushes PC+1 after the advance"; its handler uses only the second word of its target
abbrev pub call_of : Core → ℕ → List ℕ → Out
call_of k t m = called k (up k.pc 1) (t % 65536) 2 m

-- "CP CPC CPI write no register." CP and CPI: with a register's byte and with K
abbrev pub cp_of : Core → ℕ → ℕ → Core
cp_of k d byte = let x = minus_of (reg k d) byte false in with_sreg k (sum_flags k x (is_zero x))

abbrev pub cpc_of : Core → ℕ → ℕ → Core
cpc_of k d byte = let x = minus_of (reg k d) byte (flag k 0) in with_sreg k (sum_flags k x (flag k 1 && is_zero x))

-- "1 for .. taken skip of one word; 2 for .. taken skip of two words"
unfoldable pub skipped : Core → Bool → Bool → Core
skipped k taken two = pick taken (with_busy (with_pc k (up k.pc (1 + one two))) (1 + one two)) k

-- "RCALL and ICALL push PC after the advance."
abbrev pub icall_of : Core → List ℕ → Out
icall_of k m = called k k.pc (word k 30) 1 m

-- a jump to t with so many waits
abbrev pub jumped : Core → ℕ → ℕ → Core
jumped k t waits = with_pc (with_busy k waits) t

abbrev pub ijmp_of : Core → Core
ijmp_of k = jumped k (word k 30) 1

abbrev pub jmp_of : Core → ℕ → Core
jmp_of k t = jumped k (t % 65536) 2

-- the offset is a word in two's complement
abbrev pub rcall_of : Core → ℕ → List ℕ → Out
rcall_of k offset m = called k k.pc (up k.pc offset) 1 m

-- "RET reads the high byte at SP+1 and the low byte at SP+2."
abbrev pub ret_of : Core → List ℕ → Core
ret_of k m = with_pc (with_sp (with_busy k 3) (up k.sp 2)) (slice_index m (up k.sp 1) * 256 + slice_index m (up k.sp 2))

-- "RETI also clears in-service and sets inhibit."
abbrev pub reti_of : Core → List ℕ → Core
reti_of k m = with_inhibit (with_service (ret_of k m) false) true

abbrev pub rjmp_of : Core → ℕ → Core
rjmp_of k offset = jumped k (up k.pc offset) 1

-- ---- skips look at the word at PC, by a decoder
-- a byte of data has bit b so; "A skip whose data byte isn't in data counts as not taken"
abbrev pub data_bit_is : List ℕ → ℕ → ℕ → Bool → Bool
data_bit_is m A b on = has_of m A && beq (bit (slice_index m A) b) on

module _ (decode : ℕ → ℕ → Instruction) where
  -- the instruction that begins at a PC
  abbrev pub op_at : List ℕ → ℕ → Instruction
  op_at p pc = decode (program_word_of p pc) (program_word_of p (pc + 1))

  -- the word to be skipped begins an instruction of two words
  abbrev pub two_at : Core → List ℕ → Bool
  two_at k p = two_words (op_at p k.pc)

  abbrev pub cpse_of : Core → ℕ → ℕ → List ℕ → Core
  cpse_of k d r p = skipped k (reg k d == reg k r) (two_at k p)

  -- "CBI, SBI, SBIC and SBIS name data bytes 0 to 31."
  abbrev pub sbix_of : Core → ℕ → ℕ → Bool → List ℕ → List ℕ → Core
  sbix_of k A b on p m = skipped k (data_bit_is m A b on) (two_at k p)

  abbrev pub sbrx_of : Core → ℕ → ℕ → Bool → List ℕ → Core
  sbrx_of k r b on p = skipped k (beq (bit (reg k r) b) on) (two_at k p)
