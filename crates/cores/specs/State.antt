-- 01, 'The core and its surroundings': "A core is 32 registers, SREG, PC (in words), SP, a busy count, the inhibit flag and the in-service flag."
-- 02, W2: "Each core gets a rule choice, source or chip": chip is true under chip and false under source.
-- A core's record is written out in this file alone.
use Rattle.std.specs.Prelude.{◌≡◌, ℕ, ◌+◌, ◌/◌, ◌%◌, ◌<◌, ◌≤◌, Bool, false, not, Result, Ok, Err, List, length, replicate, nat_lt, slice_index, slice_set}
use Rattle.std.specs.Bool.{beq}
use Rattle.basis.specs.Pick.{pick}
use Rattle.basis.specs.Bit.{bit, put}
use Rattle.memory.specs.Memory.{word_of}
use Rattle.cores.specs.declared.Core.{Core}
use Rattle.cores.specs.declared.NoRegister.{NoRegister}

-- "A fresh core has registers, SREG, PC, busy and both flags zero, and the SP given." 02, W2: "fresh ones have source"
unfoldable pub fresh_of : ℕ → Core
fresh_of sp = record { regs = replicate 32 0; sreg = 0; pc = 0; sp = sp; busy = 0; inhibit = false; in_service = false; chip = false }

-- ---- one field made so, the others kept
unfoldable pub with_regs : Core → List ℕ → Core
with_regs k l = record { regs = l; sreg = k.sreg; pc = k.pc; sp = k.sp; busy = k.busy; inhibit = k.inhibit; in_service = k.in_service; chip = k.chip }

-- register d; above 31 nothing changes
unfoldable pub with_reg : Core → ℕ → ℕ → Core
with_reg k d v = record { regs = slice_set k.regs d v; sreg = k.sreg; pc = k.pc; sp = k.sp; busy = k.busy; inhibit = k.inhibit; in_service = k.in_service; chip = k.chip }

abbrev pub with_sreg : Core → ℕ → Core
with_sreg k v = record { regs = k.regs; sreg = v; pc = k.pc; sp = k.sp; busy = k.busy; inhibit = k.inhibit; in_service = k.in_service; chip = k.chip }

unfoldable pub with_pc : Core → ℕ → Core
with_pc k v = record { regs = k.regs; sreg = k.sreg; pc = v; sp = k.sp; busy = k.busy; inhibit = k.inhibit; in_service = k.in_service; chip = k.chip }

unfoldable pub with_sp : Core → ℕ → Core
with_sp k v = record { regs = k.regs; sreg = k.sreg; pc = k.pc; sp = v; busy = k.busy; inhibit = k.inhibit; in_service = k.in_service; chip = k.chip }

unfoldable pub with_busy : Core → ℕ → Core
with_busy k v = record { regs = k.regs; sreg = k.sreg; pc = k.pc; sp = k.sp; busy = v; inhibit = k.inhibit; in_service = k.in_service; chip = k.chip }

unfoldable pub with_inhibit : Core → Bool → Core
with_inhibit k on = record { regs = k.regs; sreg = k.sreg; pc = k.pc; sp = k.sp; busy = k.busy; inhibit = on; in_service = k.in_service; chip = k.chip }

unfoldable pub with_service : Core → Bool → Core
with_service k on = record { regs = k.regs; sreg = k.sreg; pc = k.pc; sp = k.sp; busy = k.busy; inhibit = k.inhibit; in_service = on; chip = k.chip }

-- the rule
unfoldable pub with_chip : Core → Bool → Core
with_chip k on = record { regs = k.regs; sreg = k.sreg; pc = k.pc; sp = k.sp; busy = k.busy; inhibit = k.inhibit; in_service = k.in_service; chip = on }

-- ---- registers
-- register d, and 0 above 31
abbrev pub reg : Core → ℕ → ℕ
reg k d = slice_index k.regs d

-- registers d and d + 1 as a word, the low byte first
abbrev pub word : Core → ℕ → ℕ
word k d = word_of k.regs d

abbrev pub with_word : Core → ℕ → ℕ → Core
with_word k d v = with_reg (with_reg k d (v % 256)) (d + 1) (v / 256)

-- what a read and a set of a register answer: a refusal's number, and the byte or the core
pub record RegisterRead : Type 0 where
  pub refusal : ℕ
  pub value : ℕ

pub record RegisterSet : Type 0 where
  pub refusal : ℕ
  pub core : Core

-- "6 refused: register number above 31 in read or set"; "a refused register read returns 0 with its number"; 0 is no refusal
abbrev pub read_register_of : Core → ℕ → RegisterRead
read_register_of k r = pick (nat_lt r 32) (record { refusal = 0; value = reg k r }) (record { refusal = 6; value = 0 })

-- "A refused call changes no core"
abbrev pub set_register_of : Core → ℕ → ℕ → RegisterSet
set_register_of k r v = pick (nat_lt r 32) (record { refusal = 0; core = with_reg k r v }) (record { refusal = 6; core = k })

-- what the code's answers say in those numbers: "6 refused: register number above 31 in read or set"
abbrev pub number_of : NoRegister → ℕ
number_of e = 6

abbrev pub said_register : Result ℕ NoRegister → RegisterRead
said_register (Ok v) = record { refusal = 0; value = v }
said_register (Err e) = record { refusal = number_of e; value = 0 }

abbrev pub said_set : Core → Result Core NoRegister → RegisterSet
said_set k (Ok k') = record { refusal = 0; core = k' }
said_set k (Err e) = record { refusal = number_of e; core = k }

-- ---- flags: "SREG bits 0 to 7 are C Z N V S H T I"
abbrev pub flag : Core → ℕ → Bool
flag k b = bit k.sreg b

-- SREG s with these flags new: "S is N xor V"
unfoldable pub cz : ℕ → Bool → Bool → ℕ
cz s c z = put (put s 0 c) 1 z

unfoldable pub znvs : ℕ → Bool → Bool → Bool → ℕ
znvs s z n v = put (put (put (put s 1 z) 2 n) 3 v) 4 (not (beq n v))

unfoldable pub cznvs : ℕ → Bool → Bool → Bool → Bool → ℕ
cznvs s c z n v = znvs (put s 0 c) z n v

unfoldable pub cznvsh : ℕ → Bool → Bool → Bool → Bool → Bool → ℕ
cznvsh s c z n v h = put (cznvs s c z n v) 5 h

-- ---- what an instruction that may store leaves: the core, and the bytes of data
pub record Out : Type 0 where
  pub core : Core
  pub bytes : List ℕ

abbrev pub out : Core → List ℕ → Out
out k m = record { core = k; bytes = m }

-- a core handed back and the bytes of a lent slice are those
pub record Leaves (o : Out) (k : Core) (m : List ℕ) : Type 0 where
  pub core : k ≡ o.core
  pub bytes : m ≡ o.bytes

-- ---- what every core is by its types, with a busy that 01 lets a tick begin with
pub record Sound (k : Core) : Type 0 where
  pub count : length k.regs ≡ 32
  pub reg_lt : (i : ℕ) → reg k i < 256
  pub sreg_lt : k.sreg < 256
  pub pc_lt : k.pc < 65536
  pub sp_lt : k.sp < 65536
  pub busy_le : k.busy ≤ 4
