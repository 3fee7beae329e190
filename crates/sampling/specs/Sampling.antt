-- 02, W4: "A sampling routine that relies on the instruction after SEI being safe fails in the rerun. Under the chip rule BSET 7 sets inhibit as RETI does, so one
-- instruction runs before an interrupt."
-- k is a core, p a program, m the bytes of data, o an offer, n the number of an answer in 01's table; chip is the rule.
use Rattle.std.specs.Prelude.{◌≡◌, ◌⊎◌, Bool, true, false, List, [], ◌∷◌, ℕ, ◌+◌, ◌≤◌, ◌<◌, get_or, replicate, Some, None}
use Rattle.basis.specs.Bit.{put}
use Rattle.instruction.specs.Decode.{decode_of}
use Rattle.instruction.specs.declared.Instruction.TheVariants.{BSET}
use Rattle.memory.specs.Memory.{has_word_of}
use Rattle.cores.specs.declared.Core.{Core}
use Rattle.cores.specs.State.{reg, flag, fresh_of, with_reg, with_sreg, with_pc, with_inhibit, with_chip}
use Rattle.cores.specs.Flow.{op_at}
use Rattle.tick.specs.Offer.{Offer}
use Rattle.tick.specs.declared.Answer.TheVariants.{Ran}
use Rattle.tick.specs.Tick.{gives, number_of, tick_of}
use Rattle.run.specs.Run.{after_ticks, tick_after}

-- ---- the theorem
-- a core with rule chip stands at SEI, not busy and with I clear
pub record AtSei (k : Core) (p : List ℕ) : Type 0 where
  pub chip : k.chip ≡ true
  pub ready : k.busy ≡ 0
  pub disabled : flag k 7 ≡ false
  pub below : k.pc < 65535
  pub there : has_word_of p k.pc ≡ true
  pub sei : op_at decode_of p k.pc ≡ BSET 7

-- behind SEI: PC is one on, I and inhibit are set, all else is as it was
abbrev pub behind : Core → Core
behind k = with_inhibit (with_sreg (with_pc k (k.pc + 1)) (put k.sreg 7 true)) true

-- whatever is offered at two ticks, o at the first and next at the second
pub record Safe (k : Core) (p m : List ℕ) (o next : Offer) : Type 0 where
  -- the first runs SEI
  pub sei_runs : tick_of k p m o ≡ gives Ran (behind k) m
  -- the second is as if nothing were offered
  pub as_unoffered : tick_of (behind k) p m next ≡ tick_of (behind k) p m None
  -- and neither enters nor waits: it executes the instruction behind SEI (18 to 22), or ends at PC 65,535 (23), or is refused
  pub runs_first : let n = number_of (tick_of (behind k) p m next).answer in (n ≤ 5) ⊎ (18 ≤ n)

-- so the instruction behind SEI runs before any entry
abbrev pub SafeAfterSei : Type 0
SafeAfterSei = (k : Core) (p m : List ℕ) (o next : Offer) → AtSei k p → Safe k p m o next

-- ---- a sampling routine of two instructions, and a handler at PC 2 that takes the sample; low byte of each word first
abbrev pub program : List ℕ
program =
    0x78 ∷ 0x94 ∷  -- SEI
    0x0C ∷ 0x93 ∷  -- ST X,R16: the new sample
    0x10 ∷ 0x91 ∷ 0x00 ∷ 0x00 ∷  -- LDS R17,0: the sample is taken
    0x18 ∷ 0x95 ∷ []  -- RETI

-- the new sample is 0x2A in R16; the old one, 5, is the first of 16 bytes of data, where X points; SP is 15
abbrev pub start : Bool → Core
start chip = with_chip (with_reg (fresh_of 15) 16 0x2A) chip

abbrev pub bytes : List ℕ
bytes = 5 ∷ replicate 15 0

-- the answer of tick t, counted from 0, with the handler's vector offered all the time; and core and data before it
abbrev pub answer_at : Bool → ℕ → ℕ
answer_at chip t = number_of (tick_after t (start chip) program bytes (Some 2)).answer

abbrev pub before : Bool → ℕ → Core × List ℕ
before chip t = after_ticks t (start chip) program bytes (Some 2)

-- the sample in data, and the sample that the handler has taken
abbrev pub sample : Core × List ℕ → ℕ
sample s = get_or s.1 0 0

abbrev pub taken : Core × List ℕ → ℕ
taken s = reg s.0 17

pub record SamplingRoutine : Type 0 where
  -- under chip SEI and the store run, and then comes the entry: after its four waits LDS takes the new sample
  pub chip_sei : answer_at true 0 ≡ 18
  pub chip_store : answer_at true 1 ≡ 18
  pub chip_entry : answer_at true 2 ≡ 17
  pub chip_sample : sample (before true 2) ≡ 0x2A
  pub chip_taken : taken (before true 8) ≡ 0x2A
  -- under source the entry comes before the store: LDS takes the old one
  pub source_sei : answer_at false 0 ≡ 18
  pub source_entry : answer_at false 1 ≡ 17
  pub source_sample : sample (before false 1) ≡ 5
  pub source_taken : taken (before false 7) ≡ 5
