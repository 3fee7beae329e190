-- W9 at work: time stamps of four bytes, in seconds, the first in R19:R16 and the second in R23:R20, are compared and branched on, with an interrupt at each place. Computed.
-- a and b are stamps, chip the rule, q a question, t a tick's number, place the tick at which an interrupt comes: before CP, or behind each of the four.
use Rattle.std.specs.Prelude.{◌≡◌, Bool, true, false, List, [], ◌∷◌, ℕ, ◌+◌, ◌/◌, ◌%◌, ◌<◌, eqb, replicate, Some, None}
use Rattle.basis.specs.Pick.{pick}
use Rattle.cores.specs.declared.Core.{Core}
use Rattle.cores.specs.State.{fresh_of, with_reg, with_sreg, with_chip}
use Rattle.interrupts.specs.Interrupts.{State, Offers, no_offers, pc, after, AssumedTo}
use Rattle.interrupts.specs.Stamps.{bytes_of}
use Rattle.comparisons.specs.Comparisons.{Question, less, equal, signed_less, flag_of, Comparison, Branch, WithHandlers}

abbrev pub program : Question → List ℕ
program q =
    bytes_of
    (0x1704 ∷  -- CP R16,R20
    0x0715 ∷  -- CPC R17,R21
    0x0726 ∷  -- CPC R18,R22
    0x0737 ∷  -- CPC R19,R23
    (0xF008 + flag_of q) ∷  -- BRBS 0, BRBS 1 or BRBS 4, by what is asked: to PC 6
    0x0000 ∷
    0x0000 ∷
    -- a handler at PC 7 that takes a register and changes the flags, and puts both back
    0x938F ∷  -- PUSH R24
    0xB78F ∷  -- IN R24,SREG
    0x938F ∷  -- PUSH R24
    0x5081 ∷  -- SUBI R24,1
    0x918F ∷  -- POP R24
    0xBF8F ∷  -- OUT SREG,R24
    0x918F ∷  -- POP R24
    0x9518 ∷ [])  -- RETI

abbrev pub first : ℕ → ℕ
first i = 16 + i

abbrev pub second : ℕ → ℕ
second i = 20 + i

-- a stamp into four registers, from x on
abbrev pub stamped : Core → ℕ → ℕ → Core
stamped k x a = with_reg (with_reg (with_reg (with_reg k x (a % 256)) (x + 1) (a / 0x100 % 256)) (x + 2) (a / 0x10000 % 256)) (x + 3) (a / 0x1000000 % 256)

-- I is set, SP is 15, and there are 16 bytes of data
abbrev pub start : Bool → ℕ → ℕ → State
start chip a b = record { core = with_chip (with_sreg (stamped (stamped (fresh_of 15) 16 a) 20 b) 0x80) chip; bytes = replicate 16 0 }

abbrev pub interrupt_at : ℕ → Offers
interrupt_at place t = pick (eqb t place) (Some 7) None

-- ---- the theorems' premises are met: 13:00 and 14:00 of 14 July 2026, whose upper two bytes are the same, so that all hangs on the borrow that the lower two leave
abbrev pub one_pm : ℕ
one_pm = 1784034000  -- 0x6A5632D0

abbrev pub two_pm : ℕ
two_pm = 1784037600  -- 0x6A5640E0

-- the program's first four words are a comparison, and the fifth is the branch behind it
pub record FourBytes : Type 0 where
  pub comparison : (q : Question) → Comparison 4 first second (program q) 0
  pub branch : (q : Question) → Branch (program q) 4 q 1
  -- what demand 3 assumes is met with an interrupt at each of the four places before the end, under either rule; the handler takes 18 ticks
  pub assumed : (chip : Bool) (place : ℕ) → place < 4 → AssumedTo (program less) (start chip one_pm two_pm) 4 (interrupt_at place) 22
  pub with_handlers : (chip : Bool) (place : ℕ) → place < 4 → WithHandlers (program less) (start chip one_pm two_pm) 4 first second (interrupt_at place) 22

-- ---- where the branch goes
abbrev pub says : Bool → Bool → Bool → Question → Bool
says is_less is_equal is_signed_less less = is_less
says is_less is_equal is_signed_less equal = is_equal
says is_less is_equal is_signed_less signed_less = is_signed_less

-- to PC 6 where the answer is yes, and to PC 5 where it is no: with no interrupt, and with one at each of the five places, the last being right before the branch
pub record Told (a b : ℕ) (tells : Question → Bool) : Type 0 where
  pub plain : (chip : Bool) (q : Question) → pc (after (program q) (start chip a b) no_offers 5) ≡ pick (tells q) 6 5
  pub across : (chip : Bool) (q : Question) (place : ℕ) → place < 5 → pc (after (program q) (start chip a b) (interrupt_at place) 23) ≡ pick (tells q) 6 5

pub record StampsTold : Type 0 where
  -- less, equal, signed less
  pub earlier : Told one_pm two_pm (says true false true)
  pub same : Told two_pm two_pm (says false true false)
  pub later : Told two_pm one_pm (says false false false)
  -- 4,294,967,295 is the largest number, and -1 where the top bit is a sign
  pub top : Told 0xFFFFFFFF 0 (says false false true)
  pub below_top : Told 0 0xFFFFFFFF (says true false false)
  -- the lowest signed number less 1 is not in 32 bits: N says no, and S yes
  pub overflow : Told 0x80000000 1 (says false false true)
