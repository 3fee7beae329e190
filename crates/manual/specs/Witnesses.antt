-- One tick for each listed difference, under each rule that has it: the manual's way, the switch alone turned off, and the port's. A fresh core but for its rule and what is named, the words at PC 0,
-- one byte of data, no offer. `see` is what shows the difference; 1000 stands for undefined, and 2000 for asleep.
use Rattle.std.specs.Prelude.{◌≡◌, Bool, true, false, List, [], ◌∷◌, ℕ, None}
use Rattle.basis.specs.Bit.{one}
use Rattle.cores.specs.declared.Core.{Core}
use Rattle.cores.specs.State.{fresh_of, with_reg, with_pc, with_sp, with_chip}
use Rattle.tick.specs.Tick.{number_of, tick_of}
use Rattle.manual.specs.Switches.{adiw_v, loads, stores, after_sei, unknown, outside, end, target, pointers, Switches, the_manual, base_but, Says, undefined, sleeps, says}
use Rattle.manual.specs.Tick.{told, tick_by}

-- ---- what is looked at
abbrev pub seen : (Core → ℕ) → Says → ℕ
seen f undefined = 1000
seen f (sleeps k m) = 2000
seen f (says a k m) = f k

abbrev pub sreg : Says → ℕ
sreg x = seen (λ k. k.sreg) x

abbrev pub busy : Says → ℕ
busy x = seen (λ k. k.busy) x

abbrev pub inhibit : Says → ℕ
inhibit x = seen (λ k. one k.inhibit) x

abbrev pub pc : Says → ℕ
pc x = seen (λ k. k.pc) x

abbrev pub number : Says → ℕ
number undefined = 1000
number (sleeps k m) = 2000
number (says a k m) = number_of a

-- ---- a row
-- a fresh core, with this rule
abbrev pub fresh : Bool → Core
fresh chip = with_chip (fresh_of 0) chip

pub record Shows (s : Switches) (k : Core) (p : List ℕ) (see : Says → ℕ) (manual port : ℕ) : Type 0 where
  pub by_manual : see (tick_by s k p (0 ∷ []) None) ≡ manual
  pub by_port : see (told (tick_of k p (0 ∷ []) None)) ≡ port

-- ---- the table
-- the rows that remain under either rule
pub record Remaining (chip : Bool) : Type 0 where
  pub unknown_word : Shows (base_but chip unknown) (fresh chip) (0x01 ∷ 0x00 ∷ []) number 1000 21  -- 0x0001
  pub sleep : Shows (base_but chip outside) (fresh chip) (0x88 ∷ 0x95 ∷ []) number 2000 19  -- SLEEP
  pub wdr : Shows (base_but chip outside) (fresh chip) (0xA8 ∷ 0x95 ∷ []) number 18 20  -- WDR
  pub break : Shows (base_but chip outside) (fresh chip) (0x98 ∷ 0x95 ∷ []) number 18 22  -- BREAK
  pub at_the_end : Shows (base_but chip end) (with_pc (fresh chip) 65535) [] number 1 23  -- no program: the manual's tick needs the word there
  pub jmp : Shows (base_but chip target) (fresh chip) (0x0D ∷ 0x94 ∷ 0x00 ∷ 0x00 ∷ []) pc 65536 0  -- JMP 65,536
  pub stepped : Shows (base_but chip pointers) (fresh chip) (0xAD ∷ 0x91 ∷ []) number 1000 18  -- LD R26, X+

-- the others: ADIW R24, 0 with R25 0x80 (0x14 is N and S, 0x0C is N and V), LD R0, X, ST X, R0, and SEI
abbrev pub Adiw : Switches → Bool → ℕ → ℕ → Type 0
Adiw s chip manual port = Shows s (with_reg (fresh chip) 25 0x80) (0x00 ∷ 0x96 ∷ []) sreg manual port

abbrev pub Load : Switches → Bool → ℕ → ℕ → Type 0
Load s chip manual port = Shows s (fresh chip) (0x0C ∷ 0x90 ∷ []) busy manual port

abbrev pub Store : Switches → Bool → ℕ → ℕ → Type 0
Store s chip manual port = Shows s (fresh chip) (0x0C ∷ 0x92 ∷ []) busy manual port

abbrev pub Sei : Switches → Bool → ℕ → ℕ → Type 0
Sei s chip manual port = Shows s (fresh chip) (0x78 ∷ 0x94 ∷ []) inhibit manual port

pub record Witnesses : Type 0 where
  -- under source
  pub adiw : Adiw (base_but false adiw_v) false 0x14 0x0C
  pub load : Load (base_but false loads) false 1 2
  pub store : Store (base_but false stores) false 0 1
  pub sei : Sei (base_but false after_sei) false 1 0
  pub source : Remaining false
  pub chip : Remaining true

-- and where they agree, by the manual alone
pub record Agreements : Type 0 where
  -- under chip
  pub adiw : Adiw the_manual true 0x14 0x14
  pub load : Load the_manual true 1 1
  pub store : Store the_manual true 0 0
  pub sei : Sei the_manual true 1 1
  -- under either rule, what goes by no pointer: the waits of LDS, LPM, POP, PUSH and STS
  pub lds : (chip : Bool) → Shows the_manual (fresh chip) (0x00 ∷ 0x90 ∷ 0x00 ∷ 0x00 ∷ []) busy 2 2  -- LDS R0, 0
  pub lpm : (chip : Bool) → Shows the_manual (fresh chip) (0xC8 ∷ 0x95 ∷ []) busy 2 2  -- LPM
  pub pop : (chip : Bool) → Shows the_manual (with_sp (fresh chip) 65535) (0x0F ∷ 0x90 ∷ []) busy 1 1  -- POP R0
  pub push : (chip : Bool) → Shows the_manual (fresh chip) (0x0F ∷ 0x92 ∷ []) busy 0 0  -- PUSH R0
  pub sts : (chip : Bool) → Shows the_manual (fresh chip) (0x00 ∷ 0x92 ∷ 0x00 ∷ 0x00 ∷ []) busy 1 1  -- STS 0, R0
