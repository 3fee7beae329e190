-- 01's listed differences, a switch each, and what the manual can say of an instruction.
use Rattle.std.specs.Prelude.{Bool, true, false, not, List, ℕ, eqb}
use Rattle.basis.specs.Pick.{pick}
use Rattle.cores.specs.declared.Core.{Core}
use Rattle.cores.specs.State.{Out}
use Rattle.tick.specs.declared.Answer.{Answer}
use Rattle.tick.specs.declared.Answer.TheVariants.{Ran}

-- where a switch is on the Rust's way stands, where it is off the manual's
pub data Switch : Type 0 where
  adiw_v : Switch  -- ADIW's V, by bit 7 of the word
  loads : Switch  -- pointer loads wait for 2 ticks
  stores : Switch  -- pointer stores wait for 1 tick
  after_sei : Switch  -- no safe instruction after SEI
  unknown : Switch  -- words that decode doesn't know are no-ops
  outside : Switch  -- SLEEP and WDR are no-ops with an answer; BREAK stops
  end : Switch  -- PC 65,535 is the end
  target : Switch  -- target bits of CALL and JMP above the 16th are dropped
  pointers : Switch  -- a load into, or a store from, a stepped pointer goes in the order written

-- how each switch is set: true is on
abbrev pub Switches : Type 0
Switches = Switch → Bool

-- how a rule, source or chip, sets each. 02, W2: "Under chip, ADIW's V is old bit 15 clear and new bit 15 set"; W4: "Under the chip rule BSET 7 sets inhibit as RETI does",
-- and "Pointer loads and stores set busy to one less than the manual's AVRxt cycles for SRAM"
abbrev pub base : Bool → Switches
base chip adiw_v = not chip
base chip loads = not chip
base chip stores = not chip
base chip after_sei = not chip
base chip unknown = true
base chip outside = true
base chip end = true
base chip target = true
base chip pointers = true

abbrev pub the_manual : Switches
the_manual w = false

-- a switch's place in the list
abbrev pub place : Switch → ℕ
place adiw_v = 1
place loads = 2
place stores = 3
place after_sei = 4
place unknown = 5
place outside = 6
place end = 7
place target = 8
place pointers = 9

-- the settings s, with switch w on or off instead
abbrev pub turned : Switch → Bool → Switches → Switches
turned w on s v = pick (eqb (place w) (place v)) on (s v)

-- as the rule sets them, but for w, which is the other way
abbrev pub base_but : Bool → Switch → Switches
base_but chip w = turned w (not (base chip w)) (base chip)

-- what an instruction does
pub data Says : Type 0 where
  -- the manual leaves it undefined, or has an instruction there that this core lacks
  undefined : Says
  -- the circuit sleeps, and executes nothing until it is woken
  sleeps : Core → List ℕ → Says
  -- an answer, a core and the bytes of data
  says : Answer → Core → List ℕ → Says

abbrev pub ran : Core → List ℕ → Says
ran k m = says Ran k m

abbrev pub ran_out : Out → Says
ran_out o = says Ran o.core o.bytes

abbrev pub defined_if : Bool → Says → Says
defined_if b x = pick b x undefined
