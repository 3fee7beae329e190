-- Demand 2, the manual, for every core by its types with busy at most 4, every program, data and offer.
-- Under source and under chip: `base` (specs/Switches.antt) says how a rule sets the switches, all of them on under source, and which of them chip turns off.
-- 1. With the switches as the core's rule sets them, the manual's tick is 01's, refusals included: they are 01's in both.
-- 2. With the end at PC 65,535 on and the other eight switches set in any way, the tick is 01's, changed as specs/Differences.antt says where an instruction was
--    executed, and not at all where the tick waited, entered, ended or was refused.
-- 3. So each of the eight, alone turned the other way than the rule has it, changes what it names at the instructions it lists, and nothing else.
-- 4. The ninth, the end, turned off, changes the ticks that end, and these alone: they execute what stands at PC 65,535, or refuse it.
-- 5. With every switch off, which is the manual itself, the tick is 01's unless it ends or executes an instruction that remains listed under the rule.
-- 6. The same of a core with rule chip, with the list written out: words that decode doesn't know, SLEEP, WDR, BREAK, CALL and JMP beyond 65,535, and a load into
--    or a store from a stepped pointer.
-- Settings s, switch w, core k, program p, data m, offer o, tick t, instruction i.
use Rattle.std.specs.Prelude.{◌≡◌, Bool, true, false, not, ◌&&◌, ◌||◌, List, [], ◌∷◌, ℕ, eqb, leb}
use Rattle.basis.specs.Pick.{pick}
use Rattle.basis.specs.Bytes.{Bytes}
use Rattle.instruction.specs.Code.{one_of}
use Rattle.instruction.specs.declared.Instruction.{Instruction}
use Rattle.instruction.specs.declared.Instruction.TheVariants.{BREAK, SLEEP, WDR, UNDEF}
use Rattle.cores.specs.declared.Core.{Core}
use Rattle.cores.specs.State.{Sound, with_inhibit}
use Rattle.tick.specs.Offer.{Offer}
use Rattle.tick.specs.Tick.{Tick, number_of, tick_of}
use Rattle.manual.specs.Switches.{Switch, adiw_v, loads, stores, after_sei, unknown, outside, end, target, pointers, Switches, base, the_manual, turned, base_but}
use Rattle.manual.specs.Tick.{told, opcode_at, step, tick_by}
use Rattle.manual.specs.Differences.{steps_its_own, goes_far, lists, listed, changes, changed}

-- the tick executed an instruction: answers 18 to 22
abbrev pub executes : Tick → Bool
executes t = leb 18 (number_of t.answer) && leb (number_of t.answer) 22

-- it ended: answer 23
abbrev pub ended : Tick → Bool
ended t = eqb (number_of t.answer) 23

-- ---- 1
abbrev pub EqualsTheManual : Type 0
EqualsTheManual = (k : Core) (p m : List ℕ) (o : Offer) → Sound k → Bytes p → Bytes m → tick_by (base k.chip) k p m o ≡ told (tick_of k p m o)

-- ---- 2
abbrev pub EqualsBySwitches : Type 0
EqualsBySwitches =
    (s : Switches) (k : Core) (p m : List ℕ) (o : Offer) → Sound k → Bytes p → Bytes m → s end ≡ true
    → let t = tick_of k p m o in
    let i = opcode_at p k.pc in
    tick_by s k p m o ≡ pick (executes t) (changed k.chip s (with_inhibit k false) i (told t)) (told t)

-- ---- 3
-- w, one of the eight, alone the other way: its change where an instruction that it lists was executed, and none else
abbrev pub Alone : Switch → Type 0
Alone w =
    (k : Core) (p m : List ℕ) (o : Offer) → Sound k → Bytes p → Bytes m
    → let t = tick_of k p m o in
    let i = opcode_at p k.pc in
    tick_by (base_but k.chip w) k p m o ≡ pick (executes t && lists w i) (changes w (not (base k.chip w)) k i (told t)) (told t)

-- ADIW: V and S become the manual's under source, and the Rust's under chip
abbrev pub AdiwAlone : Type 0
AdiwAlone = Alone adiw_v

-- pointer loads: under source busy 1 and not 2, under chip 2 and not 1
abbrev pub LoadsAlone : Type 0
LoadsAlone = Alone loads

-- pointer stores: under source busy 0 and not 1, under chip 1 and not 0
abbrev pub StoresAlone : Type 0
StoresAlone = Alone stores

-- SEI: under source inhibit is set, under chip it is clear
abbrev pub SeiAlone : Type 0
SeiAlone = Alone after_sei

-- words that decode doesn't know: undefined
abbrev pub UnknownAlone : Type 0
UnknownAlone = Alone unknown

-- SLEEP sleeps; WDR and BREAK answer ran
abbrev pub OutsideAlone : Type 0
OutsideAlone = Alone outside

-- CALL and JMP with a target of more than 16 bits: PC is the whole target
abbrev pub TargetAlone : Type 0
TargetAlone = Alone target

-- a load into, or a store from, the pointer that it steps: undefined
abbrev pub PointersAlone : Type 0
PointersAlone = Alone pointers

-- ---- 4
abbrev pub with_end : Switches → Switches
with_end s = turned end true s

abbrev pub EndAlone : Type 0
EndAlone =
    (s : Switches) (k : Core) (p m : List ℕ) (o : Offer) → Sound k → Bytes p → Bytes m → s end ≡ false
    → let t = tick_of k p m o in tick_by s k p m o ≡ pick (ended t) (step s k (with_inhibit k false) p m) (tick_by (with_end s) k p m o)

-- ---- 5
abbrev pub EqualsUnlessListed : Type 0
EqualsUnlessListed =
    (k : Core) (p m : List ℕ) (o : Offer) → Sound k → Bytes p → Bytes m
    → let t = tick_of k p m o in
    let i = opcode_at p k.pc in
    ended t ≡ false → (executes t && listed k.chip i) ≡ false → tick_by the_manual k p m o ≡ told t

-- ---- 6
-- what remains listed under chip, beside the end
abbrev pub remains : Instruction → Bool
remains i = one_of (UNDEF ∷ SLEEP ∷ WDR ∷ BREAK ∷ []) i || goes_far i || steps_its_own i

abbrev pub ChipEqualsTheManual : Type 0
ChipEqualsTheManual =
    (k : Core) (p m : List ℕ) (o : Offer) → k.chip ≡ true → Sound k → Bytes p → Bytes m
    → let t = tick_of k p m o in
    ended t ≡ false → (executes t && remains (opcode_at p k.pc)) ≡ false → tick_by the_manual k p m o ≡ told t
