-- What each switch, turned the other way than a rule has it, changes of what an instruction does under that rule, and at which instructions.
use Rattle.std.specs.Prelude.{Bool, true, false, not, ◌&&◌, ◌||◌, List, [], ◌∷◌, ℕ, ◌+◌, leb}
use Rattle.basis.specs.Pick.{pick}
use Rattle.instruction.specs.declared.Instruction.{Instruction}
use Rattle.instruction.specs.declared.Instruction.TheVariants.{ADIW, BREAK, CALL, JMP, LDXinc, LDXdec, LDYinc, LDYdec, LDZinc, LDZdec, LPMZinc, SLEEP, STXdec, STXinc, STYdec, STYinc, STZdec, STZinc, WDR, UNDEF}
use Rattle.instruction.specs.Code.{code, one_of, is_pointer_load, is_pointer_store, is_sei}
use Rattle.cores.specs.declared.Core.{Core}
use Rattle.cores.specs.State.{reg, with_sreg, with_busy, with_pc, with_inhibit}
use Rattle.tick.specs.declared.Answer.TheVariants.{Ran}
use Rattle.manual.specs.Notation.{◌!◌, ◌•◌, ◌⊕◌, bar, kept, is, row}
use Rattle.manual.specs.Switches.{Switch, adiw_v, loads, stores, after_sei, unknown, outside, end, target, pointers, Switches, base, Says, undefined, sleeps, says}
use Rattle.manual.specs.Pointers.{X, Y, Z, is_in}

-- ---- at which instructions
-- an instruction's first field: its register, bit or target
abbrev pub field : Instruction → ℕ
field i = (code i).1

-- a load into, or a store from, the pointer that it steps: LPM Z+ too
abbrev pub steps_its_own : Instruction → Bool
steps_its_own i =
    pick (one_of (LDXinc 0 ∷ LDXdec 0 ∷ STXinc 0 ∷ STXdec 0 ∷ []) i) (is_in (field i) X)
    (pick (one_of (LDYinc 0 ∷ LDYdec 0 ∷ STYinc 0 ∷ STYdec 0 ∷ []) i) (is_in (field i) Y)
    (pick (one_of (LDZinc 0 ∷ LDZdec 0 ∷ STZinc 0 ∷ STZdec 0 ∷ LPMZinc 0 ∷ []) i) (is_in (field i) Z) false))

-- a call or a jump to a target of more than 16 bits
abbrev pub goes_far : Instruction → Bool
goes_far i = one_of (CALL 0 ∷ JMP 0 ∷ []) i && leb 65536 (field i)

-- switch w lists instruction i. The end at PC 65,535 is no instruction's
abbrev pub lists : Switch → Instruction → Bool
lists adiw_v i = one_of (ADIW 0 0 ∷ []) i
lists loads i = is_pointer_load i
lists stores i = is_pointer_store i
lists after_sei i = is_sei i
lists unknown i = one_of (UNDEF ∷ []) i
lists outside i = one_of (SLEEP ∷ WDR ∷ BREAK ∷ []) i
lists end i = false
lists target i = goes_far i
lists pointers i = steps_its_own i

-- a switch of l that the rule has on lists i
abbrev pub listed_by : List Switch → Bool → Instruction → Bool
listed_by [] chip i = false
listed_by (w ∷ l) chip i = (base chip w && lists w i) || listed_by l chip i

-- ---- what is changed
-- V by bit 7 of a byte b that was: set where that was clear and the result's bit 15, which N has, is set; S with it
abbrev pub overflow_by : ℕ → Says → Says
overflow_by b undefined = undefined
overflow_by b (sleeps k m) = sleeps k m
overflow_by b (says a k m) =
    let N = k.sreg ! 2 in
    let «V» = bar (b ! 7) • N in
    says a (with_sreg k (row k.sreg kept kept kept (is (N ⊕ «V»)) (is «V») kept kept kept)) m

-- busy n
abbrev pub waits : ℕ → Says → Says
waits n undefined = undefined
waits n (sleeps k m) = sleeps k m
waits n (says a k m) = says a (with_busy k n) m

-- inhibit made so
abbrev pub inhibits : Bool → Says → Says
inhibits on undefined = undefined
inhibits on (sleeps k m) = sleeps k m
inhibits on (says a k m) = says a (with_inhibit k on) m

-- PC t
abbrev pub lands : ℕ → Says → Says
lands t undefined = undefined
lands t (sleeps k m) = sleeps k m
lands t (says a k m) = says a (with_pc k t) m

-- SLEEP sleeps; WDR and BREAK are plain instructions
abbrev pub plainly : Instruction → Says → Says
plainly i undefined = undefined
plainly i (sleeps k m) = sleeps k m
plainly i (says a k m) = pick (one_of (SLEEP ∷ []) i) (sleeps k m) (says Ran k m)

-- ---- each switch
-- what switch w, turned on or off, makes of what is said of an instruction i that it lists, from core k
abbrev pub changes : Switch → Bool → Core → Instruction → Says → Says
changes adiw_v on k i x = overflow_by (reg k (pick on (field i) (field i + 1))) x
changes loads on k i x = waits (pick on 2 1) x
changes stores on k i x = waits (pick on 1 0) x
changes after_sei on k i x = inhibits (not on) x
-- every rule has these on: they are turned off
changes unknown on k i x = undefined
changes outside on k i x = plainly i x
changes end on k i x = x
changes target on k i x = lands (field i) x
changes pointers on k i x = undefined

-- x where a switch is set as the rule has it, y where it is turned
abbrev pub as_set : Bool → Bool → Says → Says → Says
as_set true on x y = pick on x y
as_set false on x y = pick on y x

-- by the switches of l, each where s has it the other way than the rule and it lists i
abbrev pub changed_by : List Switch → Bool → Switches → Core → Instruction → Says → Says
changed_by [] chip s k i x = x
changed_by (w ∷ l) chip s k i x = changed_by l chip s k i (pick (lists w i) (as_set (base chip w) (s w) x (changes w (s w) k i x)) x)

-- the nine; the end changes nothing here
abbrev pub all : List Switch
all = adiw_v ∷ loads ∷ stores ∷ after_sei ∷ unknown ∷ outside ∷ end ∷ target ∷ pointers ∷ []

-- what settings s say of instruction i from core k, by what is said under the rule
unfoldable pub changed : Bool → Switches → Core → Instruction → Says → Says
changed chip s k i x = changed_by all chip s k i x

-- an instruction that remains listed under the rule
abbrev pub listed : Bool → Instruction → Bool
listed chip i = listed_by all chip i
