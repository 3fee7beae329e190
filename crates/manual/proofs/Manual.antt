-- The theorems of specs/Statement.antt, but for the end alone.
-- Assumes nothing.
use mathlib.Core.Path.{◌≡◌, refl, sym, ap, ◌∙◌}
use mathlib.Core.Bool.{Bool, true, false, not, ◌&&◌, ◌||◌}
use mathlib.Core.List.{List, [], ◌∷◌}
use Prim.Native.Nat.{ℕ}
use lib.Dec.{eqb}
use Rattle.basis.specs.Pick.{pick}
use Rattle.basis.proofs.Choice.{clash}
use Rattle.instruction.specs.Code.{code}
use Rattle.instruction.specs.declared.Instruction.{Instruction}
use Rattle.cores.specs.declared.Core.{Core}
use Rattle.cores.specs.State.{with_inhibit}
use Rattle.tick.specs.Tick.{tick_of}
use Rattle.manual.specs.Switches.{Switch, adiw_v, loads, stores, after_sei, unknown, outside, end, target, pointers, Switches, base, the_manual, base_but, Says}
use Rattle.manual.specs.Tick.{told, opcode_at, step, tick_by}
use Rattle.manual.specs.Differences.{steps_its_own, goes_far, lists, listed_by, listed, changes, as_set, changed_by, all, changed}
use Rattle.manual.specs.Statement.{executes, EqualsTheManual, EqualsBySwitches, Alone, AdiwAlone, LoadsAlone, StoresAlone, SeiAlone, UnknownAlone, OutsideAlone, TargetAlone, PointersAlone, with_end, EqualsUnlessListed, remains, ChipEqualsTheManual}
use Rattle.manual.proofs.Ticks.{tick_is}
use Rattle.manual.proofs.End.{end_alone}

-- ---- 2
pub equals_by_switches : EqualsBySwitches
unfolding with_inhibit
equals_by_switches s k p m o h pp mm n = tick_is s p m pp mm k o n h

-- ---- a choice of the same
same : (b : Bool) (x : Says) → pick b x x ≡ x
same true x = refl
same false x = refl

-- ---- 1
set_so : (on : Bool) (x y : Says) → as_set on on x y ≡ x
set_so true x y = refl
set_so false x y = refl

as_the_rule : (chip : Bool) (k : Core) (i : Instruction) (x : Says) → changed chip (base chip) k i x ≡ x
unfolding changed
as_the_rule chip k i x = simp (same, set_so)

pub equals_the_manual : EqualsTheManual
equals_the_manual k p m o h pp mm =
    let t = tick_of k p m o in
    equals_by_switches (base k.chip) k p m o h pp mm refl ∙ ap (λ (x : Says). pick (executes t) x (told t)) (as_the_rule k.chip (with_inhibit k false) (opcode_at p k.pc) (told t)) ∙ same (executes t) (told t)

-- ---- 3
turned_so : (on : Bool) (x y : Says) → as_set on (not on) x y ≡ y
turned_so true x y = refl
turned_so false x y = refl

module _ (chip : Bool) where
  alone_changes : (w : Switch) (k : Core) (i : Instruction) (x : Says) → base_but chip w end ≡ true
      → changed chip (base_but chip w) (with_inhibit k false) i x ≡ pick (lists w i) (changes w (not (base chip w)) k i x) x
  unfolding with_inhibit changed
  alone_changes adiw_v k i x n = simp (same, set_so, turned_so)
  alone_changes loads k i x n = simp (same, set_so, turned_so)
  alone_changes stores k i x n = simp (same, set_so, turned_so)
  alone_changes after_sei k i x n = simp (same, set_so, turned_so)
  alone_changes unknown k i x n = simp (same, set_so)
  alone_changes outside k i x n = simp (same, set_so)
  alone_changes end k i x n = clash (sym n)
  alone_changes target k i x n = simp (same, set_so)
  alone_changes pointers k i x n = simp (same, set_so)

and_pick : (a b : Bool) (x y : Says) → pick a (pick b y x) x ≡ pick (a && b) y x
and_pick true b x y = refl
and_pick false b x y = refl

-- where the end stays on
alone : (w : Switch) → ((chip : Bool) → base_but chip w end ≡ true) → Alone w
alone w n k p m o h pp mm =
    let t = tick_of k p m o in
    let i = opcode_at p k.pc in
    equals_by_switches (base_but k.chip w) k p m o h pp mm (n k.chip)
    ∙ ap (λ (x : Says). pick (executes t) x (told t)) (alone_changes k.chip w k i (told t) (n k.chip))
    ∙ and_pick (executes t) (lists w i) (told t) (changes w (not (base k.chip w)) k i (told t))

pub adiw_alone : AdiwAlone
adiw_alone = alone adiw_v (λ chip. refl)

pub loads_alone : LoadsAlone
loads_alone = alone loads (λ chip. refl)

pub stores_alone : StoresAlone
stores_alone = alone stores (λ chip. refl)

pub sei_alone : SeiAlone
sei_alone = alone after_sei (λ chip. refl)

pub unknown_alone : UnknownAlone
unknown_alone = alone unknown (λ chip. refl)

pub outside_alone : OutsideAlone
outside_alone = alone outside (λ chip. refl)

pub target_alone : TargetAlone
target_alone = alone target (λ chip. refl)

pub pointers_alone : PointersAlone
pointers_alone = alone pointers (λ chip. refl)

-- ---- 5
either_false : (a b : Bool) → a || b ≡ false → (a ≡ false) × (b ≡ false)
either_false true b n = clash n
either_false false b n = (refl, n)

-- of the manual with the end on, no switch that is on lists an instruction
abbrev end_on : Switches
end_on = with_end the_manual

only_the_end : (w : Switch) (i : Instruction) → end_on w && lists w i ≡ false
only_the_end adiw_v i = refl
only_the_end loads i = refl
only_the_end stores i = refl
only_the_end after_sei i = refl
only_the_end unknown i = refl
only_the_end outside i = refl
only_the_end end i = refl
only_the_end target i = refl
only_the_end pointers i = refl

-- a switch that lists i, and is off where the rule has it off too, changes nothing
stays : (was on lists_it : Bool) (x y : Says) → was && lists_it ≡ false → on && lists_it ≡ false → pick lists_it (as_set was on x y) x ≡ x
stays was on false x y e n = refl
stays true on true x y e n = clash e
stays false true true x y e n = clash n
stays false false true x y e n = refl

-- where no switch of l remains listed with i, nothing is changed
unlisted : (l : List Switch) (chip : Bool) (k : Core) (i : Instruction) (x : Says) → listed_by l chip i ≡ false → changed_by l chip end_on k i x ≡ x
unlisted [] chip k i x n = refl
unlisted (w ∷ l) chip k i x n =
    let e = either_false (base chip w && lists w i) (listed_by l chip i) n in
    rw (stays (base chip w) (end_on w) (lists w i) x (changes w (end_on w) k i x) e.0 (only_the_end w i)) (unlisted l chip k i x e.1)

unless : (a b : Bool) (x y : Says) → a && b ≡ false → (b ≡ false → y ≡ x) → pick a y x ≡ x
unless true true x y n h = clash n
unless true false x y n h = h refl
unless false b x y n h = refl

pub equals_unless_listed : EqualsUnlessListed
unfolding changed
equals_unless_listed k p m o h pp mm d n =
    let t = tick_of k p m o in
    let i = opcode_at p k.pc in
    let j = with_inhibit k false in
    end_alone the_manual k p m o h pp mm refl
    ∙ ap (λ (b : Bool). pick b (step the_manual k j p m) (tick_by end_on k p m o)) d
    ∙ equals_by_switches end_on k p m o h pp mm refl
    ∙ unless (executes t) (listed_by all k.chip i) (told t) (changed k.chip end_on j i (told t)) n (λ e. unlisted all k.chip j i (told t) e)

-- ---- 6
-- u, s, w and b are the tests of the list, f that it goes far, x that the pointer is its own
regrouped : (u s w b f x : Bool) → ((u || false) || ((s || (w || (b || false))) || (f || (x || false)))) ≡ ((u || (s || (w || (b || false)))) || f || x)
regrouped true s w b f x = refl
regrouped false true w b f x = refl
regrouped false false true b f x = refl
regrouped false false false true f x = refl
regrouped false false false false true x = refl
regrouped false false false false false true = refl
regrouped false false false false false false = refl

abbrev is : ℕ → Instruction → Bool
is n i = eqb (code i).0 n

remain_listed : (i : Instruction) → listed true i ≡ remains i
remain_listed i = regrouped (is 86 i) (is 71 i) (is 85 i) (is 10 i) (goes_far i) (steps_its_own i)

pub chip_equals_the_manual : ChipEqualsTheManual
chip_equals_the_manual k p m o c h pp mm d n =
    let i = opcode_at p k.pc in
    equals_unless_listed k p m o h pp mm d (ap (λ (b : Bool). executes (tick_of k p m o) && b) (ap (λ (chip : Bool). listed chip i) c ∙ remain_listed i) ∙ n)
