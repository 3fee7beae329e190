-- The rule of 02, W2 and W4, source or chip: no instruction and no tick changes it; which instructions ask for it; and the waits that it decides.
-- op is an instruction, k a core, j the core that an instruction leaves, p a program, m the bytes of data, o an offer, t a tick; on is true for chip and false for source.
use Rattle.std.specs.Prelude.{◌≡◌, Bool, true, false, ◌||◌, List, [], ◌∷◌, ℕ}
use Rattle.instruction.specs.Code.{one_of, is_pointer_load, is_pointer_store, is_sei}
use Rattle.instruction.specs.Decode.{decode_of}
use Rattle.instruction.specs.declared.Instruction.{Instruction}
use Rattle.instruction.specs.declared.Instruction.TheVariants.{ADIW}
use Rattle.rule.specs.Rule.{load_waits, store_waits}
use Rattle.cores.specs.declared.Core.{Core}
use Rattle.cores.specs.State.{with_chip}
use Rattle.cores.specs.Flow.{op_at}
use Rattle.execute.specs.Execute.{executed}
use Rattle.tick.specs.Offer.{Offer}
use Rattle.tick.specs.Tick.{Tick, gives, tick_of}

-- ---- nothing changes it: of any core whatever, and refused or not
abbrev pub InstructionsKeepTheRule : Type 0
InstructionsKeepTheRule = (decode : ℕ → ℕ → Instruction) (op : Instruction) (k : Core) (p m : List ℕ) → (executed decode k op p m).core.chip ≡ k.chip

abbrev pub TicksKeepTheRule : Type 0
TicksKeepTheRule = (k : Core) (p m : List ℕ) (o : Offer) → (tick_of k p m o).core.chip ≡ k.chip

-- ---- the instructions that ask for it: ADIW, pointer loads and stores, and SEI
abbrev pub asks_the_rule : Instruction → Bool
asks_the_rule op = one_of (ADIW 0 0 ∷ []) op || is_pointer_load op || is_pointer_store op || is_sei op

-- the same tick, with this rule
abbrev pub under : Bool → Tick → Tick
under on t = gives t.answer (with_chip t.core on) t.bytes

-- where none of them stands at PC, a tick under one rule is the tick under the other
abbrev pub RulesDifferWhereAsked : Type 0
RulesDifferWhereAsked =
    (k : Core) (p m : List ℕ) (o : Offer) (on : Bool) → asks_the_rule (op_at decode_of p k.pc) ≡ false → tick_of (with_chip k on) p m o ≡ under on (tick_of k p m o)

-- ---- a pointer load and a pointer store wait as the rule has it, in every form and whatever the address, SREG's and SP's too
abbrev pub PointersWaitByTheRule : Type 0
PointersWaitByTheRule =
    (decode : ℕ → ℕ → Instruction) (op : Instruction) (k : Core) (p m : List ℕ)
    → let j = (executed decode k op p m).core in
    (is_pointer_load op ≡ true → j.busy ≡ load_waits k.chip) × (is_pointer_store op ≡ true → j.busy ≡ store_waits k.chip)
