-- A tick by the manual. The instruction, its opcode and what stands behind PC 65,535 are the manual's; the waits, the entry and the refusals, which the manual
-- leaves to the device, are 01's.
use Rattle.std.specs.Prelude.{false, ◌&&◌, List, ℕ, ◌+◌, ◌-◌, eqb, ltb, Some, None}
use Rattle.basis.specs.Pick.{pick}
use Rattle.instruction.specs.Decode.{decode_of}
use Rattle.instruction.specs.Code.{two_words}
use Rattle.instruction.specs.declared.Instruction.{Instruction}
use Rattle.memory.specs.Memory.{program_word_of}
use Rattle.cores.specs.declared.Core.{Core}
use Rattle.cores.specs.State.{with_busy, with_pc, with_inhibit}
use Rattle.execute.specs.Needs.{Needs, refusal, needs, fetched, with_fetch}
use Rattle.tick.specs.Offer.{Offer}
use Rattle.tick.specs.declared.Answer.TheVariants.{Refused, Waited, End}
use Rattle.tick.specs.Tick.{Tick, due, entered}
use Rattle.manual_opcodes.specs.Opcodes.{manual_decode}
use Rattle.manual.specs.Switches.{Switches, end, Says, says}
use Rattle.manual.specs.Instructions.{instruction}

-- what 01 says
abbrev pub told : Tick → Says
told t = says t.answer t.core t.bytes

-- refused by 01, or as said
abbrev pub unless : Needs → Core → List ℕ → Says → Says
unless n k m x = pick (eqb (refusal n) 0) x (says (Refused (refusal n)) k m)

-- the instruction at a PC, by the manual's opcodes
abbrev pub opcode_at : List ℕ → ℕ → Instruction
opcode_at p pc = manual_decode (program_word_of p pc) (program_word_of p (pc + 1))

-- j is k with inhibit clear; k is handed back where the step is refused
unfoldable pub step : Switches → Core → Core → List ℕ → List ℕ → Says
step s k j p m =
    let i = opcode_at p j.pc in
    let two = two_words (opcode_at p (j.pc + 1)) in
    let n = with_fetch (fetched p j.pc i) (needs decode_of (with_pc j (j.pc + 1)) i p m) in
    unless n k m (instruction s two j i p m)

-- with the vector that is due, or none. With the end off, CALL, LDS, STS and a taken skip at PC 65,535 are still refused: the refusals are 01's
unfoldable pub enters_or_steps : Switches → Core → List ℕ → List ℕ → Offer → Says
enters_or_steps s k p m (Some v) = told (entered k v m)
enters_or_steps s k p m None = let j = with_inhibit k false in pick (s end && eqb k.pc 65535) (says End j m) (step s k j p m)

-- core k, program p, data m, offer o
unfoldable pub tick_by : Switches → Core → List ℕ → List ℕ → Offer → Says
tick_by s k p m o =
    pick (ltb 4 k.busy) (says (Refused 5) k m)
    (pick (ltb 0 k.busy) (says Waited (with_busy k (k.busy - 1)) m) (enters_or_steps s k p m (due k o)))
