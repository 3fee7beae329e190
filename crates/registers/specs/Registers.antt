-- 01: "Register-only list". One of its instructions changes registers, SREG and busy of a core that does not wait, and under chip SEI sets inhibit (02, W4).
-- rs are the bytes of lent registers, s is an SREG, f a form, w its word, x the word behind it.
use Rattle.std.specs.Prelude.{◌≡◌, Bool, List, ℕ}
use Rattle.basis.specs.Pick.{pick}
use Rattle.instruction.specs.Code.{is_register_only}
use Rattle.instruction.specs.Decode.{decode_of}
use Rattle.instruction.specs.declared.Instruction.{Instruction}
use Rattle.forms.specs.Instructions.{instruction_of}
use Rattle.cores.specs.declared.Core.{Core}
use Rattle.cores.specs.State.{with_pc, with_sp, with_busy, with_inhibit, with_service, with_chip}
use Rattle.cores.specs.Lent.{lent}
use Rattle.execute.specs.Execute.{executed}
use Rattle.registers.specs.declared.Changed.{Changed}

-- a core of these registers, PC, SP, SREG, busy, inhibit, in-service and rule
abbrev pub parted : List ℕ → ℕ → ℕ → ℕ → ℕ → Bool → Bool → Bool → Core
parted rs pc sp s busy inhibit service chip = with_chip (with_service (with_inhibit (with_busy (with_pc (with_sp (lent rs s) sp) pc) busy) inhibit) service) chip

-- what is on the list is executed, anything else changes nothing
abbrev pub listed_only : Instruction → Core → List ℕ → List ℕ → Core
listed_only i k p m = pick (is_register_only i) (executed decode_of k i p m).core k

-- whatever PC, SP, in-service, the second word, program and data are
abbrev pub Changes : ℕ → ℕ → List ℕ → ℕ → Bool → Bool → Changed → List ℕ → Type 0
Changes f w rs s inhibit chip z rs' =
    (pc sp : ℕ) (service : Bool) (x : ℕ) (p m : List ℕ)
    → parted rs' pc sp z.sreg z.busy z.inhibit service chip ≡ listed_only (instruction_of f w x) (parted rs pc sp s 0 inhibit service chip) p m
