-- Past all arms of the match stand the register-only list, which `registers::change` carries out, and what changes nothing.
-- Assumes nothing.
use Rattle.std.proofs.Common.{◌≡◌, ℕ, List, [], ◌∷◌, refl, inl, inr}
use Rattle.instruction.specs.Decode.{decode_of}
use Rattle.instruction.specs.declared.Instruction.{Instruction}
use Rattle.forms.specs.Instructions.{instructions, by_form, instruction_of}
use Rattle.cores.specs.declared.Core.{Core}
use Rattle.execute.specs.Execute.{executed}
use Rattle.registers.specs.Registers.{listed_only}
use Rattle.registers.proofs.Found.{found, found_past, NoneOf}

-- the forms of the arms, in their order
abbrev pub carried : List ℕ
carried = 8 ∷ 9 ∷ 13 ∷ 19 ∷ 25 ∷ 26 ∷ 29 ∷ 58 ∷ 59 ∷ 60 ∷ 61 ∷ 66 ∷ 67 ∷ 69 ∷ 70 ∷ 27 ∷ 30 ∷ 31 ∷ 32 ∷ 33 ∷ 34 ∷ 35 ∷ 36 ∷ 37 ∷ 38 ∷ 40 ∷ 41 ∷ 42 ∷ 43 ∷ 55 ∷ 56 ∷ 57 ∷ 72 ∷ 73 ∷ 74 ∷ 75 ∷ 76 ∷ 77 ∷ 78 ∷ 79 ∷ 80 ∷ 81 ∷ 14 ∷ 65 ∷ []

abbrev Listed : Core → List ℕ → List ℕ → Instruction → Type 0
Listed k p m i = (listed_only i k p m ≡ (executed decode_of k i p m).core) × (m ≡ (executed decode_of k i p m).bytes)

-- every other instruction, in the enum's order
pub others : (f w x : ℕ) (k : Core) (p m : List ℕ) → NoneOf Unit f carried → Listed k p m (instruction_of f w x)
others f w x k p m h = rw (found f) (found_past (Listed k p m) (refl, refl) f carried h (by_form (instructions w x))
    (inr (refl, refl), (inr (refl, refl), (inr (refl, refl), (inr (refl, refl), (inr (refl, refl), (inr (refl, refl), (inr (refl, refl), (inr (refl, refl), (inl tt, (inl tt, (inr (refl, refl), (inr (refl, refl), (inr (refl, refl), (inl tt, (inl tt, (inr (refl, refl), (inr (refl, refl), (inr (refl, refl), (inr (refl, refl), (inl tt, (inr (refl, refl), (inr (refl, refl), (inr (refl, refl), (inr (refl, refl), (inr (refl, refl), (inl tt, (inl tt, (inl tt, (inr (refl, refl), (inl tt, (inl tt, (inl tt, (inl tt, (inl tt, (inl tt, (inl tt, (inl tt, (inl tt, (inl tt, (inr (refl, refl), (inl tt, (inl tt, (inl tt, (inl tt, (inr (refl, refl), (inr (refl, refl), (inr (refl, refl), (inr (refl, refl), (inr (refl, refl), (inr (refl, refl), (inr (refl, refl), (inr (refl, refl), (inr (refl, refl), (inr (refl, refl), (inl tt, (inl tt, (inl tt, (inl tt, (inl tt, (inl tt, (inl tt, (inr (refl, refl), (inr (refl, refl), (inr (refl, refl), (inl tt, (inl tt, (inl tt, (inr (refl, refl), (inl tt, (inl tt, (inr (refl, refl), (inl tt, (inl tt, (inl tt, (inl tt, (inl tt, (inl tt, (inl tt, (inl tt, (inl tt, (inl tt, (inr (refl, refl), (inr (refl, refl), (inr (refl, refl), (inr (refl, refl), tt))))))))))))))))))))))))))))))))))))))))))))))))))))))))))))))))))))))))))))))))))))))
