-- Past all arms of `ready` stand the skips by registers, which the words behind PC allow, and what needs nothing.
-- Assumes nothing.
use Rattle.std.proofs.Common.{◌≡◌, ℕ, ◌+◌, ◌<◌, Bool, true, false, eqb, ltb, List, [], ◌∷◌, get_or, sym, refl, ap, ◌∙◌, inl, inr}
use mathlib.Core.Bool.{beq}
use Rattle.basis.specs.Pick.{pick}
use Rattle.basis.specs.Bit.{one, bit}
use Rattle.instruction.specs.Decode.{decode_of, d5, r5, b3}
use Rattle.instruction.specs.declared.Instruction.{Instruction}
use Rattle.instruction.specs.declared.Instruction.TheVariants.{CPSE, SBRC, SBRS}
use Rattle.forms.specs.Forms.{form, form_of}
use Rattle.forms.specs.Instructions.{instructions, by_form, instruction_of}
use Rattle.forms.proofs.Alone.{form_alone}
use Rattle.forms.proofs.Fit.{fields_fit}
use Rattle.memory.specs.Memory.{has_word_of}
use Rattle.cores.specs.Flow.{two_at}
use Rattle.cores.specs.State.{with_regs, with_pc, with_sp, with_busy, with_inhibit, with_service, with_chip}
use Rattle.execute.specs.Execute.{done_of}
use Rattle.execute.specs.declared.Done.TheVariants as done
use Rattle.registers.proofs.Found.{found, found_past, NoneOf}
use Rattle.effects.specs.Parts.{stood, cored}
use Rattle.run.specs.Ready.{Unrefused}
use Rattle.run.proofs.Unrefused.{NeedsOf, by_skip}

-- the forms of the arms, in their order
abbrev pub asked : List ℕ
asked = 13 ∷ 25 ∷ 58 ∷ 59 ∷ 60 ∷ 66 ∷ 67 ∷ 27 ∷ 30 ∷ 31 ∷ 32 ∷ 33 ∷ 34 ∷ 35 ∷ 36 ∷ 37 ∷ 38 ∷ 40 ∷ 41 ∷ 42 ∷ 43 ∷ 55 ∷ 56 ∷ 57 ∷ 72 ∷ 73 ∷ 74 ∷ 75 ∷ 76 ∷ 77 ∷ 78 ∷ 79 ∷ 80 ∷ 81 ∷ 14 ∷ 65 ∷ 10 ∷ 71 ∷ 85 ∷ 86 ∷ []

-- a word's form, with the word and the one behind it, is its instruction
pub told : (f w x : ℕ) → f ≡ form_of w → instruction_of f w x ≡ decode_of w x
told f w x e = ap (λ g. instruction_of g w x) (e ∙ sym (form_alone w x)) ∙ fields_fit w x

module _ (rs : List ℕ) (pc sp : ℕ) (p m : List ℕ) (low : pc < 65534) (word : has_word_of p pc ≡ true) where
  -- whether the word behind PC begins an instruction of two
  abbrev two : Bool
  two = two_at decode_of (cored rs (stood pc 0 0 0 false false) false) p

  over : (i : Instruction) (taken : Bool) (runs : done_of i ≡ done.Ran)
      → NeedsOf rs pc sp p m i runs (record { program = pick taken (has_word_of p pc) true; room = pick taken (ltb (pc + one two) 65535) true; stack = true; bytes = true })
      → Unrefused rs pc sp p m i
  over i taken runs h = by_skip rs pc sp p m i runs low word taken two true h refl

  -- every other instruction that is no UNDEF, in the enum's order
  others : (f w x : ℕ) → NoneOf Unit f asked → (form (instruction_of f w x) ≡ 86 → ⊥) → Unrefused rs pc sp p m (instruction_of f w x)
  unfolding with_regs with_pc with_sp with_busy with_inhibit with_service with_chip
  others f w x h = rw (found f) (found_past (λ i. (form i ≡ 86 → ⊥) → Unrefused rs pc sp p m i) (λ n. absurd (n refl)) f asked h (by_form (instructions w x))
      (inr (λ _. (refl, λ s inhibit service chip. refl)), (inr (λ _. (refl, λ s inhibit service chip. refl)), (inr (λ _. (refl, λ s inhibit service chip. refl)), (inr (λ _. (refl, λ s inhibit service chip. refl)), (inr (λ _. (refl, λ s inhibit service chip. refl)), (inr (λ _. (refl, λ s inhibit service chip. refl)), (inr (λ _. (refl, λ s inhibit service chip. refl)), (inr (λ _. (refl, λ s inhibit service chip. refl)), (inr (λ _. (refl, λ s inhibit service chip. refl)), (inr (λ _. (refl, λ s inhibit service chip. refl)), (inl tt, (inr (λ _. (refl, λ s inhibit service chip. refl)), (inr (λ _. (refl, λ s inhibit service chip. refl)), (inl tt, (inl tt, (inr (λ _. (refl, λ s inhibit service chip. refl)), (inr (λ _. (refl, λ s inhibit service chip. refl)), (inr (λ _. (refl, λ s inhibit service chip. refl)), (inr (λ _. (refl, λ s inhibit service chip. refl)), (inr (λ _. over (CPSE (d5 w) (r5 w)) (eqb (get_or rs (d5 w) 0) (get_or rs (r5 w) 0)) refl (λ s inhibit service chip. refl)), (inr (λ _. (refl, λ s inhibit service chip. refl)), (inr (λ _. (refl, λ s inhibit service chip. refl)), (inr (λ _. (refl, λ s inhibit service chip. refl)), (inr (λ _. (refl, λ s inhibit service chip. refl)), (inr (λ _. (refl, λ s inhibit service chip. refl)), (inl tt, (inr (λ _. (refl, λ s inhibit service chip. refl)), (inl tt, (inr (λ _. (refl, λ s inhibit service chip. refl)), (inr (λ _. (refl, λ s inhibit service chip. refl)), (inl tt, (inl tt, (inl tt, (inl tt, (inl tt, (inl tt, (inl tt, (inl tt, (inl tt, (inr (λ _. (refl, λ s inhibit service chip. refl)), (inl tt, (inl tt, (inl tt, (inl tt, (inr (λ _. (refl, λ s inhibit service chip. refl)), (inr (λ _. (refl, λ s inhibit service chip. refl)), (inr (λ _. (refl, λ s inhibit service chip. refl)), (inr (λ _. (refl, λ s inhibit service chip. refl)), (inr (λ _. (refl, λ s inhibit service chip. refl)), (inr (λ _. (refl, λ s inhibit service chip. refl)), (inr (λ _. (refl, λ s inhibit service chip. refl)), (inr (λ _. (refl, λ s inhibit service chip. refl)), (inr (λ _. (refl, λ s inhibit service chip. refl)), (inr (λ _. (refl, λ s inhibit service chip. refl)), (inl tt, (inl tt, (inl tt, (inl tt, (inl tt, (inl tt, (inr (λ _. (refl, λ s inhibit service chip. refl)), (inr (λ _. (refl, λ s inhibit service chip. refl)), (inr (λ _. (refl, λ s inhibit service chip. refl)), (inr (λ _. (refl, λ s inhibit service chip. refl)), (inl tt, (inl tt, (inl tt, (inr (λ _. (refl, λ s inhibit service chip. refl)), (inr (λ _. over (SBRC (d5 w) (b3 w)) (beq (bit (get_or rs (d5 w) 0) (b3 w)) false) refl (λ s inhibit service chip. refl)), (inr (λ _. over (SBRS (d5 w) (b3 w)) (beq (bit (get_or rs (d5 w) 0) (b3 w)) true) refl (λ s inhibit service chip. refl)), (inl tt, (inl tt, (inl tt, (inl tt, (inl tt, (inl tt, (inl tt, (inl tt, (inl tt, (inl tt, (inl tt, (inr (λ _. (refl, λ s inhibit service chip. refl)), (inr (λ _. (refl, λ s inhibit service chip. refl)), (inr (λ _. (refl, λ s inhibit service chip. refl)), (inl tt, tt))))))))))))))))))))))))))))))))))))))))))))))))))))))))))))))))))))))))))))))))))))))

  -- of a word's form, which is not UNDEF's
  pub rest : (f w x : ℕ) → f ≡ form_of w → (f ≡ 86 → ⊥) → NoneOf Unit f asked → Unrefused rs pc sp p m (instruction_of f w x)
  rest f w x e n h = others f w x h λ z. n (e ∙ sym (form_alone w x) ∙ ap form (sym (told f w x e)) ∙ z)
