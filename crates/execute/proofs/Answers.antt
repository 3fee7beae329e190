-- What an executed instruction answers is told by the instruction alone.
-- Assumes nothing.
use Rattle.std.proofs.Common.{◌≡◌, ℕ, zero, suc, Bool, T, eqb, List, sym, refl, ap, ◌∙◌, eqb→eq}
use Rattle.instruction.proofs.Tests.{each}
use Rattle.instruction.specs.declared.Instruction.{Instruction}
use Rattle.cores.specs.declared.Core.{Core}
use Rattle.execute.specs.Execute.{executed, done_of}
use Rattle.execute.specs.declared.Done.{Done}
use Rattle.execute.specs.declared.Done.TheVariants.{Ran, Sleep, Watchdog, Undefined, Break}

-- ---- a test that two are the same
abbrev place : Done → ℕ
place Ran = 0
place Sleep = 1
place Watchdog = 2
place Undefined = 3
place Break = 4

abbrev at_place : ℕ → Done
at_place zero = Ran
at_place (suc zero) = Sleep
at_place (suc (suc zero)) = Watchdog
at_place (suc (suc (suc zero))) = Undefined
at_place (suc (suc (suc (suc n)))) = Break

found : (d : Done) → at_place (place d) ≡ d
found Ran = refl
found Sleep = refl
found Watchdog = refl
found Undefined = refl
found Break = refl

abbrev same_done : Done → Done → Bool
same_done d e = eqb (place d) (place e)

same-done : (d e : Done) → T (same_done d e) → d ≡ e
same-done d e t = sym (found d) ∙ ap at_place (eqb→eq (place d) (place e) t) ∙ found e

-- ---- computed once for each instruction
pub executed-done : (decode : ℕ → ℕ → Instruction) (k : Core) (i : Instruction) (p m : List ℕ) → (executed decode k i p m).done ≡ done_of i
executed-done decode k i p m =
    same-done (executed decode k i p m).done (done_of i) (each (λ i. same_done (executed decode k i p m).done (done_of i)) (λ a b. tt) tt i)
