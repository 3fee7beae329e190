-- The second word changes no form.
-- Assumes nothing.
use mathlib.Core.Path.{◌≡◌, ap, ◌∙◌}
use Prim.Native.Nat.{ℕ}
use lib.Dec.{eqb, eqb→eq}
use Rattle.instruction.specs.Decode.{decode_of}
use Rattle.instruction.specs.Fields.{with_second}
use Rattle.instruction.proofs.Laws.{second_word_alone}
use Rattle.instruction.proofs.Tests.{each}
use Rattle.forms.specs.Forms.{form, form_of}

pub form_alone : (w s : ℕ) → form (decode_of w s) ≡ form_of w
form_alone w s =
    let kept = each (λ op. eqb (form (with_second s op)) (form op)) (λ a b. tt) tt (decode_of w 0) in
    ap form (second_word_alone w s) ∙ eqb→eq (form (with_second s (decode_of w 0))) (form_of w) kept
