-- The layouts of two words: a test with 0 for the second word judges every instruction of a layout, since the second word goes into its field as it is.
-- C is an instruction by its fields, o its pattern with 0 for the letters.
-- Assumes nothing.
use Prim.Native.Nat.{ℕ, ◌+◌, ◌*◌, ◌/◌, ◌%◌, ◌<◌}
use native.Mathlib.Omega.{arith}
use mathlib.Core.Bool.{Bool, true, false, ◌&&◌}
use mathlib.Core.Logic.{inl, inr}
use mathlib.Core.Path.{◌≡◌, refl, ◌∙◌, ap}
use lib.Dec.{T, ltb, ltb→lt}
use borrow.Author.Tests.{ltb-true}
use Rattle.basis.proofs.Both.{both_left, both_right, both_true}
use Rattle.basis.proofs.Choice.{test}
use Rattle.basis.proofs.Every.{every, at}
use Rattle.instruction.specs.Decode.{decode_of}
use Rattle.instruction.specs.Fields.{with_second}
use Rattle.instruction.specs.declared.Instruction.{Instruction}
use Rattle.instruction.proofs.Laws.{second_word_alone}
use Rattle.instruction.proofs.Tests.{same→eq}
use Rattle.encode.specs.Encode.{encode_of, is_register, target_of, data_address_of, in_two}
use Rattle.round_trip.proofs.Judged.{Judged, Told, told, right}

-- an instruction i of two words: they are f and z where the operands pass t; i₀ is i with 0 for the second
module _ (i i₀ j : Instruction) (t : Bool) (f z : ℕ) (F : told z i ≡ record { words = in_two t f z; filled = j; two = true; none = false })
    (filled : with_second z i₀ ≡ i) (second : t ≡ true → z < 65536) (e : t ≡ true → T (right i₀ f)) where
  within : t ≡ true → Judged i
  within h =
      let words : encode_of i ≡ in_two true f z = ap (λ (y : Told). y.words) F ∙ ap (λ (b : Bool). in_two b f z) h in
      let double = ap (λ (y : Told). y.two) F in
      let first = ltb→lt f 65536 (both_left (ltb f 65536) _ (e h)) in
      let decoded = same→eq (decode_of f 0) i₀ (both_right (ltb f 65536) _ (e h)) in
      inl (
        rw words refl,
        record {
          first = rw words first;
          second = rw words (second h);
          back = λ s. rw (words, double) (second_word_alone f z ∙ ap (with_second z) decoded ∙ filled);
        },
      )

  judged : Judged i
  judged = test t within (λ h. inr (inl (rw (ap (λ (y : Told). y.words) F, h) refl, ap (λ (y : Told). y.none) F)))

-- ---- xxxx_xxxd_dddd_xxxx, and the address in the second word
abbrev pub rights_address : ℕ → (ℕ → ℕ → Instruction) → Bool
rights_address o C = every 32 (λ d. right (C d 0) (o + d * 16))

pub data_address : (o : ℕ) (C : ℕ → ℕ → Instruction) → ((d k s : ℕ) → told s (C d k) ≡ record { words = data_address_of o d k; filled = C d s; two = true; none = false })
    → T (rights_address o C) → (d k : ℕ) → Judged (C d k)
data_address o C F t d k =
    let fields = both_true (is_register d) (ltb k 65536) in
    judged (C d k) (C d 0) (C d k) (is_register d && ltb k 65536) (o + d * 16) k (F d k k) (ap (λ (y : Told). y.filled) (F d 0 k))
    (λ h. ltb-true k 65536 (fields h).1)
    (λ h. at (λ d. right (C d 0) (o + d * 16)) 32 t d (ltb-true d 32 (fields h).0))

-- ---- xxxx_xxxk_kkkk_xxxk, and the low 16 bits in the second word
abbrev pub rights_target : ℕ → (ℕ → Instruction) → Bool
rights_target o C = every 64 (λ h. right (C (h * 65536)) (o + h / 2 * 16 + h % 2))

pub target : (o : ℕ) (C : ℕ → Instruction) → ((k s : ℕ) → told s (C k) ≡ record { words = target_of o k; filled = C (k + s); two = true; none = false })
    → T (rights_target o C) → (k : ℕ) → Judged (C k)
target o C F t k =
    let high = k / 65536 in
    let sum : high * 65536 + k % 65536 ≡ k = omega arith in
    let word : o + high / 2 * 16 + high % 2 ≡ o + k / 131072 * 16 + k / 65536 % 2 = omega arith in
    judged (C k) (C (high * 65536)) (C (k + k % 65536)) (ltb k 4194304) (o + k / 131072 * 16 + k / 65536 % 2) (k % 65536) (F k (k % 65536))
    (ap (λ (y : Told). y.filled) (F (high * 65536) (k % 65536)) ∙ ap C sum)
    (λ h. omega arith)
    (λ h. rw word at (at (λ h. right (C (h * 65536)) (o + h / 2 * 16 + h % 2)) 64 t high (omega (arith, ltb-true k 4194304 h))))
