-- An instruction's encoding, judged: it decodes to the instruction, or is refused for its reason. By families: instructions of one layout, for all fields x and y.
-- Assumes nothing.
use Prim.Native.Nat.{ℕ}
use mathlib.Core.Bool.{Bool, true, false, ◌&&◌}
use mathlib.Core.Logic.{◌⊎◌, inl, inr}
use mathlib.Core.Path.{◌≡◌, refl, ◌∙◌, ap}
use lib.Dec.{T, ltb, ltb→lt, lit<}
use Rattle.basis.proofs.Both.{both_left, both_right}
use Rattle.basis.proofs.Choice.{test}
use Rattle.instruction.specs.Code.{two_words}
use Rattle.instruction.specs.Decode.{decode_of}
use Rattle.instruction.specs.Fields.{with_second}
use Rattle.instruction.specs.declared.Instruction.{Instruction}
use Rattle.instruction.proofs.Laws.{second_word_alone}
use Rattle.instruction.proofs.Tests.{same, same→eq}
use Rattle.encode.specs.Encode.{Encoded, encode_of, bare_of, in_one}
use Rattle.round_trip.specs.RoundTrip.{Decodes, has_none}

abbrev pub Judged : Instruction → Type 0
Judged i =
    (((encode_of i).refusal ≡ 0) × Decodes i)
    ⊎ ((((encode_of i).refusal ≡ 33) × (has_none i ≡ false))
    ⊎ (((encode_of i).refusal ≡ 34) × (has_none i ≡ true)))

-- what is asked of an instruction beside its decoding: its encoding, the second word put in, and whether it has two words, and none
pub record Told : Type 0 where
  pub words : Encoded
  pub filled : Instruction
  pub two : Bool
  pub none : Bool

abbrev pub told : ℕ → Instruction → Told
told s i = record { words = encode_of i; filled = with_second s i; two = two_words i; none = has_none i }

-- instructions of one word, with fields x and y: the word is f where the operands pass t
abbrev pub Family : (ℕ → ℕ → Instruction) → (ℕ → ℕ → Bool) → (ℕ → ℕ → ℕ) → Type 0
Family C t f = (x y s : ℕ) → told s (C x y) ≡ record { words = in_one (t x y) (f x y); filled = C x y; two = false; none = false }

-- the word is one, and decodes to the instruction
abbrev pub right : Instruction → ℕ → Bool
right i w = ltb w 65536 && same (decode_of w 0) i

module _ (C : ℕ → ℕ → Instruction) (t : ℕ → ℕ → Bool) (f : ℕ → ℕ → ℕ) (F : Family C t f) where
  -- one pair of operands, that passes
  within : (x y : ℕ) → t x y ≡ true → T (right (C x y) (f x y)) → Judged (C x y)
  within x y h e =
      let code : encode_of (C x y) ≡ bare_of (f x y) = ap (λ (z : Told). z.words) (F x y 0) ∙ ap (λ (b : Bool). in_one b (f x y)) h in
      let single : two_words (C x y) ≡ false = ap (λ (z : Told). z.two) (F x y 0) in
      let decoded = same→eq (decode_of (f x y) 0) (C x y) (both_right (ltb (f x y) 65536) _ e) in
      let first = ltb→lt (f x y) 65536 (both_left (ltb (f x y) 65536) _ e) in
      inl (
        rw code refl,
        record {
          first = rw code first;
          second = rw code (lit< tt);
          back = λ s. rw (code, single) (second_word_alone (f x y) s ∙ ap (with_second s) decoded ∙ ap (λ (z : Told). z.filled) (F x y s));
        },
      )

  beyond : (x y : ℕ) → t x y ≡ false → Judged (C x y)
  beyond x y h =
      let code = ap (λ (z : Told). z.words) (F x y 0) in
      inr (inl (rw (code, h) refl, ap (λ (z : Told). z.none) (F x y 0)))

  pub judged_at : (x y : ℕ) → (t x y ≡ true → T (right (C x y) (f x y))) → Judged (C x y)
  judged_at x y e = test (t x y) (λ h. within x y h (e h)) (beyond x y)
