-- 02, W8: the encoder and `decode` are each other's way back. w and v are words, s and t words behind them, i is an instruction.
use Rattle.std.specs.Prelude.{Bool, true, [], ◌∷◌, ◌⊎◌, ◌≡◌, ℕ, ◌<◌}
use Rattle.basis.specs.Pick.{pick}
use Rattle.instruction.specs.Code.{one_of, two_words}
use Rattle.instruction.specs.Decode.{decode_of}
use Rattle.instruction.specs.declared.Instruction.{Instruction}
use Rattle.instruction.specs.declared.Instruction.TheVariants.{LSL, UNDEF}
use Rattle.encode.specs.Encode.{Encoded, encode_of}

-- the words of an instruction that is found at w and s: the second counts where it has one
abbrev pub words_of : Instruction → ℕ → ℕ → Encoded
words_of i w s = pick (two_words i) (record { refusal = 0; words = 2; first = w; second = s }) (record { refusal = 0; words = 1; first = w; second = 0 })

-- ---- the theorems, proved in proofs/Round.antt
-- "Encoding what a defined word decodes to, with its second word where it has one, gives the same words back"
abbrev pub EncodesWhatWasDecoded : Type 0
EncodesWhatWasDecoded = (w s : ℕ) → w < 65536 → s < 65536 → (decode_of w s ≡ UNDEF → ⊥) → encode_of (decode_of w s) ≡ words_of (decode_of w s) w s

-- so no two words decode alike
abbrev pub NoTwoAlike : Type 0
NoTwoAlike =
    (w s v t : ℕ) → w < 65536 → s < 65536 → v < 65536 → t < 65536 → (decode_of w s ≡ UNDEF → ⊥) → decode_of w s ≡ decode_of v t
    → (w ≡ v) × (two_words (decode_of w s) ≡ true → s ≡ t)

-- "decoding an encoded instruction gives the instruction", whatever word stands behind one that has no second
pub record Decodes (i : Instruction) : Type 0 where
  pub first : (encode_of i).first < 65536
  pub second : (encode_of i).second < 65536
  pub back : (s : ℕ) → decode_of (encode_of i).first (pick (two_words i) (encode_of i).second s) ≡ i

abbrev pub DecodesWhatWasEncoded : Type 0
DecodesWhatWasEncoded = (i : Instruction) → (encode_of i).refusal ≡ 0 → Decodes i

-- "34 undefined or LSL has no encoding", whatever its operands
abbrev pub has_none : Instruction → Bool
has_none = one_of (UNDEF ∷ LSL 0 ∷ [])

-- "33 an operand outside its field": no words decode to the instruction
abbrev pub Outside : Instruction → Type 0
Outside i = (w s : ℕ) → w < 65536 → s < 65536 → decode_of w s ≡ i → ⊥

-- each refusal exactly when, and there is no third
pub record RefusedExactly (i : Instruction) : Type 0 where
  pub known : ((encode_of i).refusal ≡ 0) ⊎ (((encode_of i).refusal ≡ 33) ⊎ ((encode_of i).refusal ≡ 34))
  pub none : (encode_of i).refusal ≡ 34 → has_none i ≡ true
  pub none_only : has_none i ≡ true → (encode_of i).refusal ≡ 34
  pub outside : (encode_of i).refusal ≡ 33 → (has_none i ≡ true → ⊥) × Outside i
  pub outside_only : (has_none i ≡ true → ⊥) → Outside i → (encode_of i).refusal ≡ 33

abbrev pub RefusesExactly : Type 0
RefusesExactly = (i : Instruction) → RefusedExactly i
