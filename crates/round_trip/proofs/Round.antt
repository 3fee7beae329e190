-- The theorems of specs/RoundTrip.antt.
-- Assumes nothing.
use Prim.Native.Nat.{ℕ, ◌<◌}
use native.Mathlib.Omega.{arith}
use mathlib.Core.Bool.{Bool, true, false, not, ◌||◌}
use mathlib.Core.Logic.{inl, inr, ⊎_elim}
use mathlib.Core.Path.{◌≡◌, refl, sym, ◌∙◌, ap, subst}
use lib.Dec.{T, eqb, eqb→eq, lit<}
use Rattle.basis.specs.Pick.{pick}
use Rattle.basis.proofs.Choice.{clash, either}
use Rattle.instruction.specs.Code.{two_words}
use Rattle.instruction.specs.Decode.{decode_of}
use Rattle.instruction.specs.Fields.{with_second}
use Rattle.instruction.specs.declared.Instruction.{Instruction}
use Rattle.instruction.specs.declared.Instruction.TheVariants.{UNDEF}
use Rattle.instruction.proofs.Laws.{second_word_alone}
use Rattle.instruction.proofs.Tests.{each}
use Rattle.encode.specs.Encode.{Encoded, encode_of}
use Rattle.round_trip.specs.RoundTrip.{words_of, EncodesWhatWasDecoded, NoTwoAlike, Decodes, DecodesWhatWasEncoded, has_none, Outside, RefusesExactly}
use Rattle.round_trip.proofs.Instructions.{judged}
use Rattle.round_trip.proofs.Words.{goes_back_lem}
use Rattle.round_trip.proofs.Second.{seconds}

pub encodes_what_was_decoded : EncodesWhatWasDecoded
encodes_what_was_decoded w s hw hs defined =
    let put = second_word_alone w s in
    ⊎_elim (λ u. absurd (defined (put ∙ ap (with_second s) u)))
    (λ p. rw put (seconds w s (decode_of w 0) hs p.1 p.0))
    (goes_back_lem w hw)

-- ---- words that are there: no refusal, and the first is w
module _ (w s : ℕ) where
  abbrev words : Bool → Encoded
  words t = pick t (record { refusal = 0; words = 2; first = w; second = s }) (record { refusal = 0; words = 1; first = w; second = 0 })

  first : (t : Bool) → (words t).first ≡ w
  first true = refl
  first false = refl

  there : (t : Bool) → (words t).refusal ≡ 0
  there true = refl
  there false = refl

pub no_two_alike : NoTwoAlike
no_two_alike w s v t hw hs hv ht defined e =
    let i = decode_of w s in
    let one = encodes_what_was_decoded w s hw hs defined in
    let other = encodes_what_was_decoded v t hv ht (λ u. defined (e ∙ u)) in
    let alike : words_of i w s ≡ words_of i v t = sym one ∙ subst (λ (j : Instruction). encode_of j ≡ words_of j v t) (sym e) other in (
      sym (first w s (two_words i)) ∙ ap (λ (x : Encoded). x.first) alike ∙ first v t (two_words i),
      λ h. ap (λ (x : Encoded). x.second) (rw h at alike),
    )

-- ---- the other way
abbrev Refusal : Instruction → ℕ → Type 0
Refusal i n = (encode_of i).refusal ≡ n

pub decodes_what_was_encoded : DecodesWhatWasEncoded
decodes_what_was_encoded i e =
    ⊎_elim (λ p. p.1) (⊎_elim (λ p. absurd (omega (arith, p.0))) (λ p. absurd (omega (arith, p.0)))) (judged i)

undefined_has_none : (i : Instruction) → i ≡ UNDEF → has_none i ≡ true
undefined_has_none i e = rw e

outside_is : (i : Instruction) → Refusal i 33 → has_none i ≡ false → Outside i
outside_is i r some w s hw hs e =
    let defined : (decode_of w s ≡ UNDEF → ⊥) = λ u. clash (sym (undefined_has_none i (sym e ∙ u)) ∙ some) in
    let back = subst (λ (j : Instruction). encode_of j ≡ words_of j w s) e (encodes_what_was_decoded w s hw hs defined) in
    let none : (encode_of i).refusal ≡ 0 = rw back (there w s (two_words i)) in
    omega arith

-- UNDEF and LSL, whatever the operands
implied : (a b : Bool) → T (not a || b) → a ≡ true → T b
implied true b t h = t
implied false b t h = clash (sym h)

none_refused : (i : Instruction) → has_none i ≡ true → Refusal i 34
unfolding encode_of
none_refused i h =
    let tested = each (λ i. not (has_none i) || eqb (encode_of i).refusal 34) (λ a b. tt) tt i in
    eqb→eq (encode_of i).refusal 34 (implied (has_none i) (eqb (encode_of i).refusal 34) tested h)

-- an instruction that decodes from its own words is not outside
found : (i : Instruction) → Decodes i → Outside i → ⊥
found i d o =
    let second = either (λ (n : ℕ). n < 65536) (two_words i) (encode_of i).second 0 d.second (lit< tt) in
    o (encode_of i).first (pick (two_words i) (encode_of i).second 0) d.first second (d.back 0)

-- n is the refusal, so m is not
apart : {A : Type 0} (i : Instruction) (n m : ℕ) → Refusal i n → (n ≡ m → ⊥) → Refusal i m → A
apart i n m a f b = absurd (f (sym a ∙ b))

pub refuses_exactly : RefusesExactly
refuses_exactly i =
    ⊎_elim
    (λ p. record {
      known = inl p.0;
      none = apart i 0 34 p.0 (λ z. omega arith);
      none_only = none_refused i;
      outside = apart i 0 33 p.0 (λ z. omega arith);
      outside_only = λ h o. absurd (found i p.1 o);
    })
    (⊎_elim
    (λ p. record {
      known = inr (inl p.0);
      none = apart i 33 34 p.0 (λ z. omega arith);
      none_only = none_refused i;
      outside = λ e. (λ h. clash (sym h ∙ p.1), outside_is i p.0 p.1);
      outside_only = λ h o. p.0;
    })
    (λ p. record {
      known = inr (inr p.0);
      none = λ e. p.1;
      none_only = none_refused i;
      outside = apart i 34 33 p.0 (λ z. omega arith);
      outside_only = λ h o. absurd (h p.1);
    }))
    (judged i)
