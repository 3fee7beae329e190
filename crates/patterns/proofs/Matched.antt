-- Where the walk's test passes, a match on the arms is `decode_of`, for every word and every second word.
-- Assumes nothing.
use Prim.Native.Nat.{ℕ, zero, suc, ◌+◌, ◌*◌, ◌/◌, ◌%◌, ◌^◌, ◌<◌}
use mathlib.Core.Bool.{Bool, true, false, ◌&&◌}
use mathlib.Core.List.{List, [], ◌∷◌}
use mathlib.Core.Path.{◌≡◌, refl, sym, ◌∙◌, ap}
use mathlib.Core.Logic.{◌⊎◌, inl, inr, ⊎_elim}
use native.Mathlib.Omega.{arith}
use native.Mathlib.Nat.{div-div-eq-div-mul, pow-suc, div-one}
use lib.Dec.{T, eqb}
use Rattle.basis.proofs.Both.{both_left, both_right}
use Rattle.instruction.proofs.Laws.{second_word_alone}
use Rattle.instruction.proofs.Tests.{same→eq}
use Rattle.instruction.specs.Decode.{decode_of}
use Rattle.instruction.specs.Fields.{with_second}
use Rattle.instruction.specs.declared.Instruction.{Instruction}
use Rattle.instruction.specs.declared.Instruction.TheVariants.{UNDEF}
use Rattle.patterns.specs.Pattern.{fixed, letter, Letters, plain, wide, given, Arm, arm, fits, taken, take, first, bits, matched}
use Rattle.patterns.proofs.Walk.{advance, leaf, walk}

-- ---- a bit read off the front
one_fixed : (t u : Bool) (i j : Instruction) (a : Arm) (l : List Arm) (bs : List ℕ) (s : ℕ)
    → j ≡ first l bs s → first (a ∷ l) bs s ≡ elim u [ true ↦ i | false ↦ first l bs s ]
    → elim (t && u) [ true ↦ i | false ↦ j ] ≡ first (elim t [ true ↦ a ∷ l | false ↦ l ]) bs s
one_fixed true u i j a l bs s e h = ap (λ (z : Instruction). elim u [ true ↦ i | false ↦ z ]) e ∙ sym h
one_fixed false u i j a l bs s e h = e

advanced : (b : ℕ) (l : List Arm) (bs : List ℕ) (s : ℕ) → first l (b ∷ bs) s ≡ first (advance b l) bs s
advanced b [] bs s = refl
advanced b (arm [] x m ∷ l) bs s = advanced b l bs s
advanced b (arm (fixed v ∷ ps) x m ∷ l) bs s =
    one_fixed (eqb v b) (fits ps bs) _ (first l (b ∷ bs) s) (arm ps x m) (advance b l) bs s (advanced b l bs s) refl
advanced b (arm (letter c ∷ ps) x m ∷ l) bs s =
    ap (λ (z : Instruction). elim (fits ps bs) [ true ↦ given m (taken ps bs (take c b x)) s | false ↦ z ]) (advanced b l bs s)

-- ---- the second word
-- each body with a second word takes it as `with_second` puts it in
abbrev pub TakesSecond : ℕ → List Arm → Type 0
TakesSecond s [] = Unit
TakesSecond s (arm ps x (plain f) ∷ l) = TakesSecond s l
TakesSecond s (arm ps x (wide g) ∷ l) = ((y : Letters) → g y s ≡ with_second s (g y 0)) × TakesSecond s l

kept_if : (s : ℕ) (t : Bool) (a : Arm) (l : List Arm) → TakesSecond s (a ∷ l) → TakesSecond s l → TakesSecond s (elim t [ true ↦ a ∷ l | false ↦ l ])
kept_if s true a l h k = h
kept_if s false a l h k = k

still_takes : (s b : ℕ) (l : List Arm) → TakesSecond s l → TakesSecond s (advance b l)
still_takes s b [] h = h
still_takes s b (arm [] x (plain f) ∷ l) h = still_takes s b l h
still_takes s b (arm [] x (wide g) ∷ l) h = still_takes s b l h.1
still_takes s b (arm (fixed v ∷ ps) x (plain f) ∷ l) h = let k = still_takes s b l h in kept_if s (eqb v b) (arm ps x (plain f)) (advance b l) k k
still_takes s b (arm (fixed v ∷ ps) x (wide g) ∷ l) h = let k = still_takes s b l h.1 in kept_if s (eqb v b) (arm ps x (wide g)) (advance b l) (h.0, k) k
still_takes s b (arm (letter c ∷ ps) x (plain f) ∷ l) h = still_takes s b l h
still_takes s b (arm (letter c ∷ ps) x (wide g) ∷ l) h = (h.0, still_takes s b l h.1)

at_leaf : (s v : ℕ) (l : List Arm) → TakesSecond s l → T (leaf l (decode_of v s) (decode_of v 0)) → first l [] s ≡ decode_of v s
at_leaf s v [] h t = same→eq UNDEF (decode_of v s) t
at_leaf s v (arm [] x (plain f) ∷ l) h t = same→eq (f x) (decode_of v s) t
at_leaf s v (arm [] x (wide g) ∷ l) h t = h.0 x ∙ ap (with_second s) (same→eq (g x 0) (decode_of v 0) t) ∙ sym (second_word_alone v s)
at_leaf s v (arm (fixed u ∷ ps) x (plain f) ∷ l) h t = at_leaf s v l h t
at_leaf s v (arm (fixed u ∷ ps) x (wide g) ∷ l) h t = at_leaf s v l h.1 t
at_leaf s v (arm (letter c ∷ ps) x (plain f) ∷ l) h t = at_leaf s v l h t
at_leaf s v (arm (letter c ∷ ps) x (wide g) ∷ l) h t = at_leaf s v l h.1 t

-- ---- down the bits
-- the bit below v: 0 or 1
next_bit : (q v : ℕ) → q / 2 ≡ v → ((q % 2 ≡ 0) × (q ≡ v * 2)) ⊎ ((q % 2 ≡ 1) × (q ≡ v * 2 + 1))
next_bit q v e = go (q % 2) refl
  where
    go : (b : ℕ) → q % 2 ≡ b → ((q % 2 ≡ 0) × (q ≡ v * 2)) ⊎ ((q % 2 ≡ 1) × (q ≡ v * 2 + 1))
    go zero f = inl (f, omega arith)
    go (suc zero) f = inr (f, omega arith)
    go (suc (suc b)) f = absurd (omega arith)

halved : (w n v : ℕ) → w / 2 ^ suc n ≡ v → w / 2 ^ n / 2 ≡ v
halved w n v e = div-div-eq-div-mul w (2 ^ n) 2 ∙ ap (λ (k : ℕ). w / k) (sym (pow-suc 2 n)) ∙ e

walked : (s n : ℕ) (l : List Arm) (v : ℕ) → TakesSecond s l → T (walk s n l v) → (w : ℕ) → w / 2 ^ n ≡ v → first l (bits n w) s ≡ decode_of w s
unfolding walk
walked s zero l v h t w e =
    let f : w ≡ v = sym (div-one w) ∙ e in
    rw f (at_leaf s v l h t)
walked s (suc n) l v h t w e =
    advanced (w / 2 ^ n % 2) l (bits n w) s
    ∙ ⊎_elim
    (λ p. rw p.0 (walked s n (advance 0 l) (v * 2) (still_takes s 0 l h) (both_left (walk s n (advance 0 l) (v * 2)) _ t) w p.1))
    (λ p. rw p.0 (walked s n (advance 1 l) (v * 2 + 1) (still_takes s 1 l h) (both_right (walk s n (advance 0 l) (v * 2)) _ t) w p.1))
    (next_bit (w / 2 ^ n) v (halved w n v e))

pub matched_is_decode : (l : List Arm) (w s : ℕ) → w < 65536 → TakesSecond s l → T (walk s 16 l 0) → matched l w s ≡ decode_of w s
unfolding matched
matched_is_decode l w s h takes t = walked s 16 l 0 takes t w (omega arith)
