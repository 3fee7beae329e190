-- A number digit by digit: a digit more, a character that is none, and no character more.
-- Assumes nothing.
use mathlib.Core.Path.{◌≡◌, refl, sym, ◌∙◌}
use mathlib.Core.Bool.{false, and-false}
use mathlib.Core.List.{List, [], ◌∷◌}
use Prim.Native.Nat.{ℕ, zero, suc, ◌+◌, ◌*◌, ◌-◌, ◌^◌, ◌≤◌, ◌<◌, min}
use native.Mathlib.Omega.{arith}
use native.Mathlib.Nat.{mul-le-mul_left, pow-suc, pow-le-pow_right}
use native.Mathlib.Numerals.{add-one}
use lib.Dec.{T, eqb, eqb→eq, ltb}
use lib.ListN.{length, drop, take, get_or, length-take, drop_of_length-le}
use lib.Seq.{drop-cons, get_or-take}
use borrow.Author.Tests.{lt-ltb, le-ltb, lt-leb, ltb-true, ltb-false}
use Rattle.std.specs.Char.{digit_value}
use Rattle.basis.specs.Pick.{pick}
use Rattle.basis.proofs.Choice.{test, either}
use Rattle.basis.proofs.Every.{at}
use Rattle.schedule_text.specs.Reading.{Number, worth, digits_from}

-- ---- what a character is worth, by the library's value of it: past `z` there is no digit, so a test of the characters up to it says what holds of all
worth_here : (c : ℕ) → c < 123 → T (pick (ltb (digit_value c) 16) (eqb (worth c) (digit_value c)) (eqb (worth c) 99))
unfolding worth
worth_here c h = at (λ c. pick (ltb (digit_value c) 16) (eqb (worth c) (digit_value c)) (eqb (worth c) 99)) 123 tt c h

no_worth_past : (c : ℕ) → 123 ≤ c → worth c ≡ 99
unfolding worth
no_worth_past c h = rw (lt-leb c 57 (omega arith), and-false, lt-leb c 70 (omega arith), and-false, lt-leb c 102 (omega arith), and-false)

no_value_past : (c : ℕ) → 123 ≤ c → digit_value c ≡ 36
no_value_past c h = grind arith

value_is : (c : ℕ) → digit_value c < 16 → worth c ≡ digit_value c
value_is c h =
    test (ltb c 123)
    (λ e. eqb→eq (worth c) (digit_value c) (rw (lt-ltb (digit_value c) 16 h) at (worth_here c (ltb-true c 123 e))))
    (λ e. absurd (omega (arith, no_value_past c (ltb-false c 123 e))))

no_value : (c : ℕ) → 16 ≤ digit_value c → worth c ≡ 99
no_value c h =
    test (ltb c 123)
    (λ e. eqb→eq (worth c) 99 (rw (le-ltb (digit_value c) 16 h) at (worth_here c (ltb-true c 123 e))))
    (λ e. no_worth_past c (ltb-false c 123 e))

above : (c base : ℕ) → base ≤ 16 → base ≤ digit_value c → base ≤ worth c
above c base b h =
    test (ltb (digit_value c) 16)
    (λ e. omega (arith, value_is c (ltb-true (digit_value c) 16 e)))
    (λ e. omega (arith, no_value c (ltb-false (digit_value c) 16 e)))

-- ---- one character more of the first eight
-- a digit more is a number of one place more, and eight places are 32 bits
grows : (base value n d : ℕ) → base ≤ 16 → value < 16 ^ n → d < base → value * base + d < 16 ^ (n + 1)
grows base value n d b v h =
    let m = mul-le-mul_left value b in
    let p : 16 ^ (n + 1) ≡ 16 ^ n * 16 = rw (add-one n) (pow-suc 16 n) in
    omega arith

fits : (n : ℕ) → n < 8 → 16 ^ (n + 1) ≤ 4294967296
fits n h = pow-le-pow_right {n = 16} (omega arith) {i = n + 1} {j = 8} (omega arith)

pub record More (text : List ℕ) (base value n d : ℕ) : Type 0 where
  pub small : value * base + d < 16 ^ (n + 1)
  pub fits : value * base + d < 4294967296
  pub rest : digits_from (8 - n) base value n (drop n text) ≡ digits_from (8 - (n + 1)) base (value * base + d) (n + 1) (drop (n + 1) text)

module _ (text : List ℕ) (most n base value : ℕ) (m : most ≡ min (length text) 8) (b : base ≤ 16) where
  at_place : n < length text → drop n text ≡ get_or text n 0 ∷ drop (n + 1) text
  at_place h = drop-cons text n 0 h ∙ rw (add-one n)

  inside : n < length (take most text) → (n < length text) × (n < 8) × (get_or (take most text) n 0 ≡ get_or text n 0)
  inside h = let k = length-take most text in (omega arith, omega arith, get_or-take most text n 0 (omega arith))

  pub more : (d : ℕ) → n < length (take most text) → value < 16 ^ n → digit_value (get_or (take most text) n 0) < base → d ≡ digit_value (get_or (take most text) n 0) → More text base value n d
  unfolding digits_from
  more d h v small is =
      let (i, e, same) = inside h in
      let c = get_or text n 0 in
      let low : digit_value c < base = rw same at small in
      let w : worth c ≡ d = value_is c (omega arith) ∙ sym (rw same at is) in
      let left : 8 - n ≡ suc (8 - (n + 1)) = omega arith in
      let g = grows base value n d b v (omega (arith, is)) in
      record {
        small = g;
        fits = omega (arith, fits n e);
        rest = rw (left, at_place i, lt-ltb (worth c) base (omega arith), w);
      }

  pub none : n < length (take most text) → (digit_value (get_or (take most text) n 0) < base → ⊥) → digits_from (8 - n) base value n (drop n text) ≡ record { value = value; length = n }
  unfolding digits_from
  none h not_low =
      let (i, e, same) = inside h in
      let c = get_or text n 0 in
      let high : base ≤ digit_value c = rw same at (ltb-false (digit_value (get_or (take most text) n 0)) base (not_below not_low)) in
      let left : 8 - n ≡ suc (8 - (n + 1)) = omega arith in
      rw (left, at_place i, le-ltb (worth c) base (above c base b high))
    where
      not_below : {x y : ℕ} → (x < y → ⊥) → ltb x y ≡ false
      not_below {x} {y} h = test (ltb x y) (λ e. absurd (h (ltb-true x y e))) (λ e. e)

  pub over : length (take most text) ≤ n → n ≤ length (take most text) → digits_from (8 - n) base value n (drop n text) ≡ record { value = value; length = most }
  unfolding digits_from
  over h k =
      let t = length-take most text in
      let e : n ≡ most = omega arith in
      test (ltb (length text) 8)
      (λ f. let short = ltb-true (length text) 8 f in rw (drop_of_length-le text {i = n} (omega arith), e) (nothing (8 - most)))
      (λ f. let long = ltb-false (length text) 8 f in let z : 8 - n ≡ 0 = omega arith in rw (z, e))
    where
      nothing : (left : ℕ) → digits_from left base value most [] ≡ record { value = value; length = most }
      nothing zero = refl
      nothing (suc left) = refl

-- ---- a number takes no more characters than there are
pub digits_fit : (left base value n : ℕ) (l : List ℕ) → (digits_from left base value n l).length ≤ n + length l
unfolding digits_from
digits_fit zero base value n l = omega arith
digits_fit (suc left) base value n [] = omega arith
digits_fit (suc left) base value n (c ∷ l) =
    let more = digits_fit left base (value * base + worth c) (n + 1) l in
    either (λ (x : Number). x.length ≤ n + suc (length l)) (ltb (worth c) base) _ _ (omega arith) (omega arith)
