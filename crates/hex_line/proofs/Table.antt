-- What characters are worth, by tests that antt computes: below 16, and what the code of a digit says.
-- Assumes nothing.
use mathlib.Core.Path.{◌≡◌, sym, ◌∙◌}
use mathlib.Core.Bool.{true, false, not, ◌||◌, and-false}
use Prim.Native.Nat.{ℕ, ◌<◌}
use native.Mathlib.Omega.{arith}
use lib.Dec.{T, eqb, eqb→eq, ltb, ltb→lt}
use borrow.Author.Tests.{lt-leb, ltb-true, ltb-false}
use Rattle.basis.proofs.Choice.{test, clash}
use Rattle.basis.proofs.Every.{at}
use Rattle.hex_line.specs.Line.{is_digit, value_of}
use Rattle.hex_line.specs.Way.{digit_of}

-- past `f` there is no digit, so a test of the 103 characters up to it says what holds of all
no_digit_past : (c : ℕ) → 102 < c → is_digit c ≡ false
unfolding is_digit
no_digit_past c h = rw (lt-leb c 57 (omega arith), and-false, lt-leb c 70 (omega arith), and-false, lt-leb c 102 (omega arith), and-false)

zero_past : (c : ℕ) → 102 < c → value_of c ≡ 0
unfolding value_of
zero_past c h = rw (lt-leb c 57 (omega arith), and-false, lt-leb c 70 (omega arith), and-false, lt-leb c 102 (omega arith), and-false)

small_here : (c : ℕ) → c < 103 → T (ltb (value_of c) 16)
unfolding value_of
small_here c h = at (λ c. ltb (value_of c) 16) 103 tt c h

pub value_lt : (c : ℕ) → value_of c < 16
value_lt c = test (ltb c 103) (λ e. ltb→lt (value_of c) 16 (small_here c (ltb-true c 103 e))) (λ e. rw (zero_past c (ltb-false c 103 e)) (omega arith))

digit_here : (c : ℕ) → c < 103 → T (not (is_digit c) || eqb (digit_of c) (value_of c))
unfolding is_digit value_of digit_of
digit_here c h = at (λ c. not (is_digit c) || eqb (digit_of c) (value_of c)) 103 tt c h

pub digit_is : (c : ℕ) → is_digit c ≡ true → digit_of c ≡ value_of c
digit_is c h =
    test (ltb c 103)
    (λ e. eqb→eq (digit_of c) (value_of c) (rw h at (digit_here c (ltb-true c 103 e))))
    (λ e. clash (sym h ∙ no_digit_past c (ltb-false c 103 e)))
