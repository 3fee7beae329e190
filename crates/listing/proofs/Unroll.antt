-- One turn of a listing of p: a is the address of the next line, r the row there, k how many words it has.
-- Assumes nothing.
use Rattle.std.proofs.Common.{◌≡◌, ℕ, zero, suc, ◌+◌, ◌-◌, ◌*◌, ◌/◌, ◌<◌, ◌≤◌, ltb, List, [], ◌∷◌, ◌++◌, length, refl, ap, arith, le-ltb, lt-ltb}
use native.Mathlib.Nat.{sub-zero}
use Rattle.basis.specs.Pick.{pick}
use Rattle.listing.specs.declared.row.Row.{Row}
use Rattle.listing.specs.declared.row.Row.TheVariants.{Lone, Single, Double}
use Rattle.listing.specs.Listing.{Line, row_at, words_in, line_text, lines_from, lines_of, text_of}

pub some_word : (r : Row) → 1 ≤ words_in r
some_word (Lone b) = omega arith
some_word (Single w i) = omega arith
some_word (Double w s i) = omega arith

-- how many lines there may be counts for nothing where it is enough
enough : (p : List ℕ) (n m a : ℕ) → length p ≤ (n + a) * 2 → length p ≤ (m + a) * 2 → lines_from n p a ≡ lines_from m p a
unfolding lines_from
enough p zero zero a h g = refl
enough p zero (suc m) a h g = rw (le-ltb (a * 2) (length p) (omega arith))
enough p (suc n) zero a h g = rw (le-ltb (a * 2) (length p) (omega arith))
enough p (suc n) (suc m) a h g =
    let r = row_at p a in
    let one = some_word r in
    let tail = enough p n m (a + words_in r) (omega arith) (omega arith) in
    ap (λ (ls : List Line). pick (ltb (a * 2) (length p)) (record { at = a; row = r } ∷ ls) []) tail

-- the lines from a on
abbrev pub rest : List ℕ → ℕ → List Line
rest p a = lines_from ((length p + 1) / 2 - a) p a

pub begun : (p : List ℕ) → text_of (lines_of p) ≡ text_of (rest p 0)
begun p = rw sub-zero

module _ (p : List ℕ) (a : ℕ) where
  pub spent : length p ≤ a * 2 → text_of (rest p a) ≡ []
  unfolding lines_from
  spent h = let z : (length p + 1) / 2 - a ≡ 0 = omega arith in rw z

  next : a * 2 < length p → rest p a ≡ record { at = a; row = row_at p a } ∷ rest p (a + words_in (row_at p a))
  unfolding lines_from
  next l =
      let less : (length p + 1) / 2 - a ≡ suc ((length p + 1) / 2 - (a + 1)) = omega arith in
      let k = words_in (row_at p a) in
      let one = some_word (row_at p a) in
      rw (less, lt-ltb (a * 2) (length p) l, enough p ((length p + 1) / 2 - (a + 1)) ((length p + 1) / 2 - (a + k)) (a + k) (omega arith) (omega arith))

  pub goes_on : (r : Row) (k : ℕ) → a * 2 < length p → r ≡ row_at p a → k ≡ words_in r → text_of (rest p a) ≡ line_text a r ++ text_of (rest p (a + k))
  goes_on r k l is words = rw (next l, ← is, ← words)
