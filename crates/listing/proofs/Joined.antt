-- The lines' words, joined, are the program.
-- Assumes nothing.
use Rattle.std.proofs.Common.{◌≡◌, ℕ, zero, suc, ◌+◌, ◌*◌, ◌/◌, ◌%◌, ◌<◌, ◌≤◌, true, false, ltb, List, ◌∷◌, ◌++◌, length, get_or, drop, sym, ap, ◌∙◌, add-one, arith, drop_of_length-le, drop-cons, ltb-false, ltb-true}
use Rattle.basis.specs.Bytes.{Bytes}
use Rattle.basis.specs.Pick.{pick}
use Rattle.basis.proofs.Choice.{test, cases}
use Rattle.memory.specs.Memory.{program_word_of, has_word_of}
use Rattle.instruction.specs.Code.{two_words}
use Rattle.instruction.specs.declared.Instruction.TheVariants.{UNDEF}
use Rattle.listing.specs.declared.row.Row.{Row}
use Rattle.listing.specs.declared.row.Row.TheVariants.{Lone, Single, Double}
use Rattle.listing.specs.Listing.{whole_at, row_at, words_in, lines_from}
use Rattle.listing.specs.Laws.{word_bytes, row_bytes, joined, decoded_at, WordsAreTheProgram}
use Rattle.listing.proofs.Unroll.{some_word}

module _ (p : List ℕ) (b : Bytes p) (a : ℕ) where
  first : a * 2 < length p → drop (a * 2) p ≡ get_or p (a * 2) 0 ∷ drop (a * 2 + 1) p
  first l = rw add-one (drop-cons p (a * 2) 0 l)

  word_at : has_word_of p a ≡ true → word_bytes (program_word_of p a) ++ drop ((a + 1) * 2) p ≡ drop (a * 2) p
  unfolding program_word_of has_word_of
  word_at e =
      let l : a * 2 + 1 < length p = ltb-true (a * 2 + 1) (length p) e in
      let byte = b.byte_lt (a * 2) in
      let low : (get_or p (a * 2 + 1) 0 * 256 + get_or p (a * 2) 0) % 256 ≡ get_or p (a * 2) 0 = omega arith in
      let high : (get_or p (a * 2 + 1) 0 * 256 + get_or p (a * 2) 0) / 256 ≡ get_or p (a * 2 + 1) 0 = omega arith in
      let next : (a + 1) * 2 ≡ suc (a * 2 + 1) = omega arith in
      rw (low, high, next, first (omega arith), drop-cons p (a * 2 + 1) 0 l)

  lone_at : a * 2 < length p → has_word_of p a ≡ false → get_or p (a * 2) 0 ∷ drop ((a + 1) * 2) p ≡ drop (a * 2) p
  unfolding has_word_of
  lone_at l e =
      let end = ltb-false (a * 2 + 1) (length p) e in
      let over : length p ≤ (a + 1) * 2 = omega arith in
      rw (first l, drop_of_length-le p over, drop_of_length-le p end)

words_at : (p : List ℕ) → Bytes p → (a : ℕ) → has_word_of p a ≡ true → has_word_of p (a + 1) ≡ true
    → word_bytes (program_word_of p a) ++ word_bytes (program_word_of p (a + 1)) ++ drop ((a + 2) * 2) p ≡ drop (a * 2) p
words_at p b a e h =
    let next : (a + 2) * 2 ≡ (a + 1 + 1) * 2 = omega arith in
    rw next (ap (λ (t : List ℕ). word_bytes (program_word_of p a) ++ t) (word_at p b (a + 1) h) ∙ word_at p b a e)

-- a row's bytes stand in front of what follows it
row_at_lem : (p : List ℕ) (b : Bytes p) (a : ℕ) → a * 2 < length p → row_bytes (row_at p a) ++ drop ((a + words_in (row_at p a)) * 2) p ≡ drop (a * 2) p
row_at_lem p b a l =
    let i = decoded_at p a in
    let w = program_word_of p a in
    let s = program_word_of p (a + 1) in
    let In : Row → Type 0 = λ r. row_bytes r ++ drop ((a + words_in r) * 2) p ≡ drop (a * 2) p in
    cases In (has_word_of p a) (whole_at p a i) (Lone (get_or p (a * 2) 0))
    (λ e. cases In (two_words i) (pick (has_word_of p (a + 1)) (Double w s i) (Single w UNDEF)) (Single w i)
    (λ t. cases In (has_word_of p (a + 1)) (Double w s i) (Single w UNDEF) (λ h. words_at p b a e h) (λ h. word_at p b a e)) (λ t. word_at p b a e))
    (λ e. lone_at p b a l e)

join : (n : ℕ) (p : List ℕ) → Bytes p → (a : ℕ) → length p ≤ (n + a) * 2 → joined (lines_from n p a) ≡ drop (a * 2) p
unfolding lines_from
join zero p b a h = sym (drop_of_length-le p {i = a * 2} (omega arith))
join (suc n) p b a h =
    let r = row_at p a in
    let one = some_word r in
    test (ltb (a * 2) (length p)) (λ e. rw (e, join n p b (a + words_in r) (omega arith)) (row_at_lem p b a (ltb-true (a * 2) (length p) e)))
    λ e. rw e (sym (drop_of_length-le p (ltb-false (a * 2) (length p) e)))

pub words_are_the_program : WordsAreTheProgram
words_are_the_program p b = join ((length p + 1) / 2) p b 0 (omega arith)
