-- A buffer for 65,536 lines of 49 bytes takes the whole of every listing.
-- Assumes nothing.
use Rattle.std.proofs.Common.{ℕ, zero, suc, ◌+◌, ◌*◌, ◌/◌, ◌≤◌, ltb, List, [], ◌∷◌, length, arith, length-append, ltb-false}
use Rattle.basis.specs.Text.{line}
use Rattle.basis.proofs.Choice.{cases, either}
use Rattle.page.proofs.Laid.{in_front}
use Rattle.listing.specs.Listing.{Line, row_at, words_in, line_text, lines_from, lines_of, text_of, listing_of}
use Rattle.listing.specs.Laws.{WholeListing}
use Rattle.listing.proofs.Short.{line_short}

lines_short : (n : ℕ) (p : List ℕ) (a : ℕ) → length (text_of (lines_from n p a)) ≤ n * 49
unfolding lines_from
lines_short zero p a = omega arith
lines_short (suc n) p a =
    let r = row_at p a in
    let ls = lines_from n p (a + words_in r) in
    let first = line_short a r in
    let rest = lines_short n p (a + words_in r) in
    either (λ (ls : List Line). length (text_of ls) ≤ suc n * 49) (ltb (a * 2) (length p)) (record { at = a; row = r } ∷ ls) []
    (omega (arith, length-append (line_text a r) (text_of ls))) (omega arith)

listing_short : (p : List ℕ) → length (listing_of p) ≤ 65536 * 49
listing_short p =
    cases (λ (t : List ℕ). length t ≤ 65536 * 49) (ltb 131072 (length p)) (line "bad input") (text_of (lines_of p)) (λ e. omega arith)
    λ e. let most = ltb-false 131072 (length p) e in omega (arith, lines_short ((length p + 1) / 2) p 0)

pub whole_listing : WholeListing
whole_listing p d o n h q = let short = listing_short p in in_front (listing_of p) d o n (omega arith) q
