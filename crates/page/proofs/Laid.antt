-- Texts laid one behind the other into a buffer.
-- Assumes nothing.
use mathlib.Core.Path.{◌≡◌, refl, ap, ◌∙◌}
use mathlib.Core.Bool.{Bool, true, false}
use mathlib.Core.List.{List, [], ◌∷◌, ◌++◌}
use Prim.Native.Nat.{ℕ, suc, ◌+◌, ◌≤◌, min}
use native.Mathlib.Omega.{arith}
use lib.Dec.{leb-suc-suc}
use lib.ListN.{length, take, drop, length-take}
use lib.Seq.{take_all, take_at}
use borrow.Author.Tests.{lt-ltb}
use Rattle.basis.specs.Pick.{pick}
use Rattle.page.specs.Page.{Page, page, with_byte, with_text, Puts, Prints}

pub one_byte : (g : Page) (b : ℕ) → with_text g (b ∷ []) ≡ with_byte g b
unfolding with_text
one_byte g b = refl

pub none : (g : Page) → Puts g [] g
unfolding with_text
none g = record { is = refl }

pub in_order : (g : Page) (s t : List ℕ) → with_text g (s ++ t) ≡ with_text (with_text g s) t
unfolding with_text
in_order g [] t = refl
in_order g (b ∷ s) t = in_order (with_byte g b) s t

pub both : {g h j : Page} {s t : List ℕ} → Puts g s h → Puts h t j → Puts g (s ++ t) j
both {g} {h} {j} {s} {t} p q = record { is = rw (in_order g s t, ← p.is) q.is }

-- ---- from a buffer's start
abbrev behind : ℕ → Page → Page
behind x g = page (x ∷ g.bytes) (suc g.at)

next : (t : Bool) (n : ℕ) → pick t (suc n + 1) (suc n) ≡ suc (pick t (n + 1) n)
next true n = omega arith
next false n = refl

shifted : (t : List ℕ) (x : ℕ) (s : List ℕ) (n : ℕ) → with_text (page (x ∷ s) (suc n)) t ≡ behind x (with_text (page s n) t)
unfolding with_text
shifted [] x s n = refl
shifted (b ∷ t) x s n = rw (leb-suc-suc (suc n) (length s), next) (shifted t x _ _)

nothing_fits : (t : List ℕ) → with_text (page [] 0) t ≡ page [] 0
unfolding with_text
nothing_fits [] = refl
nothing_fits (b ∷ t) = nothing_fits t

from_start : (t d : List ℕ) → with_text (page d 0) t ≡ page (take (length d) t ++ drop (length t) d) (length (take (length d) t))
unfolding with_text
from_start [] [] = refl
from_start [] (x ∷ d) = refl
from_start (b ∷ t) [] = nothing_fits t
from_start (b ∷ t) (x ∷ d) =
    rw (lt-ltb 0 (suc (length d)) (omega arith)) (shifted t b d 0 ∙ ap (behind b) (from_start t d))

pub prints : {t d : List ℕ} {n : ℕ} {s : List ℕ} → Puts (page d 0) t (page s n) → Prints t d n s
prints {t} {d} p =
    let is = p.is ∙ from_start t d in
    let count : length (take (length d) t) ≡ min (length t) (length d) = rw length-take (omega arith) in
    record { count = ap (λ (g : Page). g.at) is ∙ count; bytes = ap (λ (g : Page). g.bytes) is }

-- a buffer with room for it has the whole text
pub in_front : (t d o : List ℕ) (n : ℕ) → length t ≤ length d → Prints t d n o → take n o ≡ t
in_front t d o n h p =
    let e : n ≡ length t = omega arith in
    rw (p.bytes, take_all (length d) t h, e) (take_at t (drop (length t) d) (length t) refl)
