-- A text put into a lent buffer. t is a text, b a byte, s are the bytes of a buffer, n is a place in it, g and h are a buffer with its place.
use Rattle.std.specs.Prelude.{◌≡◌, List, [], ◌∷◌, ◌++◌, ℕ, ◌+◌, min, ltb, set, take, drop, length}
use Rattle.basis.specs.Pick.{pick}

-- a text in a buffer: as much of it as fits, n bytes, and behind them what the buffer held
pub record Prints (t before : List ℕ) (n : ℕ) (after : List ℕ) : Type 0 where
  pub count : n ≡ min (length t) (length before)
  pub bytes : after ≡ take (length before) t ++ drop (length t) before

-- ---- a buffer, and where its next byte goes
pub record Page : Type 0 where
  pub bytes : List ℕ
  pub at : ℕ

abbrev pub page : List ℕ → ℕ → Page
page s n = record { bytes = s; at = n }

-- one byte more, which is dropped at the buffer's end
abbrev pub with_byte : Page → ℕ → Page
with_byte g b = page (set g.bytes g.at b) (pick (ltb g.at (length g.bytes)) (g.at + 1) g.at)

unfoldable pub with_text : Page → List ℕ → Page
with_text g [] = g
with_text g (b ∷ t) = with_text (with_byte g b) t

-- a page, a text, and the page with it
pub record Puts (g : Page) (t : List ℕ) (h : Page) : Type 0 where
  pub is : h ≡ with_text g t
