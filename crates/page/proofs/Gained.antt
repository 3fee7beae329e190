-- Texts put into a page of the code, one behind the other.
-- Assumes nothing.
use Rattle.std.proofs.Common.{List, [], ◌++◌, ℕ, ◌≡◌, refl, sym, ◌∙◌}
use Rattle.page.specs.Page.{page, Prints}
use Rattle.page.specs.Gains.{Gains}
use Rattle.page.specs.declared.Page.{Page}
use Rattle.page.proofs.Laid.{both, prints}
use Rattle.page.proofs.Laid as laid

pub none : (p : Page) → Gains p [] p
none p = record { same = refl; puts = laid.none _ }

infixl 5 ◌then◌
pub ◌then◌ : {p q r : Page} {s t : List ℕ} → Gains p s q → Gains q t r → Gains p (s ++ t) r
a then b = record { same = b.same ∙ a.same; puts = both a.puts b.puts }

-- a buffer that was a page's, from its start on
pub printed : {t : List ℕ} {p q : Page} {x : List ℕ} → Gains p t q → p.at ≡ 0 → x ≡ q.out.now → Prints t p.out.now q.at x
printed g start is = rw is (prints (rw start at g.puts))

-- two pages that a page may be after a text are in one buffer, with the same bytes, and go on at the same place
pub one_page : {p q r : Page} {t : List ℕ} → Gains p t q → Gains p t r → (q.out.ghost_name ≡ r.out.ghost_name) × (page q.out.now q.at ≡ page r.out.now r.at)
one_page a b = (a.same ∙ sym b.same, a.puts.is ∙ sym b.puts.is)
