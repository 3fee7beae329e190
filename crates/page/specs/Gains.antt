-- A text put into a page of the code.
use Rattle.std.specs.Prelude.{◌≡◌, List, ℕ}
use Rattle.page.specs.Page.{page, Puts}
use Rattle.page.specs.declared.Page.{Page}

-- p is the page before, t the text, and q the page after: the same buffer, with the text
pub record Gains (p : Page) (t : List ℕ) (q : Page) : Type 0 where
  pub same : q.out.ghost_name ≡ p.out.ghost_name
  pub puts : Puts (page p.out.now p.at) t (page q.out.now q.at)
