-- What is still to come of a text that is gone through: the text itself, its lines, and what a call of `next` does with them.
use Rattle.std.specs.Prelude.{◌≡◌, List, ℕ, drop, Option}
use Rattle.std.specs.Borrow.{Bor}
use Rattle.std.specs.Iterator.{YieldsFirstRef}
use Rattle.hex_line.specs.declared.lines.Lines.{Lines}
use Rattle.hex_line.specs.Line.{lines_of}
use Rattle.hex_line.specs.Way.{line_at}

-- the text that is still to be gone through
abbrev pub text_left : Lines → List ℕ
text_left s = s.rest.now

abbrev pub lines_left : Lines → List (List ℕ)
lines_left s = lines_of (text_left s)

-- a call from s gave r and left t: the first of the lines that were left, where there was one, and the text behind this line and its end
pub record GivesLine (s : Lines) (r : Option (Bor (List ℕ))) (t : Lines) : Type 0 where
  pub lines : YieldsFirstRef lines_left s r t
  pub text : text_left t ≡ drop (line_at (text_left s) 0).next (text_left s)
