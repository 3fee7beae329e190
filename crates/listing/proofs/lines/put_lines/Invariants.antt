-- The page with the lines from here on is the page with the whole listing.
use Rattle.std.proofs.Common.{◌-◌, ◌*◌, ◌≤◌, length}
use Rattle.page.specs.Gains.{Gains}
use Rattle.page.specs.declared.Page.{Page}
use Rattle.listing.specs.Listing.{lines_of, text_of}
use Rattle.listing.proofs.Unroll.{rest}
use Rattle.listing.proofs.lines.put_lines.Given as goal

abbrev pub invariant-loop-pc : goal.invariant-loop-pc
invariant-loop-pc l = record {
  within : l.pc ≤ 131072;
  left : (q : Page) → Gains l.page (text_of (rest l.program l.pc)) q → Gains l.initial.page (text_of (lines_of l.program)) q;
}

abbrev pub decreases-loop-pc : goal.decreases-loop-pc
decreases-loop-pc l = length l.program - l.pc * 2
