-- The page with the lines that are left is the page with the whole trace.
use Rattle.std.proofs.Common.{◌+◌, ◌-◌}
use Rattle.page.specs.Gains.{Gains}
use Rattle.page.specs.declared.Page.{Page}
use Rattle.tracing.specs.Trace.{lines_of, ticks_of}
use Rattle.tracing.proofs.lines.put_lines.Given as goal

abbrev pub invariant-loop-number : goal.invariant-loop-number
invariant-loop-number l =
    (q : Page) → Gains l.page (lines_of (l.budget - l.number) (l.number + 1) l.core l.program l.data) q
    → Gains l.initial.page (ticks_of l.sp l.budget l.program) q
