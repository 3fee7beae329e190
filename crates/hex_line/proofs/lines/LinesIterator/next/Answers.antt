-- The first line, and the others behind it.
use Rattle.std.proofs.Common.{◌≡◌, ◌-◌, List, ◌∷◌, ℕ, take, drop, length, length-drop, arith, rules, sym, ap, ◌∙◌}
use lib.Seq.{take_all, length-take-le}
use Rattle.hex_line.specs.declared.Line.{Line}
use Rattle.hex_line.specs.Line.{lines_of}
use Rattle.hex_line.proofs.Found.{Found, found, first_line, no_lines, no_rest}
use Rattle.hex_line.proofs.lines.LinesIterator.next.Goals as goal
use Rattle.hex_line.proofs.lines.LinesIterator.next.Goals.{After-line_at-stop}

line_found : (c : After-line_at-stop) → Found c.args.self.now.rest.now 0 c.line_at-stop.result.stop c.line_at-stop.result.next
line_found c = found c.args.self.now.rest.now 0 c.line_at-stop.result (search rules) c.line_at-stop.ensures

pub returns-then-is_empty-clause-steps : goal.returns-then-is_empty-clause-steps
returns-then-is_empty-clause-steps c =
    let t = c.args.self.now.rest.now in
    let e = no_lines t 0 (search rules) in
    record { lines = (e, e); text = no_rest t _ (search rules) }

pub slice_bounds-self-count : goal.slice_bounds-self-count
slice_bounds-self-count c = (line_found c).fits

pub slice_bounds-self-start : goal.slice_bounds-self-start
slice_bounds-self-start c = let h = (line_found c).fits in search rules

pub slice_bounds-result-end : goal.slice_bounds-result-end
slice_bounds-result-end c =
    let f = found c.args.self.now.rest.now 0 c.line_at-stop.result (search rules) c.line_at-stop.ensures in
    sym (length-take-le c.line_at-stop.result.stop c.args.self.now.rest.now (omega (arith, f.stops, f.fits)))

pub returns-clause-steps : goal.returns-clause-steps
returns-clause-steps c =
    let t = c.args.self.now.rest.now in
    let next = c.line_at-stop.result.next in
    let rest : take (length t - next) (drop next t) ≡ drop next t = take_all (length t - next) (drop next t) (omega (arith, length-drop next t)) in
    record {
      text = rest ∙ ap (λ (l : Line). drop l.next t) c.line_at-stop.ensures;
      lines = first_line t c.line_at-stop.result (search rules) c.line_at-stop.ensures ∙ ap (λ (z : List ℕ). take c.line_at-stop.result.stop t ∷ lines_of z) (sym rest);
    }

pub returns-clause-goes : goal.returns-clause-goes
returns-clause-goes c = let e = (returns-clause-steps c).lines in search rules
