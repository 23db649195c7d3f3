use Rattle.std.proofs.Common.{ℕ, List, ◌++◌, sym, ◌∙◌, ap}
use Rattle.plan_text.specs.Lines.{vertex_line}
use Rattle.plan_text.proofs.Printed.{lines_more}
use Rattle.plan_text.proofs.lines.vertex_lines.Goals as goal

pub loop-number-preserved : goal.loop-number-preserved
loop-number-preserved c =
    let vertices = c.args.vertices.now in
    let k = c.loop-number.number in
    let vertex = c.index-vertices-number.result in
    let line = c.as_slice.ensures ∙ c.in_ok-line.ensures in
    c.in_ok-extend.ensures.ok
    ∙ ap (λ (l : List ℕ). c.loop-number.text ++ l) line
    ∙ ap (λ (l : List ℕ). l ++ vertex_line k vertex) c.loop-number.invariant
    ∙ sym (lines_more vertices k vertex c.loop-number-test.true c.index-vertices-number.is)
