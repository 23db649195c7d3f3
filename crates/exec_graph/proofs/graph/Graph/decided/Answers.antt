use Rattle.std.proofs.Common.{List, Bool, true, length, set, sym, ◌∙◌, ap, subst}
use Rattle.std.specs.Prelude.{replicate}
use Rattle.exec_graph.specs.Kept.{IsKept}
use Rattle.rect_cover.specs.Cells.{Reads}
use Rattle.exec_graph.proofs.Keeping.{kept_decided}
use Rattle.exec_graph.proofs.graph.Graph.decided.Goals as goal

pub invariant_of-self-2 : goal.invariant_of-self-2
invariant_of-self-2 c =
    let g = c.self.inside in
    let new = c.decided.new.self in
    let vertex = c.args.vertex in
    subst (λ (marks : List (List Bool)). IsKept new g.attempts marks)
    (sym (c.decide.ensures ∙ ap (set g.ready vertex) (c.in_ok-own.ensures ∙ ap (λ (l : List Reads). replicate (length l) true) c.as_slice.ensures)))
    (kept_decided g.job new vertex c.args.assignment.now g.attempts g.ready c.is_kept.ensures.valid c.self.invariant c.in_ok-decided.ensures.ok)
