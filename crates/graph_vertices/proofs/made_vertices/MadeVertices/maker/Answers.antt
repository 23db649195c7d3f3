use Rattle.std.proofs.Common.{List, sym, ◌∙◌, ap}
use Rattle.graph_model.specs.States.{maker}
use Rattle.graph_model.specs.declared.made_vertex.MadeVertex.{MadeVertex}
use Rattle.graph_vertices.proofs.NodeMakers.{maker_past}
use Rattle.graph_vertices.proofs.made_vertices.MadeVertices.maker.Goals as goal

pub returns-in-None : goal.returns-in-None
returns-in-None c =
    let it = c.self.inside in
    c.len.ensures ∙ it.items.ok.0 ∙ maker_past it.items.items it.makers c.args.node c.self.invariant.1 (sym c.get.ensures ∙ c.in-None.is)
    ∙ ap (λ (vs : List MadeVertex). maker vs c.args.node) c.self.view_is
