use Rattle.std.proofs.Common.{true, get_or, sym, ◌∙◌, refl}
use Rattle.vertex_builder.specs.declared.edge.Edge.{Edge}
use Rattle.vertex_builder.proofs.Chaining.{nothing_chained, one_chained, chains_by}
use Rattle.vertex_builder.proofs.links.Links.chained_after.Goals as goal

abbrev none : Edge
none = record { from = 0; into = 0; place = 0 }

pub returns-then-edges-ne1-clause-next : goal.returns-then-edges-ne1-clause-next
returns-then-edges-ne1-clause-next c =
    let edges = c.consumer_edges-edges in
    nothing_chained c.args.self.now c.args.widened.now c.args.node edges.result.now edges.ensures.edges c.if-edges-ne1.true

pub returns-then-takes_chained-clause-next : goal.returns-then-takes_chained-clause-next
returns-then-takes_chained-clause-next c =
    let nodes = c.args.self.now in
    let edges = c.consumer_edges-edges in
    let edge = get_or edges.result.now 0 none in
    let may = chains_by nodes c.args.widened.now edge c.node.result.now c.node.ensures.at ∙ sym c.takes_chained.ensures ∙ c.if-takes_chained.true in
    sym (one_chained nodes c.args.widened.now c.args.node edges.result.now none edge edges.ensures.edges c.if-edges-ne1.false refl true may)
