use Rattle.std.proofs.Common.{[], ◌∷◌, ◌+◌, take, get_or}
use Rattle.std.proofs.lemmas.List.{get_or_default}
use Rattle.vertex_builder.specs.declared.edge.Edge.{Edge}
use Rattle.vertex_builder.specs.Edges.{edges_into}
use Rattle.vertex_builder.proofs.EdgeLists.{edges_into-next, have_both}
use Rattle.vertex_builder.proofs.consumers.add_inputs.Goals as goal

pub loop-place-preserved : goal.loop-place-preserved
loop-place-preserved c =
    let inputs = c.args.inputs.now in
    let k = c.loop-place.place in
    let edge : Edge = record { from = get_or inputs k 0; into = c.args.node; place = k } in
    have_both c.args.lists.now.items c.loop-place.lists.items c.add_edge.new.lists.items
    (edges_into c.args.node 0 (take k inputs)) (edge ∷ []) (edges_into c.args.node 0 (take (k + 1) inputs))
    c.loop-place.invariant c.in_ok-add_edge.ensures
    (edges_into-next c.args.node inputs k (get_or inputs k 0) c.loop-place-test.true (get_or_default inputs k 0 (get_or inputs k 0) c.loop-place-test.true))
