use Rattle.std.proofs.Common.{◌+◌, length, List, [], ◌++◌, replicate, take, ap, ◌∙◌, sym, arith}
use Rattle.vertex_builder.specs.declared.edge.Edge.{Edge}
use Rattle.vertex_builder.specs.Edges.{edges_into, edges_of}
use Rattle.vertex_builder.proofs.EdgeLists.{edges_of-next, have_both}
use Rattle.plan_model.proofs.Laws.{few_inputs, node_read}
use Rattle.vertex_builder.proofs.consumers.consumers.Goals as goal

pub add_inputs-requires : goal.add_inputs-requires
add_inputs-requires c =
    let nodes = c.args.nodes.now in
    let k = c.loop-place.place in
    let node = c.index-nodes-place.result in
    let few = few_inputs nodes k node c.requires.faultless (node_read nodes k node c.loop-place-test.true c.index-nodes-place.is) in
    let same = ap length c.as_slice.ensures in
    omega (arith, few)

pub loop-place-preserved : goal.loop-place-preserved
loop-place-preserved c =
    let nodes = c.args.nodes.now in
    let k = c.loop-place.place in
    let node = c.index-nodes-place.result in
    have_both (replicate {A = List Edge} (length nodes) []) c.loop-place.lists.items c.add_inputs.new.lists.items
    (edges_of (take k nodes)) (edges_into k 0 c.as_slice.result.now) (edges_of (take (k + 1) nodes))
    c.loop-place.invariant c.in_ok-add_inputs.ensures
    (edges_of-next nodes k node c.loop-place-test.true c.index-nodes-place.is
    ∙ ap (λ inputs. edges_of (take k nodes) ++ edges_into k 0 inputs) (sym c.as_slice.ensures))
