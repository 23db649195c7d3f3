use Rattle.std.proofs.Common.{List, [], ◌∷◌, ◌++◌, map, take, ap, sym, ◌∙◌}
use Rattle.vertex_builder.specs.declared.vertex_input.VertexInput.{VertexInput}
use Rattle.vertex_builder.specs.Edges.{edges_into}
use Rattle.vertex_builder.specs.Vertices.{vertex_input}
use Rattle.vertex_builder.proofs.Parts.{inputs_next}
use Rattle.vertex_builder.proofs.making.edge_inputs.Goals as goal

pub loop-place-preserved : goal.loop-place-preserved
loop-place-preserved c =
    let nodes = c.args.links.now in
    let inputs = c.args.inputs.now in
    let k = c.loop-place.place in
    c.in_ok-push.ensures.items
    ∙ ap (λ (made : List VertexInput). made ++ c.in_ok-input_along.field-0 ∷ []) c.loop-place.invariant
    ∙ ap (λ (input : VertexInput). map (vertex_input nodes) (edges_into c.args.node 0 (take k inputs)) ++ input ∷ []) c.in_ok-input_along.ensures
    ∙ sym (inputs_next nodes c.args.node inputs k c.loop-place-test.true)
