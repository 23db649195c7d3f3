use Rattle.std.proofs.Common.{◌==◌, List, length, ap, arith}
use Rattle.std.proofs.lemmas.List.Sums.{count_by-le-length, length-filter}
use Rattle.vertex_builder.specs.Vertices.{head_of}
use Rattle.vertex_builder.specs.declared.vertex_input.VertexInput.{VertexInput}
use Rattle.graph_vertices.proofs.shaping.shape_of.Goals as goal

pub split_at-requires : goal.split_at-requires
split_at-requires c =
    let vertex = c.args.vertex.now in
    let a = length-filter (λ (input : VertexInput). input.into == head_of vertex) vertex.inputs in
    let b = count_by-le-length (λ (input : VertexInput). input.into == head_of vertex) vertex.inputs in
    let count = c.head_input_count.ensures in
    let all = ap (λ (l : List VertexInput). length l) c.as_slice-inputs.ensures in
    omega (arith, a, b, count, all)
