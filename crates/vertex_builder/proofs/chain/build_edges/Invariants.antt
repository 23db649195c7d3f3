use Rattle.std.proofs.Common.{◌≡◌, ◌<◌, length, take, All}
use Rattle.std.specs.List.{filter_map}
use Rattle.vertex_builder.specs.Vertices.{build_edge}
use Rattle.vertex_builder.proofs.chain.build_edges.Given as goal

abbrev pub invariant-loop-node : goal.invariant-loop-node
invariant-loop-node l = record {
  edges : l.edges.items ≡ filter_map (build_edge l.links l.widened) (take l.node-index l.nodes);
  inside : All (λ edge. edge.into < length l.links) l.edges.items;
}
