use Rattle.std.proofs.Common.{◌≡◌, map, take}
use Rattle.vertex_builder.specs.Edges.{edges_into}
use Rattle.vertex_builder.specs.Vertices.{vertex_input}
use Rattle.vertex_builder.proofs.making.edge_inputs.Given as goal

abbrev pub invariant-loop-place : goal.invariant-loop-place
invariant-loop-place l = l.made.items ≡ map (vertex_input l.links) (edges_into l.node 0 (take l.place l.inputs))
