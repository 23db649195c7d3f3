use Rattle.std.proofs.Common.{◌≡◌, map, take}
use Rattle.vertex_builder.specs.Vertices.{vertex_input}
use Rattle.vertex_builder.proofs.making.build_inputs.Given as goal

abbrev pub invariant-loop-edge : goal.invariant-loop-edge
invariant-loop-edge l = l.made.items ≡ map (vertex_input l.links) (take l.edge-index l.edges)
