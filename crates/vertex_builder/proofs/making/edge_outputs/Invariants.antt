use Rattle.std.proofs.Common.{◌≡◌, map, take}
use Rattle.vertex_builder.specs.Vertices.{vertex_output}
use Rattle.vertex_builder.proofs.making.edge_outputs.Given as goal

abbrev pub invariant-loop-edge : goal.invariant-loop-edge
invariant-loop-edge l = l.made.items ≡ map (vertex_output l.links l.max_parallelism) (take l.edge-index l.edges)
