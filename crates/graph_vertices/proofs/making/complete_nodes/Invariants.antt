use Rattle.std.proofs.Common.{◌≡◌, take}
use Rattle.graph_model.specs.States.{complete_nodes}
use Rattle.graph_vertices.proofs.making.complete_nodes.Given as goal

abbrev pub invariant-loop-vertex : goal.invariant-loop-vertex
invariant-loop-vertex l = l.nodes.items ≡ complete_nodes (take l.vertex l.vertices)
