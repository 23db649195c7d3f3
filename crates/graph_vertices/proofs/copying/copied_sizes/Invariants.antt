use Rattle.std.proofs.Common.{◌≡◌, take}
use Rattle.graph_vertices.proofs.copying.copied_sizes.Given as goal

abbrev pub invariant-loop-edge : goal.invariant-loop-edge
invariant-loop-edge l = l.copied.items ≡ take l.edge-index l.edge-items
