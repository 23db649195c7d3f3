use Rattle.std.proofs.Common.{◌≡◌, take}
use Rattle.graph_vertices.proofs.copying.copied_reads.Given as goal

abbrev pub invariant-loop-rects : goal.invariant-loop-rects
invariant-loop-rects l = l.inputs.items ≡ take l.rects-index l.rects-items
