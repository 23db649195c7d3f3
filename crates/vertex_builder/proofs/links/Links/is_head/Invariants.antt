use Rattle.std.proofs.Common.{◌≡◌, true, not, take}
use Rattle.std.specs.List.{list_all}
use Rattle.vertex_builder.specs.Edges.{edges_into, is_chained}
use Rattle.vertex_builder.proofs.links.Links.is_head.Given as goal

abbrev pub invariant-loop-place : goal.invariant-loop-place
invariant-loop-place l = list_all (λ edge. not (is_chained l.self l.widened edge)) (edges_into l.node 0 (take l.place l.inputs)) ≡ true
