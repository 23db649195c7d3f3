use Rattle.std.proofs.Common.{◌≡◌, min, take}
use Rattle.std.specs.List.{sum_by}
use Rattle.graph_vertices.proofs.Consumers.{times}
use Rattle.graph_vertices.proofs.widening.has_one_consumer.Given as goal

abbrev pub invariant-loop-place : goal.invariant-loop-place
invariant-loop-place l = l.seen ≡ min 2 (sum_by (times l.node) (take l.place l.nodes))
