use Rattle.std.proofs.Common.{◌≡◌, replicate, []}
use Rattle.vertex_builder.proofs.consumers.no_edges.Given as goal

abbrev pub invariant-loop : goal.invariant-loop
invariant-loop l = l.lists.items ≡ replicate l.counter []
