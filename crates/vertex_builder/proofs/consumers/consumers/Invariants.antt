use Rattle.std.proofs.Common.{take, length, replicate, []}
use Rattle.vertex_builder.specs.Edges.{edges_of}
use Rattle.vertex_builder.specs.Links.{HaveMore}
use Rattle.vertex_builder.proofs.consumers.consumers.Given as goal

abbrev pub invariant-loop-place : goal.invariant-loop-place
invariant-loop-place l = HaveMore (replicate (length l.nodes) []) l.lists.items (edges_of (take l.place l.nodes))
