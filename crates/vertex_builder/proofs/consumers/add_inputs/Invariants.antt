use Rattle.std.proofs.Common.{take}
use Rattle.vertex_builder.specs.Edges.{edges_into}
use Rattle.vertex_builder.specs.Links.{HaveMore}
use Rattle.vertex_builder.proofs.consumers.add_inputs.Given as goal

abbrev pub invariant-loop-place : goal.invariant-loop-place
invariant-loop-place l = HaveMore l.initial.lists.items l.lists.items (edges_into l.node 0 (take l.place l.inputs))
