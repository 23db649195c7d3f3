use Rattle.std.proofs.Common.{◌≡◌, map, take}
use Rattle.vertex_builder.specs.Vertices.{head_of}
use Rattle.plan_text.proofs.making.heads_of.Given as goal

abbrev pub invariant-loop-vertex : goal.invariant-loop-vertex
invariant-loop-vertex l = l.heads.items ≡ map head_of (take l.vertex-index l.vertices)
