use Rattle.std.proofs.Common.{◌≡◌, map, take, All}
use Rattle.vertex_builder.specs.Vertices.{head_of, IsVertex}
use Rattle.vertex_builder.proofs.builder.vertices_of.Given as goal

abbrev pub invariant-loop-head : goal.invariant-loop-head
invariant-loop-head l = record {
  heads : map head_of l.made.items ≡ take l.head-index l.heads;
  vertices : All (IsVertex l.links l.widened l.max_parallelism) l.made.items;
}
