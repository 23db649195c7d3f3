use Rattle.std.proofs.Common.{◌≡◌, ◌<◌, filter, length, All}
use Rattle.std.specs.List.{range_with_len}
use Rattle.vertex_builder.specs.Vertices.{is_makeable}
use Rattle.vertex_builder.proofs.builder.heads_of.Given as goal

abbrev pub invariant-loop-node : goal.invariant-loop-node
invariant-loop-node l = record {
  heads : l.heads.items ≡ filter (is_makeable l.fn.links l.fn.widened l.fn.made l.fn.complete) (range_with_len 0 l.node);
  inside : All (λ head. head < length l.fn.links) l.heads.items;
}
