use Rattle.std.proofs.Common.{◌≡◌, ◌<◌, ℕ, None, get_or, length}
use Rattle.graph_vertices.proofs.makers.cover_all.Given as goal

abbrev pub invariant-loop-place : goal.invariant-loop-place
invariant-loop-place l = record {
  same : (n : ℕ) → get_or l.makers.items n None ≡ get_or l.initial.makers.items n None;
  covered : (k d : ℕ) → k < l.place → get_or l.nodes k d < length l.makers.items;
}
