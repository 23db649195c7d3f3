use Rattle.std.proofs.Common.{◌≢◌, ℕ, ◌<◌, get_or}
use Rattle.graph_model.specs.States.{no_vertex}
use Rattle.graph_vertices.proofs.making.place_of.Given as goal

abbrev pub invariant-loop-place : goal.invariant-loop-place
invariant-loop-place l = (k : ℕ) → k < l.place → (get_or l.vertices k no_vertex.vertex).nodes ≢ l.chain
