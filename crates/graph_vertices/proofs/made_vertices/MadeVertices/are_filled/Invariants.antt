use Rattle.std.proofs.Common.{ℕ, ◌<◌, get_or}
use Rattle.vertex_builder.specs.declared.vertex_input.VertexInput.{VertexInput}
use Rattle.graph_model.specs.Legal.{IsFilled}
use Rattle.graph_vertices.proofs.made_vertices.MadeVertices.are_filled.Given as goal

abbrev pub invariant-loop-place : goal.invariant-loop-place
invariant-loop-place l = (k : ℕ) (d : VertexInput) → k < l.place → IsFilled l.self (get_or l.inputs k d)
