use Rattle.std.proofs.Common.{ℕ, ◌<◌, ◌≡◌, get_or, length, List}
use Rattle.vertex_builder.specs.declared.vertex_output.VertexOutput.{VertexOutput}
use Rattle.graph_vertices.proofs.made_vertices.have_form.Given as goal

abbrev pub invariant-loop-place : goal.invariant-loop-place
invariant-loop-place l = (k : ℕ) (size : List ℕ) (output : VertexOutput) → k < l.place → length (get_or l.sizes k size) ≡ (get_or l.outputs k output).cells
