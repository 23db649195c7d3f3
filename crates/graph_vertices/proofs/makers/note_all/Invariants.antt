use Rattle.std.proofs.Common.{◌≡◌, ℕ, None, get_or, length, take}
use Rattle.vertex_builder.specs.Chains.{is_among}
use Rattle.graph_vertices.specs.Makers.{noted}
use Rattle.graph_vertices.proofs.makers.note_all.Given as goal

abbrev pub invariant-loop-place : goal.invariant-loop-place
invariant-loop-place l = (length l.makers.items ≡ length l.initial.makers.items)
    × ((n : ℕ) → get_or l.makers.items n None ≡ noted (get_or l.initial.makers.items n None) (is_among (take l.place l.nodes) n) l.vertex)
