use Rattle.std.proofs.Common.{ℕ, ◌<◌, get_or}
use Rattle.estate.specs.declared.part_name.PartName.{PartName}
use Rattle.graph_vertices.specs.Winning.{IsPresent}
use Rattle.graph_vertices.proofs.made_vertices.MadeVertices.first_stale.Given as goal

abbrev pub invariant-loop-place : goal.invariant-loop-place
invariant-loop-place l = (k : ℕ) (name : PartName) → k < l.place → IsPresent l.self (get_or l.names k name)
