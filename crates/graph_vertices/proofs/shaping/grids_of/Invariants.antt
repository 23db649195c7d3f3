use Rattle.std.proofs.Common.{◌≡◌, map, take}
use Rattle.graph_model.specs.Reads.{input_grid}
use Rattle.graph_vertices.proofs.shaping.grids_of.Given as goal

abbrev pub invariant-loop-input : goal.invariant-loop-input
invariant-loop-input l = l.grids.items ≡ map (input_grid (record { nodes = l.plan; settings = l.settings; files = l.files }) l.vertices) (take l.input-index l.inputs)
