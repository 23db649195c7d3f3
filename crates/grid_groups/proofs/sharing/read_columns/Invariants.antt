use Rattle.std.proofs.Common.{◌≡◌, map, take}
use Rattle.grid_groups.specs.Reads.{columns_of}
use Rattle.grid_groups.proofs.sharing.read_columns.Given as goal

abbrev pub invariant-loop-grid : goal.invariant-loop-grid
invariant-loop-grid l = l.inputs.items ≡ map (λ grid. columns_of grid l.group) (take l.grid-index l.heads)
