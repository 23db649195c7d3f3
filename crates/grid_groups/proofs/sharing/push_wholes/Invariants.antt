use Rattle.std.proofs.Common.{◌≡◌, ◌++◌, map, take}
use Rattle.grid_groups.specs.Reads.{whole_of}
use Rattle.grid_groups.proofs.sharing.push_wholes.Given as goal

abbrev pub invariant-loop-grid : goal.invariant-loop-grid
invariant-loop-grid l = l.inputs.items ≡ l.initial.inputs.items ++ map whole_of (take l.grid-index l.grids)
