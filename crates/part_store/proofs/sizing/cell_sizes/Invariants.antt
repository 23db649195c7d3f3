use Rattle.std.proofs.Common.{◌≡◌, length, map, take}
use Rattle.part_store.proofs.sizing.cell_sizes.Given as goal

abbrev pub invariant-loop-cell : goal.invariant-loop-cell
invariant-loop-cell l = l.sizes.items ≡ map length (take l.cell-index l.cells)
