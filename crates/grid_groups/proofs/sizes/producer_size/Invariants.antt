use Rattle.std.proofs.Common.{◌≡◌}
use Rattle.grid_groups.specs.Sizes.{capped, sum_below, cell_size}
use Rattle.grid_groups.proofs.sizes.producer_size.Given as goal

abbrev pub invariant-loop-cell : goal.invariant-loop-cell
invariant-loop-cell l = l.total ≡ capped (sum_below l.cell (cell_size l.grid l.producer))
