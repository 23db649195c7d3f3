use Rattle.std.proofs.Common.{◌≡◌, take}
use Rattle.std.specs.List.{sum_by}
use Rattle.grid_groups.specs.Sizes.{capped, column_size}
use Rattle.grid_groups.proofs.sizes.size_of_all.Given as goal

abbrev pub invariant-loop-grid : goal.invariant-loop-grid
invariant-loop-grid l = l.total ≡ capped (sum_by (λ grid. column_size grid l.column) (take l.grid-index l.grids))
