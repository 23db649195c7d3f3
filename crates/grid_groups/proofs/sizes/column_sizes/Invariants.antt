use Rattle.std.proofs.Common.{◌≡◌, map}
use Rattle.std.specs.List.{range_with_len, sum_by}
use Rattle.grid_groups.specs.Sizes.{capped, column_size}
use Rattle.grid_groups.proofs.sizes.column_sizes.Given as goal

abbrev pub invariant-loop-column : goal.invariant-loop-column
invariant-loop-column l = l.sizes.items ≡ map (λ s. capped (sum_by (λ grid. column_size grid s) l.grids)) (range_with_len 0 l.column)
