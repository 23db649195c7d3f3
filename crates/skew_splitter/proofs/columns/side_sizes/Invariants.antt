use Rattle.std.proofs.Common.{◌≡◌, map}
use Rattle.std.specs.List.{range_with_len}
use Rattle.grid_groups.specs.Sizes.{capped, column_size}
use Rattle.skew_splitter.proofs.columns.side_sizes.Given as goal

abbrev pub invariant-loop-column : goal.invariant-loop-column
invariant-loop-column l = l.sizes.items ≡ map (λ s. capped (column_size l.grid s)) (range_with_len 0 l.column)
