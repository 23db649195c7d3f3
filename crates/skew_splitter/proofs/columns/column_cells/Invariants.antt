use Rattle.std.proofs.Common.{◌≡◌, map}
use Rattle.std.specs.List.{range_with_len}
use Rattle.grid_groups.specs.Sizes.{cell_size}
use Rattle.skew_splitter.proofs.columns.column_cells.Given as goal

abbrev pub invariant-loop-producer : goal.invariant-loop-producer
invariant-loop-producer l = l.sizes.items ≡ map (λ p. cell_size l.grid p l.column) (range_with_len 0 l.producer)
