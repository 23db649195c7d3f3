use Rattle.std.proofs.Common.{◌≡◌}
use Rattle.grid_groups.specs.Sizes.{capped, sum_below, cell_size}
use Rattle.grid_groups.proofs.sizes.column_size.Given as goal

abbrev pub invariant-loop-producer : goal.invariant-loop-producer
invariant-loop-producer l = l.total ≡ capped (sum_below l.producer (λ p. cell_size l.grid p l.column))
