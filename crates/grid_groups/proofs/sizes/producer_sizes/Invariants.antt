use Rattle.std.proofs.Common.{◌≡◌, map}
use Rattle.std.specs.List.{range_with_len}
use Rattle.grid_groups.specs.Sizes.{capped, producer_size}
use Rattle.grid_groups.proofs.sizes.producer_sizes.Given as goal

abbrev pub invariant-loop-producer : goal.invariant-loop-producer
invariant-loop-producer l = l.sizes.items ≡ map (λ p. capped (producer_size l.grid p)) (range_with_len 0 l.producer)
