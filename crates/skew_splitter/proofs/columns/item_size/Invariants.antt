use Rattle.std.proofs.Common.{◌≡◌, ℕ, ◌+◌, ◌-◌}
use Rattle.std.specs.List.{range_with_len, sum_by}
use Rattle.grid_groups.specs.Sizes.{capped, cell_size}
use Rattle.skew_splitter.proofs.columns.item_size.Given as goal

abbrev pub invariant-loop-producer : goal.invariant-loop-producer
invariant-loop-producer l = (before : ℕ) → l.other_size ≡ capped before
    → l.size ≡ capped (before + sum_by (λ p. cell_size l.own p l.column) (range_with_len l.start (l.producer - l.start)))
