use Rattle.std.proofs.Common.{ℕ, ◌+◌, ◌-◌, ◌^◌, min, ◌∙◌, ap}
use Rattle.grid_groups.specs.Sizes.{cell_size}
use Rattle.grid_groups.proofs.Sums.{capped-below}
use Rattle.grid_groups.proofs.sizes.column_size.Goals as goal

pub loop-producer-preserved : goal.loop-producer-preserved
loop-producer-preserved c =
    capped-below c.loop-producer.producer (λ p. cell_size c.args.grid.now p c.args.column) c.loop-producer.total c.saturating_add-total.result c.loop-producer.invariant
    (c.saturating_add-total.ensures ∙ ap (λ (n : ℕ). min (c.loop-producer.total + n) (2 ^ 64 - 1)) c.cell_size.ensures)
