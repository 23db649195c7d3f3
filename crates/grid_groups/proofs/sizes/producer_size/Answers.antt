use Rattle.std.proofs.Common.{ℕ, ◌+◌, ◌-◌, ◌^◌, min, ◌∙◌, ap}
use Rattle.grid_groups.specs.Sizes.{cell_size}
use Rattle.grid_groups.proofs.Sums.{capped-below}
use Rattle.grid_groups.proofs.sizes.producer_size.Goals as goal

pub loop-cell-preserved : goal.loop-cell-preserved
loop-cell-preserved c =
    capped-below c.loop-cell.cell (cell_size c.args.grid.now c.args.producer) c.loop-cell.total c.saturating_add-total.result c.loop-cell.invariant
    (c.saturating_add-total.ensures ∙ ap (λ (n : ℕ). min (c.loop-cell.total + n) (2 ^ 64 - 1)) c.cell_size.ensures)
