use Rattle.std.proofs.Common.{ℕ, ◌<◌, ◌≤◌}
use Rattle.rect_cover.specs.Cells.{times}
use Rattle.rect_cover.proofs.one_input.has_cells.Given as goal

abbrev pub invariant-loop-cell : goal.invariant-loop-cell
invariant-loop-cell l = (p s : ℕ) → p < l.grid.producers → s < l.cell → (l.least ≤ times l.rects p s) × (times l.rects p s ≤ 1)
