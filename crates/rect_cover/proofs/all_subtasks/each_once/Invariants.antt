use Rattle.std.proofs.Common.{◌≡◌, ℕ, ◌<◌}
use Rattle.std.specs.List.{sum_by}
use Rattle.rect_cover.specs.Cells.{times, rects_of}
use Rattle.rect_cover.proofs.all_subtasks.each_once.Given as goal

abbrev pub invariant-loop-cell : goal.invariant-loop-cell
invariant-loop-cell l = (p s : ℕ) → p < l.grid.producers → s < l.cell → sum_by (λ subtask. times (rects_of subtask l.input) p s) l.subtasks ≡ 1
