use Rattle.std.proofs.Common.{◌≡◌, ℕ, ◌*◌, ◌<◌}
use Rattle.std.specs.List.{sum_by}
use Rattle.rect_cover.specs.Cells.{times, rects_of}
use Rattle.rect_cover.proofs.both_sides.each_pair.Given as goal

abbrev pub invariant-loop-cell : goal.invariant-loop-cell
invariant-loop-cell l = (p q s : ℕ) → p < l.left.producers → s < l.cell → q < l.right.producers → sum_by (λ subtask. times (rects_of subtask l.input) p s * times (rects_of subtask l.other) q s) l.subtasks ≡ 1
