use Rattle.std.proofs.Common.{◌≡◌, ℕ, ◌*◌, ◌-◌, ◌<◌}
use Rattle.std.specs.List.{sum_by}
use Rattle.rect_cover.specs.Cells.{times, rects_of}
use Rattle.rect_cover.proofs.both_sides.pairs_of.Given as goal

abbrev pub invariant-loop-right : goal.invariant-loop-right
invariant-loop-right l = (q : ℕ) → q < l.right → sum_by (λ subtask. times (rects_of subtask l.input) l.left l.cell * times (rects_of subtask l.other) q l.cell) l.subtasks ≡ 1

abbrev pub decreases-loop-right : goal.decreases-loop-right
decreases-loop-right l = l.producers - l.right
