use Rattle.std.proofs.Common.{◌≡◌, ℕ, ◌-◌, ◌<◌}
use Rattle.std.specs.List.{sum_by}
use Rattle.rect_cover.specs.Cells.{times, rects_of}
use Rattle.rect_cover.proofs.all_subtasks.column_once.Given as goal

abbrev pub invariant-loop-producer : goal.invariant-loop-producer
invariant-loop-producer l = (p : ℕ) → p < l.producer → sum_by (λ subtask. times (rects_of subtask l.input) p l.cell) l.subtasks ≡ 1

abbrev pub decreases-loop-producer : goal.decreases-loop-producer
decreases-loop-producer l = l.producers - l.producer
