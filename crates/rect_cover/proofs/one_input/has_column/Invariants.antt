use Rattle.std.proofs.Common.{ℕ, ◌-◌, ◌<◌, ◌≤◌}
use Rattle.rect_cover.specs.Cells.{times}
use Rattle.rect_cover.proofs.one_input.has_column.Given as goal

abbrev pub invariant-loop-producer : goal.invariant-loop-producer
invariant-loop-producer l = (p : ℕ) → p < l.producer → (l.least ≤ times l.rects p l.cell) × (times l.rects p l.cell ≤ 1)

abbrev pub decreases-loop-producer : goal.decreases-loop-producer
decreases-loop-producer l = l.producers - l.producer
