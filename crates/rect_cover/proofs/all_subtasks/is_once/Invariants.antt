use Rattle.std.proofs.Common.{◌≡◌, cond, take}
use Rattle.std.specs.List.{sum_by}
use Rattle.rect_cover.specs.Cells.{times, rects_of}
use Rattle.rect_cover.proofs.all_subtasks.is_once.Given as goal

abbrev pub invariant-loop-subtask : goal.invariant-loop-subtask
invariant-loop-subtask l = sum_by (λ subtask. times (rects_of subtask l.input) l.producer l.cell) (take l.subtask-index l.subtasks) ≡ cond l.found 1 0
