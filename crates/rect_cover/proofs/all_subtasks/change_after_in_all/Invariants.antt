use Rattle.std.proofs.Common.{◌≡◌, ℕ, ◌<◌, ◌≤◌, All, take}
use Rattle.rect_cover.specs.Cells.{times, rects_of}
use Rattle.rect_cover.proofs.all_subtasks.change_after_in_all.Given as goal

abbrev pub invariant-loop-subtask : goal.invariant-loop-subtask
invariant-loop-subtask l = record {
  after : l.producer < l.change;
  within : l.change ≤ l.end;
  same : All (λ subtask. (p : ℕ) → l.producer ≤ p → p < l.change → times (rects_of subtask l.input) p l.cell ≡ times (rects_of subtask l.input) l.producer l.cell) (take l.subtask-index l.subtasks);
}
