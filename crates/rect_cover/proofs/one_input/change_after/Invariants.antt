use Rattle.std.proofs.Common.{◌≡◌, ℕ, ◌<◌, ◌≤◌, take}
use Rattle.rect_cover.specs.Cells.{times}
use Rattle.rect_cover.proofs.one_input.change_after.Given as goal

abbrev pub invariant-loop-rect : goal.invariant-loop-rect
invariant-loop-rect l = record {
  after : l.producer < l.change;
  within : l.change ≤ l.end;
  same : (p : ℕ) → l.producer ≤ p → p < l.change → times (take l.rect-index l.rects) p l.cell ≡ times (take l.rect-index l.rects) l.producer l.cell;
}
