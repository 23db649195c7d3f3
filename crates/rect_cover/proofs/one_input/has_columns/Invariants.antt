use Rattle.std.proofs.Common.{◌≡◌, ℕ, ◌<◌, IsTrue}
use Rattle.rect_cover.specs.Cells.{times, touches}
use Rattle.rect_cover.proofs.one_input.has_columns.Given as goal

abbrev pub invariant-loop-cell : goal.invariant-loop-cell
invariant-loop-cell l = (p s : ℕ) → p < l.grid.producers → s < l.cell → IsTrue (touches l.rects s) → times l.rects p s ≡ 1
