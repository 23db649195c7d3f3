use Rattle.std.proofs.Common.{◌≤◌, below_more}
use Rattle.rect_cover.specs.Cells.{times}
use Rattle.rect_cover.proofs.Steps.{answers_no, clash}
use Rattle.rect_cover.proofs.one_input.has_cells.Goals as goal

pub returns-then-not-has_column : goal.returns-then-not-has_column
returns-then-not-has_column c =
    answers_no (λ all. clash c.has_column.result (c.has_column.ensures.1 (λ p lt. all p c.loop-cell.cell lt c.loop-cell-test.true)) c.if-not-has_column.true)

pub loop-cell-preserved : goal.loop-cell-preserved
loop-cell-preserved c = λ p s lt less.
    below_more (λ s. (c.args.least ≤ times c.args.rects.now p s) × (times c.args.rects.now p s ≤ 1)) c.loop-cell.cell
    (λ s low. c.loop-cell.invariant p s lt low) (c.has_column.ensures.0 c.if-not-has_column.false p lt) s less
