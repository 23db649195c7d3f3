use Rattle.std.proofs.Common.{◌≡◌, below_more, arith}
use Rattle.std.specs.List.{sum_by}
use Rattle.rect_cover.specs.Cells.{Reads, times, rects_of}
use Rattle.rect_cover.proofs.Steps.{answers_no, answers_yes, clash}
use Rattle.rect_cover.proofs.all_subtasks.each_once.Goals as goal

pub returns-then-not-column_once : goal.returns-then-not-column_once
returns-then-not-column_once c =
    answers_no (λ each. clash c.column_once.result (c.column_once.ensures.1 (λ p lt. each.once p c.loop-cell.cell lt c.loop-cell-test.true)) c.if-not-column_once.true)

pub loop-cell-preserved : goal.loop-cell-preserved
loop-cell-preserved c = λ p s lt less.
    below_more (λ s. sum_by (λ (subtask : Reads). times (rects_of subtask c.args.input) p s) c.args.subtasks.now ≡ 1) c.loop-cell.cell
    (λ s low. c.loop-cell.invariant p s lt low) (c.column_once.ensures.0 c.if-not-column_once.false p lt) s less

pub returns : goal.returns
returns c = answers_yes (record { once = λ p s lt less. c.loop-cell.invariant p s lt (omega arith) })
