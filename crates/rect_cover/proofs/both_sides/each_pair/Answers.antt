use Rattle.std.proofs.Common.{◌≡◌, ◌*◌, below_more, arith}
use Rattle.std.specs.List.{sum_by}
use Rattle.rect_cover.specs.Cells.{Reads, times, rects_of}
use Rattle.rect_cover.proofs.Steps.{answers_no, answers_yes, clash}
use Rattle.rect_cover.proofs.both_sides.each_pair.Goals as goal

pub returns-then-not-column_pairs : goal.returns-then-not-column_pairs
returns-then-not-column_pairs c =
    answers_no (λ each. clash c.column_pairs.result
    (c.column_pairs.ensures.1 (λ p q lt under. each.once p q c.loop-cell.cell lt (omega arith) under (omega arith)))
    c.if-not-column_pairs.true)

pub loop-cell-preserved : goal.loop-cell-preserved
loop-cell-preserved c = λ p q s lt less under.
    below_more (λ s. sum_by (λ (subtask : Reads). times (rects_of subtask c.args.input) p s * times (rects_of subtask c.args.other) q s) c.args.subtasks.now ≡ 1) c.loop-cell.cell
    (λ s low. c.loop-cell.invariant p q s lt low under) (c.column_pairs.ensures.0 c.if-not-column_pairs.false p q lt under) s less

pub returns : goal.returns
returns c = answers_yes (record { once = λ p q s lt less under within. c.loop-cell.invariant p q s lt (omega arith) under })
