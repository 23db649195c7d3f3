use Rattle.std.proofs.Common.{◌≡◌, ◌≤◌, IsTrue, sym, ◌∙◌, below_more, arith}
use Rattle.rect_cover.specs.Cells.{times, touches}
use Rattle.rect_cover.proofs.Steps.{answers_no, answers_yes, clash}
use Rattle.rect_cover.proofs.one_input.has_columns.Goals as goal
use Rattle.rect_cover.proofs.one_input.has_columns.Goals.{else-touches-via-then-touches+else-not-has_column, else-touches-via-else-touches}

pub returns-then-not-has_column : goal.returns-then-not-has_column
returns-then-not-has_column c =
    answers_no (λ has. clash c.has_column.result
    (c.has_column.ensures.1 (λ p lt. let one = has.each p c.loop-cell.cell lt c.loop-cell-test.true (sym c.touches.ensures ∙ c.if-touches.true) in (omega arith, omega arith)))
    c.if-not-has_column.true)

pub loop-cell-preserved : goal.loop-cell-preserved
loop-cell-preserved c = λ p s lt less.
    below_more (λ s. IsTrue (touches c.args.rects.now s) → times c.args.rects.now p s ≡ 1) c.loop-cell.cell
    (λ s low. c.loop-cell.invariant p s lt low)
    (elim c.else-touches.branch [
      | else-touches-via-then-touches+else-not-has_column w ↦ λ is.
          let least : 1 ≤ times c.args.rects.now p c.loop-cell.cell = (w.has_column.ensures.0 w.if-not-has_column.false p lt).0 in
          let most : times c.args.rects.now p c.loop-cell.cell ≤ 1 = (w.has_column.ensures.0 w.if-not-has_column.false p lt).1 in
          omega arith
      | else-touches-via-else-touches w ↦ λ is. absurd (clash (touches c.args.rects.now c.loop-cell.cell) is (sym c.touches.ensures ∙ w.if-touches.false))
    ])
    s less

pub returns : goal.returns
returns c = answers_yes (record { each = λ p s lt less is. c.loop-cell.invariant p s lt (omega arith) is })
