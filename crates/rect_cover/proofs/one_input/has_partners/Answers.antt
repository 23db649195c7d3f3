use Rattle.std.proofs.Common.{◌≡◌, ◌<◌, ◌≤◌, sym, ◌∙◌, below_more, arith}
use Rattle.rect_cover.specs.Cells.{times}
use Rattle.rect_cover.proofs.Steps.{answers_no, answers_yes, clash}
use Rattle.rect_cover.proofs.Touched.{Found, touched, untouched}
use Rattle.rect_cover.proofs.one_input.has_partners.Goals as goal
use Rattle.rect_cover.proofs.one_input.has_partners.Goals.{else-touches-via-then-touches+else-not-has_column, else-touches-via-else-touches}

pub returns-then-not-has_column : goal.returns-then-not-has_column
returns-then-not-has_column c =
    let found : Found c.args.left.now c.args.lefts.now c.loop-cell.cell = touched c.args.left.now c.args.lefts.now c.loop-cell.cell c.requires (sym c.touches.ensures ∙ c.if-touches.true) in
    answers_no (λ partners. clash c.has_column.result
    (c.has_column.ensures.1 (λ q under.
    let one = partners.each found.producer q c.loop-cell.cell found.below (omega arith) under (omega arith) found.some in (omega arith, omega arith)))
    c.if-not-has_column.true)

pub loop-cell-preserved : goal.loop-cell-preserved
loop-cell-preserved c = λ p q s lt less under some.
    below_more (λ s. 0 < times c.args.lefts.now p s → times c.args.rights.now q s ≡ 1) c.loop-cell.cell
    (λ s low more. c.loop-cell.invariant p q s lt low under more)
    (elim c.else-touches.branch [
      | else-touches-via-then-touches+else-not-has_column w ↦ λ more.
          let least : 1 ≤ times c.args.rights.now q c.loop-cell.cell = (w.has_column.ensures.0 w.if-not-has_column.false q under).0 in
          let most : times c.args.rights.now q c.loop-cell.cell ≤ 1 = (w.has_column.ensures.0 w.if-not-has_column.false q under).1 in
          omega arith
      | else-touches-via-else-touches w ↦ λ more.
          absurd (let none = untouched c.args.lefts.now p c.loop-cell.cell (sym c.touches.ensures ∙ w.if-touches.false) in omega arith)
    ])
    s less some

pub returns : goal.returns
returns c = answers_yes (record { each = λ p q s lt less under within some. c.loop-cell.invariant p q s lt (omega arith) under some })
