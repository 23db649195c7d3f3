use Rattle.std.proofs.Common.{rules, arith, ◌≡◌, ℕ}
use Rattle.std.proofs.lemmas.Iterator.{YieldsList-from_range, cases_from_all}
use Rattle.rect_cover.specs.Cells.{touches, rects_of}
use Rattle.rect_cover.proofs.Zipped.{below_decides}
use Rattle.rect_cover.proofs.both_sides.touch_the_same.Goals as goal

pub returns : goal.returns
returns c =
    let Same : ℕ → Type 0 = λ s. touches (rects_of c.args.subtask.now c.args.input) s ≡ touches (rects_of c.args.subtask.now c.args.other) s in
    below_decides Same c.args.cells c.all.result
    (cases_from_all c.all.new.self _ _ Same (λ s. Same s → ⊥) c.all.ensures.ran (YieldsList-from_range 0 c.args.cells c.args.cells (cc) (omega arith)) (λ x q k. search rules) (λ x q k. search rules))
