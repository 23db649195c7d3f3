use Rattle.std.proofs.Common.{rules, arith, ◌≡◌, ℕ}
use Rattle.std.proofs.lemmas.Iterator.{YieldsList-from_range, cases_from_all}
use Rattle.std.specs.List.{count_by}
use Rattle.rect_cover.specs.Cells.{touches, rects_of}
use Rattle.rect_cover.proofs.Zipped.{below_decides}
use Rattle.rect_cover.proofs.all_subtasks.columns_once.Goals as goal

pub returns : goal.returns
returns c =
    let Once : ℕ → Type 0 = λ s. count_by (λ subtask. touches (rects_of subtask c.args.input) s) c.args.subtasks.now ≡ 1 in
    below_decides Once c.args.cells c.all.result
    (cases_from_all c.all.new.self _ _ Once (λ s. Once s → ⊥) c.all.ensures.ran (YieldsList-from_range 0 c.args.cells c.args.cells (cc) (omega arith)) (λ x q k. search rules) (λ x q k. search rules))
