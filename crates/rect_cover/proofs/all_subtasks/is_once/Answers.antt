use Rattle.std.proofs.Common.{◌≡◌, ℕ, Bool, cond, List, ◌∙◌, ap, take, get_or, arith}
use Rattle.std.specs.List.{sum_by}
use Rattle.rect_cover.specs.declared.rect.Rect.{Rect}
use Rattle.rect_cover.specs.Cells.{Reads, times, rects_of}
use Rattle.rect_cover.proofs.Steps.{answers_no, sum-not_one}
use Rattle.rect_cover.proofs.all_subtasks.is_once.Goals as goal
use Rattle.rect_cover.proofs.all_subtasks.is_once.Goals.{then-found-via-then-found, then-found-via-else-found+then-times-gt1}

pub returns-then-found : goal.returns-then-found
returns-then-found c =
    let f : Reads → ℕ = λ subtask. times (rects_of subtask c.args.input) c.args.producer c.args.cell in
    let here : c.times_in-times.result ≡ f (get_or c.args.subtasks.now c.loop-subtask.subtask-index c.subtask-item.result) =
    c.times_in-times.ensures ∙ ap (λ (rects : List Rect). times rects c.args.producer c.args.cell) c.rects.ensures ∙ ap f c.subtask-item.is in
    answers_no (sum-not_one f c.args.subtasks.now c.loop-subtask.subtask-index c.subtask-item.result c.loop-subtask-test.true
    (elim c.then-found.branch [
      | then-found-via-then-found w ↦
          let one : sum_by f (take c.loop-subtask.subtask-index c.args.subtasks.now) ≡ 1 = c.loop-subtask.invariant ∙ ap (λ (b : Bool). cond {A = ℕ} b 1 0) w.if-found.true in
          omega arith
      | then-found-via-else-found+then-times-gt1 w ↦ omega arith
    ]))
