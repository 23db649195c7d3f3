use Rattle.std.proofs.Common.{◌≡◌, ℕ, ◌*◌, ◌≤◌, Bool, cond, List, ◌∙◌, ap, take, get_or, arith}
use Rattle.std.specs.List.{sum_by}
use Rattle.rect_cover.specs.declared.rect.Rect.{Rect}
use Rattle.rect_cover.specs.Cells.{Reads, times, rects_of}
use Rattle.rect_cover.proofs.Steps.{answers_no, sum-not_one, mul-left-least, mul-right-least}
use Rattle.rect_cover.proofs.both_sides.pair_once.Goals as goal
use Rattle.rect_cover.proofs.both_sides.pair_once.Goals.{then-found-via-then-found, then-found-via-else-found+then-lefts-gt1, then-found-via-else-found+else-lefts-gt1+then-rights-gt1}

pub returns-then-found : goal.returns-then-found
returns-then-found c =
    let f : Reads → ℕ = λ subtask. times (rects_of subtask c.args.input) c.args.left c.args.cell * times (rects_of subtask c.args.other) c.args.right c.args.cell in
    let lefts : c.times_in-lefts.result ≡ times (rects_of c.subtask-item.result c.args.input) c.args.left c.args.cell =
    c.times_in-lefts.ensures ∙ ap (λ (rects : List Rect). times rects c.args.left c.args.cell) c.rects.ensures in
    let rights : c.times_in-rights.result ≡ times (rects_of c.subtask-item.result c.args.other) c.args.right c.args.cell =
    c.times_in-rights.ensures ∙ ap (λ (rects : List Rect). times rects c.args.right c.args.cell) c.rects-then-lefts-gt0.ensures in
    let here : c.times_in-lefts.result * c.times_in-rights.result ≡ f (get_or c.args.subtasks.now c.loop-subtask.subtask-index c.subtask-item.result) =
    (λ i. lefts i * rights i) ∙ ap f c.subtask-item.is in
    let left : c.times_in-lefts.result ≤ c.times_in-lefts.result * c.times_in-rights.result = mul-left-least c.times_in-lefts.result c.times_in-rights.result c.if-rights-gt0.true in
    let right : c.times_in-rights.result ≤ c.times_in-lefts.result * c.times_in-rights.result = mul-right-least c.times_in-lefts.result c.times_in-rights.result c.if-lefts-gt0.true in
    answers_no (sum-not_one f c.args.subtasks.now c.loop-subtask.subtask-index c.subtask-item.result c.loop-subtask-test.true
    (elim c.then-found.branch [
      | then-found-via-then-found w ↦
          let one : sum_by f (take c.loop-subtask.subtask-index c.args.subtasks.now) ≡ 1 = c.loop-subtask.invariant ∙ ap (λ (b : Bool). cond {A = ℕ} b 1 0) w.if-found.true in
          omega arith
      | then-found-via-else-found+then-lefts-gt1 w ↦ omega arith
      | then-found-via-else-found+else-lefts-gt1+then-rights-gt1 w ↦ omega arith
    ]))
