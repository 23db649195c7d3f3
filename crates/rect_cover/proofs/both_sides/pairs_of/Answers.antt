use Rattle.std.proofs.Common.{◌≡◌, ℕ, ◌*◌, get_or, ◌∙◌, arith}
use Rattle.std.specs.List.{sum_by}
use Rattle.rect_cover.specs.Cells.{Reads, times, rects_of}
use Rattle.rect_cover.proofs.Steps.{answers_no, answers_yes, band, sum-agree, clash}
use Rattle.rect_cover.proofs.both_sides.pairs_of.Goals as goal

pub returns-then-not-pair_once : goal.returns-then-not-pair_once
returns-then-not-pair_once c = answers_no (λ once. clash c.pair_once.result (c.pair_once.ensures.1 (once c.loop-right.right c.loop-right-test.true)) c.if-not-pair_once.true)

pub loop-right-preserved : goal.loop-right-preserved
loop-right-preserved c =
    let own : Reads → ℕ = λ subtask. times (rects_of subtask c.args.input) c.args.left c.args.cell in
    let f : ℕ → Reads → ℕ = λ q subtask. own subtask * times (rects_of subtask c.args.other) q c.args.cell in
    band (λ q. sum_by (f q) c.args.subtasks.now ≡ 1) c.loop-right.right c.change_after_in_all-right.result c.loop-right.invariant
    (c.pair_once.ensures.0 c.if-not-pair_once.false)
    (λ q low lt here. sum-agree (f q) (f c.loop-right.right) c.args.subtasks.now
    (λ k d less i. own (get_or c.args.subtasks.now k d) * c.change_after_in_all-right.ensures.same k d less q low lt i) ∙ here)

pub returns : goal.returns
returns c = answers_yes (λ q lt. c.loop-right.invariant q (omega arith))
