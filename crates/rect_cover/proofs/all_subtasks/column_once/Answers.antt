use Rattle.std.proofs.Common.{◌≡◌, ℕ, ◌∙◌, arith}
use Rattle.std.specs.List.{sum_by}
use Rattle.rect_cover.specs.Cells.{Reads, times, rects_of}
use Rattle.rect_cover.proofs.Steps.{answers_no, answers_yes, band, sum-agree, clash}
use Rattle.rect_cover.proofs.all_subtasks.column_once.Goals as goal

pub returns-then-not-is_once : goal.returns-then-not-is_once
returns-then-not-is_once c = answers_no (λ once. clash c.is_once.result (c.is_once.ensures.1 (once c.loop-producer.producer c.loop-producer-test.true)) c.if-not-is_once.true)

pub loop-producer-preserved : goal.loop-producer-preserved
loop-producer-preserved c =
    let f : ℕ → Reads → ℕ = λ p subtask. times (rects_of subtask c.args.input) p c.args.cell in
    band (λ p. sum_by (f p) c.args.subtasks.now ≡ 1) c.loop-producer.producer c.change_after_in_all-producer.result c.loop-producer.invariant
    (c.is_once.ensures.0 c.if-not-is_once.false)
    (λ p low lt here. sum-agree (f p) (f c.loop-producer.producer) c.args.subtasks.now (λ k d less. c.change_after_in_all-producer.ensures.same k d less p low lt) ∙ here)

pub returns : goal.returns
returns c = answers_yes (λ p lt. c.loop-producer.invariant p (omega arith))
