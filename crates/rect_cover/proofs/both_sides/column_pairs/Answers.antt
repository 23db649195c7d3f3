use Rattle.std.proofs.Common.{◌≡◌, ℕ, ◌*◌, get_or, ◌∙◌, arith}
use Rattle.std.specs.List.{sum_by}
use Rattle.rect_cover.specs.Cells.{Reads, times, rects_of}
use Rattle.rect_cover.proofs.Steps.{answers_no, answers_yes, band, sum-agree, clash}
use Rattle.rect_cover.proofs.both_sides.column_pairs.Goals as goal

pub returns-then-not-pairs_of : goal.returns-then-not-pairs_of
returns-then-not-pairs_of c =
    answers_no (λ once. clash c.pairs_of.result (c.pairs_of.ensures.1 (λ q under. once c.loop-producer.producer q c.loop-producer-test.true under)) c.if-not-pairs_of.true)

pub loop-producer-preserved : goal.loop-producer-preserved
loop-producer-preserved c = λ p q lt under.
    let other : Reads → ℕ = λ subtask. times (rects_of subtask c.args.other) q c.args.cell in
    let f : ℕ → Reads → ℕ = λ p subtask. times (rects_of subtask c.args.input) p c.args.cell * other subtask in
    band (λ p. sum_by (f p) c.args.subtasks.now ≡ 1) c.loop-producer.producer c.change_after_in_all-producer.result
    (λ p low. c.loop-producer.invariant p q low under)
    (c.pairs_of.ensures.0 c.if-not-pairs_of.false q under)
    (λ p low less here. sum-agree (f p) (f c.loop-producer.producer) c.args.subtasks.now
    (λ k d in_list i. c.change_after_in_all-producer.ensures.same k d in_list p low less i * other (get_or c.args.subtasks.now k d)) ∙ here)
    p lt

pub returns : goal.returns
returns c = answers_yes (λ p q lt under. c.loop-producer.invariant p q (omega arith) under)
