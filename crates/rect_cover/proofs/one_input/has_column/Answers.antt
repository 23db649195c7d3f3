use Rattle.std.proofs.Common.{ℕ, ◌≤◌, sym, subst, arith}
use Rattle.rect_cover.specs.Cells.{times}
use Rattle.rect_cover.proofs.Steps.{band}
use Rattle.rect_cover.proofs.one_input.has_column.Goals as goal

pub loop-producer-preserved : goal.loop-producer-preserved
loop-producer-preserved c =
    let Once : ℕ → Type 0 = λ n. (c.args.least ≤ n) × (n ≤ 1) in
    let here : Once (times c.args.rects.now c.loop-producer.producer c.args.cell) = (omega arith, omega arith) in
    band (λ p. Once (times c.args.rects.now p c.args.cell)) c.loop-producer.producer c.change_after-producer.result c.loop-producer.invariant here
    (λ p low lt at. subst Once (sym (c.change_after-producer.ensures.same p low lt)) at)
