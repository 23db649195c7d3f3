use Rattle.std.proofs.Common.{◌≡◌, ℕ, ◌<◌, ◌≤◌, List, subst, ◌∙◌, ap, arith}
use Rattle.std.proofs.lemmas.List.Elements.{All-more}
use Rattle.rect_cover.specs.declared.rect.Rect.{Rect}
use Rattle.rect_cover.specs.Cells.{Reads, times, rects_of}
use Rattle.rect_cover.proofs.Steps.{all_done}
use Rattle.rect_cover.proofs.all_subtasks.change_after_in_all.Goals as goal

pub loop-subtask-preserved : goal.loop-subtask-preserved
loop-subtask-preserved c =
    let Alike : List Rect → Type 0 = λ rects. (p : ℕ) → c.args.producer ≤ p → p < c.change_after-change.result → times rects p c.args.cell ≡ times rects c.args.producer c.args.cell in
    record {
      after = c.change_after-change.ensures.after;
      within = omega arith;
      same = All-more (λ (subtask : Reads). Alike (rects_of subtask c.args.input)) c.args.subtasks.now c.loop-subtask.subtask-index c.subtask-item.result c.loop-subtask-test.true
          (λ k d less p low lt. c.loop-subtask.invariant.same k d less p low (omega arith))
          (subst Alike (c.rects.ensures ∙ ap (λ (subtask : Reads). rects_of subtask c.args.input) c.subtask-item.is) c.change_after-change.ensures.same);
    }

pub returns-clause-same : goal.returns-clause-same
returns-clause-same c =
    all_done (λ (subtask : Reads). (p : ℕ) → c.args.producer ≤ p → p < c.loop-subtask.change → times (rects_of subtask c.args.input) p c.args.cell ≡ times (rects_of subtask c.args.input) c.args.producer c.args.cell)
    c.args.subtasks.now c.loop-subtask.subtask-index c.loop-subtask-test.false c.loop-subtask.invariant.same
