use Rattle.std.proofs.Common.{arith}
use Rattle.rect_cover.proofs.Steps.{times-step, times-done}
use Rattle.rect_cover.proofs.one_input.change_after.Goals as goal

pub loop-rect-preserved : goal.loop-rect-preserved
loop-rect-preserved c = record {
  after = c.change_after-change.ensures.after;
  within = omega arith;
  same = λ p low lt.
      times-step c.args.rects.now c.loop-rect.rect-index _ p c.args.producer c.args.cell c.loop-rect-test.true
      (c.loop-rect.invariant.same p low (omega arith)) (c.change_after-change.ensures.same p low lt);
}

pub returns-clause-same : goal.returns-clause-same
returns-clause-same c = λ p low lt. times-done c.args.rects.now c.loop-rect.rect-index p c.args.producer c.args.cell c.loop-rect-test.false (c.loop-rect.invariant.same p low lt)
