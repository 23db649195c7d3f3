use Rattle.std.proofs.Common.{◌∙◌}
use Rattle.plan_eval.proofs.Frames.{keeps_on}
use Rattle.plan_eval.proofs.evaluation.Evaluation.let_go.Goals as goal

pub loop-input-preserved : goal.loop-input-preserved
loop-input-preserved c = record {
  kept = keeps_on c.args.self.now c.loop-input.self c.let_one_go.new.self c.loop-input.invariant.kept c.let_one_go.ensures.kept;
  text = c.let_one_go.ensures.text ∙ c.loop-input.invariant.text;
}
