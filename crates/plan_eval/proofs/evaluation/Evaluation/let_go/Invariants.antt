use Rattle.std.proofs.Common.{◌≡◌}
use Rattle.plan_eval.specs.Evaluated.{Keeps}
use Rattle.plan_eval.proofs.evaluation.Evaluation.let_go.Given as goal

abbrev pub invariant-loop-input : goal.invariant-loop-input
invariant-loop-input l = record {
  kept : Keeps l.initial.self l.self;
  text : l.self.text ≡ l.initial.self.text;
}
