use Rattle.std.proofs.Common.{◌≡◌, take}
use Rattle.plan_model.specs.Plans.{committed_text}
use Rattle.plan_eval.specs.Tables.{files_of}
use Rattle.plan_eval.specs.Takers.{AreLast}
use Rattle.plan_eval.proofs.Steps.{IsEvaluated}
use Rattle.plan_eval.proofs.answering.answer.Given as goal

abbrev pub invariant-loop-node : goal.invariant-loop-node
invariant-loop-node l = record {
  last : AreLast l.nodes l.evaluation.last.items;
  evaluated : IsEvaluated (files_of l.tables) l.evaluation.last.items (take l.node-index l.nodes) l.evaluation.outputs.items;
  written : l.evaluation.text ≡ committed_text (files_of l.tables) (take l.node-index l.nodes);
}
