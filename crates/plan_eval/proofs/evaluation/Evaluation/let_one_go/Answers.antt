use Rattle.std.proofs.Common.{sym}
use Rattle.plan_eval.proofs.Frames.{lets_go}
use Rattle.plan_eval.proofs.evaluation.Evaluation.let_one_go.Goals as goal

pub returns-then-not-is_taken_later-clause-kept : goal.returns-then-not-is_taken_later-clause-kept
returns-then-not-is_taken_later-clause-kept c = lets_go c.args.self.now c.empty.new.self c.args.input (sym c.if-not-is_taken_later.ensures) c.empty.ensures.outputs c.empty.ensures.last
