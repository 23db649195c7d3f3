use Rattle.plan_text.proofs.Inputs.{inputs_come_before}
use Rattle.plan_text.proofs.laws.inputs_come_before.Goals as goal

pub returns : goal.returns
returns c = inputs_come_before
