use Rattle.plan_text.proofs.Shown.{each_node_is_shown}
use Rattle.plan_text.proofs.laws.each_node_is_shown.Goals as goal

pub returns : goal.returns
returns c = each_node_is_shown
