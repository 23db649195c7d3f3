use Rattle.operator_laws.proofs.Unary.{node_applies}
use Rattle.operator_laws.proofs.nodes.nodes_apply.Goals as goal

pub returns : goal.returns
returns c = node_applies
