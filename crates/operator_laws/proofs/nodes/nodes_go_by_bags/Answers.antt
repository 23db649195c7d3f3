use Rattle.operator_laws.proofs.NodeBags.{bags_same}
use Rattle.operator_laws.proofs.nodes.nodes_go_by_bags.Goals as goal

pub returns : goal.returns
returns c = bags_same
