use Rattle.graph_model.proofs.Linking.{link_law}
use Rattle.graph_model.proofs.graph_laws.inputs_are_linked.Goals as goal

pub returns : goal.returns
returns c = link_law
