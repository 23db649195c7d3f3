use Rattle.graph_model.proofs.Single.{single_law}
use Rattle.graph_model.proofs.graph_laws.nodes_are_in_one_vertex.Goals as goal

pub returns : goal.returns
returns c = single_law
