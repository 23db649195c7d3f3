use Rattle.graph_model.proofs.Folds.{prefix_legal}
use Rattle.graph_model.proofs.graph_laws.prefixes_are_legal.Goals as goal

pub returns : goal.returns
returns c = prefix_legal
