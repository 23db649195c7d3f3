use Rattle.graph_model.proofs.Folds.{valid_law}
use Rattle.graph_model.proofs.graph_laws.folds_are_valid.Goals as goal

pub returns : goal.returns
returns c = valid_law
