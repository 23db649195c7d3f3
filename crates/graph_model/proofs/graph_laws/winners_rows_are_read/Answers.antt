use Rattle.graph_model.proofs.Folds.{read_law}
use Rattle.graph_model.proofs.graph_laws.winners_rows_are_read.Goals as goal

pub returns : goal.returns
returns c = read_law
