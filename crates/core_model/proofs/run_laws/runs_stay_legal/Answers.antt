use Rattle.core_model.proofs.Working.{run_legal}
use Rattle.core_model.proofs.run_laws.runs_stay_legal.Goals as goal

pub returns : goal.returns
returns c = run_legal
