use Rattle.core_model.proofs.Licensing.{run_once}
use Rattle.core_model.proofs.run_laws.runs_name_attempts_once.Goals as goal

pub returns : goal.returns
returns c = run_once
