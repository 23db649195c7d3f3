use Rattle.core_model.proofs.Working.{run_works}
use Rattle.core_model.proofs.run_laws.runs_keep_work.Goals as goal

pub returns : goal.returns
returns c = run_works
