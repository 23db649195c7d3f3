use Rattle.core_model.proofs.Reopened.{reopen_right}
use Rattle.core_model.proofs.run_laws.reopening_stays_right.Goals as goal

pub returns : goal.returns
returns c = reopen_right
