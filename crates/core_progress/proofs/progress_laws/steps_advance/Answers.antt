use Rattle.core_progress.proofs.Advancing.{advances}
use Rattle.core_progress.proofs.progress_laws.steps_advance.Goals as goal

pub returns : goal.returns
returns c = advances
