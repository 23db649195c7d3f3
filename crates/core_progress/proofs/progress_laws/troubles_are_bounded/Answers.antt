use Rattle.core_progress.proofs.Advancing.{bounded}
use Rattle.core_progress.proofs.progress_laws.troubles_are_bounded.Goals as goal

pub returns : goal.returns
returns c = bounded
