use Rattle.job_soundness.proofs.Standing.{true_put}
use Rattle.job_soundness.proofs.soundness_laws.parts_stay_true.Goals as goal

pub returns : goal.returns
returns c job files ever part state events fresh first are = true_put job files ever part fresh first state events are
