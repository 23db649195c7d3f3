use Rattle.job_soundness.proofs.Righting.{right_event}
use Rattle.job_soundness.proofs.soundness_laws.events_stay_right.Goals as goal

pub returns : goal.returns
returns c = right_event
