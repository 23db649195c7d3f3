use Rattle.job_soundness.proofs.Righting.{right_put}
use Rattle.job_soundness.proofs.soundness_laws.parts_stay_right.Goals as goal

pub returns : goal.returns
returns c = right_put
