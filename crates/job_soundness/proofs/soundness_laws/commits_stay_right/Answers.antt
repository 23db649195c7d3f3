use Rattle.job_soundness.proofs.Righting.{right_commit}
use Rattle.job_soundness.proofs.soundness_laws.commits_stay_right.Goals as goal

pub returns : goal.returns
returns c = right_commit
