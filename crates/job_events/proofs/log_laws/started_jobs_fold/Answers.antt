use Rattle.job_events.proofs.Folding.{folded}
use Rattle.job_events.proofs.log_laws.started_jobs_fold.Goals as goal

pub returns : goal.returns
returns c = λ events graph leads. folded events graph leads
