use Rattle.job_limits.proofs.Within.{job_constants_fit}
use Rattle.job_limits.proofs.constants.constants_fit.Goals as goal

pub returns : goal.returns
returns c = job_constants_fit
