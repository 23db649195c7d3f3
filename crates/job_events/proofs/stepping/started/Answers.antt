use Rattle.job_events.proofs.Starting.{reopened}
use Rattle.job_events.proofs.stepping.started.Goals as goal

pub returns-in_default : goal.returns-in_default
returns-in_default c = reopened c.args.last c.args.event.now (λ text files is. c.in_default.not-Started text files is) c.reopened.result c.reopened.ensures
