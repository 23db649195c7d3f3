use Rattle.serde_json.specs.View.{view}
use Rattle.job_json.proofs.NodesRead.{job_read}
use Rattle.job_json.proofs.reading.read_job.Goals as goal

pub if_within_limit-requires-clause-form : goal.if_within_limit-requires-clause-form
if_within_limit-requires-clause-form c = job_read (view c.in_ok-value.value) c.in_ok-job.job c.in_ok-job.ensures.gives c.in_ok-job.ensures.texts
