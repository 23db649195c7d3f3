use Rattle.job_soundness.proofs.Reading.{rows_again}
use Rattle.job_soundness.proofs.soundness_laws.rows_are_read.Goals as goal

pub returns : goal.returns
returns c = rows_again
