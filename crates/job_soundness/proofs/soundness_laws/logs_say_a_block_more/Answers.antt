use Rattle.job_soundness.proofs.Logging.{says_more}
use Rattle.job_soundness.proofs.soundness_laws.logs_say_a_block_more.Goals as goal

pub returns : goal.returns
returns c = says_more
