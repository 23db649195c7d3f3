use Rattle.job_soundness.proofs.Logging.{says_once}
use Rattle.job_soundness.proofs.soundness_laws.logs_say_one_list.Goals as goal

pub returns : goal.returns
returns c = says_once c.one_spelling.ensures.events
