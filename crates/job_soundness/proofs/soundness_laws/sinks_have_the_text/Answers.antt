use Rattle.job_soundness.proofs.Deciding.{sinks_text}
use Rattle.job_soundness.proofs.soundness_laws.sinks_have_the_text.Goals as goal

pub returns : goal.returns
returns c = sinks_text c.sinks_have_the_text.ensures
