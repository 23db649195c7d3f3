use Rattle.region_closure.proofs.Closing.{closure_law}
use Rattle.region_closure.proofs.closure_law.reruns_are_the_closure.Goals as goal

pub returns : goal.returns
returns c = closure_law
