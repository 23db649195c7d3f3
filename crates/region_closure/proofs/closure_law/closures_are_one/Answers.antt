use Rattle.region_closure.proofs.Same.{same_law}
use Rattle.region_closure.proofs.closure_law.closures_are_one.Goals as goal

pub returns : goal.returns
returns c = same_law
