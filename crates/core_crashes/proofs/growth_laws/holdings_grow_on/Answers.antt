use Rattle.core_crashes.proofs.Growing.{grows_trans}
use Rattle.core_crashes.proofs.growth_laws.holdings_grow_on.Goals as goal

pub returns : goal.returns
returns c = grows_trans
