use Rattle.bag_laws.proofs.Counts.{SameBag-filter}
use Rattle.bag_laws.proofs.lists.filters.Goals as goal

pub returns-clause-same : goal.returns-clause-same
returns-clause-same c = λ test rows others same. SameBag-filter test rows others same
