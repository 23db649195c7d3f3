use Rattle.bag_laws.proofs.Counts.{SameBag-map}
use Rattle.bag_laws.proofs.lists.maps.Goals as goal

pub returns-clause-same : goal.returns-clause-same
returns-clause-same c = λ made rows others same. SameBag-map made rows others same
