use Rattle.bag_laws.proofs.Alike.{same_flat_map}
use Rattle.bag_laws.proofs.lists.flat_maps.Goals as goal

pub returns-clause-same : goal.returns-clause-same
returns-clause-same c = λ given also rows others each same. same_flat_map given also rows others each same
