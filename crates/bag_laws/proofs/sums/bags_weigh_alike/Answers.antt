use Rattle.bag_laws.proofs.Alike.{sums_of_same, same_of_sums}
use Rattle.bag_laws.proofs.sums.bags_weigh_alike.Goals as goal

pub returns : goal.returns
returns c = λ rows others. (sums_of_same rows others, same_of_sums rows others)
