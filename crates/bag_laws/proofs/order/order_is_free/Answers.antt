use Rattle.bag_laws.proofs.Permutations.{permutation_of_same, same_of_permutation}
use Rattle.bag_laws.proofs.order.order_is_free.Goals as goal

pub returns : goal.returns
returns c = λ rows others. (same_of_permutation rows others, permutation_of_same rows others)
