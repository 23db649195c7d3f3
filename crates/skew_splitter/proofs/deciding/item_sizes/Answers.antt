use Rattle.std.proofs.Common.{arith}
use Rattle.skew_splitter.proofs.Steps.{few_items}
use Rattle.skew_splitter.proofs.deciding.item_sizes.Goals as goal

pub returns-clause-summable : goal.returns-clause-summable
returns-clause-summable c = few_items c.loop-item.sizes.items c.from_vec.result c.loop-item.item-index c.from_vec.ensures c.loop-item.invariant.bound (omega arith)
