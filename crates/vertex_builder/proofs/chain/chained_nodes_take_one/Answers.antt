use Rattle.vertex_builder.proofs.Laws.{takes_after}
use Rattle.vertex_builder.proofs.chain.chained_nodes_take_one.Goals as goal

pub returns : goal.returns
returns c nodes widened before node good to = takes_after nodes widened good before node to
