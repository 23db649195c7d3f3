use Rattle.graph_vertices.proofs.Consumers.{fresh_is}
use Rattle.graph_vertices.proofs.widening.is_fresh.Goals as goal

pub returns : goal.returns
returns c = fresh_is c.args.widened.now c.args.node c.has_widening.result c.has_widening.ensures
