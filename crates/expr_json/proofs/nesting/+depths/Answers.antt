use Rattle.expr_json.proofs.DepthLemmas.{list_depth-nests}
use Rattle.serde_json.specs.View.{view}
use Rattle.expr_json.proofs.nesting.+depths.Goals as goal

pub list_depth-returns-in-Array-clause-nests : goal.list_depth-returns-in-Array-clause-nests
list_depth-returns-in-Array-clause-nests t c = list_depth-nests (view c.args.value.now)
