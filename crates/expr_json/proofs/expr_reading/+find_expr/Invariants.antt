use Rattle.serde_json.specs.View.{view}
use Rattle.expr_json.specs.Depths.{list_depth}
use Rattle.expr_json.proofs.expr_reading.+find_expr.Given as goal

abbrev pub decreases-find_expr : goal.decreases-find_expr
decreases-find_expr l = list_depth (view l.value.now)
