use Rattle.serde_json.specs.View.{view}
use Rattle.expr_json.specs.Depths.{list_depth}
use Rattle.expr_json.proofs.test_reading.+find_test.Given as goal

abbrev pub decreases-find_test : goal.decreases-find_test
decreases-find_test l = list_depth (view l.value.now)
