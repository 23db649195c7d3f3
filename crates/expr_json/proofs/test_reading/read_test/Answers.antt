use Rattle.serde_json.specs.View.{view}
use Rattle.expr_json.proofs.TestSpelling.{spelled, only, none}
use Rattle.expr_json.proofs.test_reading.read_test.Goals as goal

pub returns-clause-spelled : goal.returns-clause-spelled
returns-clause-spelled c = spelled (view c.args.value.now) c.find_test.result c.find_test.ensures.is c.find_test.ensures.texts

pub returns-clause-only : goal.returns-clause-only
returns-clause-only c = only (view c.args.value.now) c.find_test.result c.find_test.ensures.is

pub returns-clause-none : goal.returns-clause-none
returns-clause-none c = none (view c.args.value.now) c.find_test.result c.find_test.ensures.is
