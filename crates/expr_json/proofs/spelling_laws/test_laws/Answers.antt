use Rattle.expr_json.proofs.Laws.{lists-test, nests-test, good-test, plain-test, once-test}
use Rattle.expr_json.proofs.spelling_laws.test_laws.Goals as goal

pub returns : goal.returns
returns c = record { lists = lists-test; nests = nests-test; numbers = good-test; floats = plain-test; once = once-test }
