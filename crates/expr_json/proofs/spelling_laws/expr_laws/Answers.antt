use Rattle.expr_json.proofs.Laws.{lists-expr, nests-expr, good-expr, plain-expr, once-expr}
use Rattle.expr_json.proofs.spelling_laws.expr_laws.Goals as goal

pub returns : goal.returns
returns c = record { lists = lists-expr; nests = nests-expr; numbers = good-expr; floats = plain-expr; once = once-expr }
