use Rattle.std.proofs.Common.{◌≡◌, ◌++◌, drop, map}
use Rattle.serde_json.specs.View.{view}
use Rattle.expr_json.specs.Spelling.{expr_value}
use Rattle.job_json.proofs.part_writing.write_exprs.Given as goal

abbrev pub invariant-loop-expr : goal.invariant-loop-expr
invariant-loop-expr l = map view l.values.items ++ map expr_value (drop l.expr-index l.exprs) ≡ map expr_value l.exprs
