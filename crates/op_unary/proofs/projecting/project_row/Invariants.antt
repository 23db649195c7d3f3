use Rattle.std.proofs.Common.{◌≡◌, take, map}
use Rattle.row_core.specs.Exprs.{value_at}
use Rattle.op_unary.proofs.projecting.project_row.Given as goal

abbrev pub invariant-loop-expr : goal.invariant-loop-expr
invariant-loop-expr l = l.made ≡ map (value_at l.row) (take l.expr-index l.exprs)
