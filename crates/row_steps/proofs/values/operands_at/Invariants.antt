use Rattle.std.proofs.Common.{◌≡◌, map, take}
use Rattle.row_core.specs.Exprs.{value_at}
use Rattle.row_view.specs.Operands.{operand_seen}
use Rattle.row_view.specs.Views.{row_seen}
use Rattle.row_steps.proofs.values.operands_at.Given as goal

abbrev pub invariant-loop-expr : goal.invariant-loop-expr
invariant-loop-expr l = map operand_seen l.made.items ≡ map (value_at (row_seen l.row)) (take l.expr-index l.exprs)
