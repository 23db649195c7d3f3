use Rattle.std.proofs.Common.{◌≡◌, take}
use Rattle.operator_laws.specs.Applied.{applied}
use Rattle.op_unary.proofs.by_row.by_row.Given as goal

abbrev pub invariant-loop-row : goal.invariant-loop-row
invariant-loop-row l = l.out ≡ applied l.op (take l.row-index l.rows)
