use Rattle.std.proofs.Common.{◌≡◌, map, drop}
use Rattle.plan_model.specs.Operators.{column_of, greatest, greater_value}
use Rattle.op_unary.specs.Cells.{or_null}
use Rattle.op_unary.proofs.accumulating.max.Given as goal

abbrev pub invariant-loop-keyed : goal.invariant-loop-keyed
invariant-loop-keyed l =
    greater_value (or_null l.greatest) (greatest (column_of l.column (map (λ keyed. keyed.row.now) (drop l.keyed-index l.rows))))
    ≡ greatest (column_of l.column (map (λ keyed. keyed.row.now) l.rows))
