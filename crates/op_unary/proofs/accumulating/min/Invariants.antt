use Rattle.std.proofs.Common.{◌≡◌, map, drop}
use Rattle.plan_model.specs.Operators.{column_of, least, lesser_value}
use Rattle.op_unary.specs.Cells.{or_null}
use Rattle.op_unary.proofs.accumulating.min.Given as goal

abbrev pub invariant-loop-keyed : goal.invariant-loop-keyed
invariant-loop-keyed l =
    lesser_value (or_null l.least) (least (column_of l.column (map (λ keyed. keyed.row.now) (drop l.keyed-index l.rows))))
    ≡ least (column_of l.column (map (λ keyed. keyed.row.now) l.rows))
