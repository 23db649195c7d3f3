use Rattle.std.proofs.Common.{◌≡◌}
use Rattle.plan_model.specs.Joins.{nulls}
use Rattle.op_join.proofs.row_parts.null_row.Given as goal

abbrev pub invariant-loop-place : goal.invariant-loop-place
invariant-loop-place l = l.row ≡ nulls l._place
