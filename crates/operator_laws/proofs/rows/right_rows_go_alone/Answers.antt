use Rattle.operator_laws.proofs.Joins.{right_none, right_sum, right_each}
use Rattle.operator_laws.proofs.rows.right_rows_go_alone.Goals as goal

pub returns : goal.returns
returns c = record { none = right_none; sum = right_sum; each = right_each }
