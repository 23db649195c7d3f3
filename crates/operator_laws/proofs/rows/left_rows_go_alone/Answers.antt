use Rattle.operator_laws.proofs.Joins.{left_none, left_sum, left_each}
use Rattle.operator_laws.proofs.rows.left_rows_go_alone.Goals as goal

pub returns : goal.returns
returns c = record { none = left_none; sum = left_sum; each = left_each }
