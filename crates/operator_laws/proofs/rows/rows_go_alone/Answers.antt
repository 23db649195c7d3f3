use Rattle.operator_laws.proofs.Unary.{row_each, row_sum}
use Rattle.operator_laws.proofs.rows.rows_go_alone.Goals as goal

pub returns : goal.returns
returns c = record { each = row_each; sum = row_sum }
