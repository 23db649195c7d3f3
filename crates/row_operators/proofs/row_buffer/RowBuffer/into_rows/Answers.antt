use Rattle.row_set.proofs.Laws.{spelled_once}
use Rattle.row_operators.proofs.row_buffer.RowBuffer.into_rows.Goals as goal

pub returns-clause-rows : goal.returns-clause-rows
returns-clause-rows c = λ rows held. spelled_once c.args.self.width rows c.in-Ok.rows c.args.self.bytes held.wide held.bytes c.in-Ok.ensures

pub returns-clause-wide : goal.returns-clause-wide
returns-clause-wide c = c.in-Ok.ensures.0
