use Rattle.rect_cover.proofs.Columns.{keyed_columns}
use Rattle.rect_cover.proofs.laws.keyed_law.Goals as goal

pub returns : goal.returns
returns c = λ input subtasks demand meets op keyed in_column. keyed_columns meets op keyed input.grid input.rows in_column 0 subtasks demand
