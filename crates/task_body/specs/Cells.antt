-- The cells that a task reads, and their rows.
use Rattle.std.specs.Prelude.{ℕ, ⊤, List, [], map}
use Rattle.std.specs.List.{AllByRecursion}
use Rattle.bag_laws.specs.Rows.{OneRow as Row}
use Rattle.plan_model.specs.Tables.{table_rows}
use Rattle.plan_model.specs.declared.op.Op.{Op}
use Rattle.plan_model.specs.declared.op.Op.TheVariants.{Source}
use Rattle.row_view.specs.Encoded.{RowOf}
use Rattle.task_body.specs.declared.task_cell.TaskCell.{TaskCell}
use Rattle.task_body.specs.declared.task_cell.TaskCell.TheVariants.{File, Cell}

-- the rows of a part's cell have this width; a file may be any bytes
abbrev pub HasWidth : ℕ → TaskCell → Type 0
HasWidth width (File bytes) = ⊤
HasWidth width (Cell rows) = AllByRecursion (RowOf width) rows

-- the rows that an operator reads of a file: a source alone reads any
abbrev pub file_rows : Op → List ℕ → List Row
file_rows (Source table columns) bytes = table_rows (map (λ column. column.kind) columns) bytes
file_rows _ bytes = []

-- the rows that an operator reads of a cell
abbrev pub cell_rows : Op → TaskCell → List Row
cell_rows op (File bytes) = file_rows op bytes
cell_rows op (Cell rows) = rows
