use Rattle.std.proofs.Common.{◌≡◌, take}
use Rattle.csv.specs.Records.{fields_of}
use Rattle.plan_model.specs.Tables.{row_of}
use Rattle.csv_tables.proofs.table.read_row.Given as goal

abbrev pub invariant-loop-place : goal.invariant-loop-place
invariant-loop-place l = l.row ≡ row_of (take l.place l.kinds) (fields_of l.cells)
