use Rattle.std.proofs.Common.{◌≡◌, take}
use Rattle.csv.specs.Records.{fields_of}
use Rattle.plan_model.specs.Tables.{row_of}
use Rattle.row_view.specs.Views.{row_seen}
use Rattle.csv_tables.proofs.record.record_row.Given as goal

abbrev pub invariant-loop-place : goal.invariant-loop-place
invariant-loop-place l = row_seen l.row.items ≡ row_of (take l.place l.kinds) (fields_of l.cells)
