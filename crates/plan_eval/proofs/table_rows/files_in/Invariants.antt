use Rattle.std.proofs.Common.{◌≡◌, drop}
use Rattle.plan_eval.specs.Tables.{files_of}
use Rattle.plan_eval.proofs.table_rows.files_in.Given as goal

abbrev pub invariant-loop-table : goal.invariant-loop-table
invariant-loop-table l = files_of (drop l.table-index l.tables) l.name ≡ files_of l.tables l.name
