use Rattle.std.proofs.Common.{◌≡◌, ◌++◌, drop, map}
use Rattle.serde_json.specs.View.{view}
use Rattle.job_json.specs.Spelling.{column_value}
use Rattle.job_json.proofs.part_writing.write_columns.Given as goal

abbrev pub invariant-loop-column : goal.invariant-loop-column
invariant-loop-column l = map view l.values.items ++ map column_value (drop l.column-index l.columns) ≡ map column_value l.columns
