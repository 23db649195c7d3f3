use Rattle.std.proofs.Common.{◌≡◌, take}
use Rattle.std.specs.List.{flat_map}
use Rattle.plan_model.specs.Tables.{table_rows}
use Rattle.plan_eval.proofs.source_rows.files_rows.Given as goal

abbrev pub invariant-loop-file : goal.invariant-loop-file
invariant-loop-file l = l.rows.items ≡ flat_map (table_rows l.kinds) (take l.file-index l.files)
