use Rattle.std.proofs.Common.{◌≡◌, List, ℕ, Some, map}
use Rattle.plan_model.specs.Tables.{row_of}
use Rattle.csv_tables.specs.Reading.{HasRead}
use Rattle.csv_tables.proofs.table.read_rows.Given as goal

abbrev pub invariant-loop : goal.invariant-loop
invariant-loop l = (records : List (List (List ℕ))) × HasRead (λ s. Some s.now) l.reader l.fn.text records × (l.rows ≡ map (row_of l.kinds) records)
