use Rattle.std.proofs.Common.{◌≡◌, take}
use Rattle.estate.proofs.tables.Tables.copy.Given as goal

abbrev pub invariant-loop-table : goal.invariant-loop-table
invariant-loop-table l = l.made ≡ take l.table-index l.table-items
