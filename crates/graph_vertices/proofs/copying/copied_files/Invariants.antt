use Rattle.std.proofs.Common.{◌≡◌, take}
use Rattle.graph_vertices.proofs.copying.copied_files.Given as goal

abbrev pub invariant-loop-table : goal.invariant-loop-table
invariant-loop-table l = l.copied.items ≡ take l.table-index l.table-items
