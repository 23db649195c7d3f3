use Rattle.std.proofs.Common.{◌≡◌, [], replicate}
use Rattle.row_cells.proofs.output_cells.empty_cells.Given as goal

abbrev pub invariant-loop : goal.invariant-loop
invariant-loop l = l.cells.items ≡ replicate l.counter []
