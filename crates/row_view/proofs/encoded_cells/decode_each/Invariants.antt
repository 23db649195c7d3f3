use Rattle.std.proofs.Common.{◌≡◌, take}
use Rattle.row_view.proofs.encoded_cells.decode_each.Given as goal

abbrev pub invariant-loop-rows : goal.invariant-loop-rows
invariant-loop-rows l = l.made.items ≡ take l.rows-index l.cells
