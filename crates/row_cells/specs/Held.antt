-- What the cells of an output hold.
use Rattle.std.specs.Prelude.{◌≡◌, ◌+◌, ◌%◌, List, length}
use Rattle.bag_laws.specs.Rows.{OneRow as Row}
use Rattle.row_cells.specs.Cutting.{IsCutInto}
use Rattle.row_cells.specs.declared.output_cells.OutputCells.{OutputCells}

-- the rows that were taken are cut into the cells, and the next is the turn of the cell that the
-- number of rows and the attempt's number tell
pub record HoldsCells (held : OutputCells) (rows : List Row) : Type 0 where
  pub cut : IsCutInto held.width held.attempt held.output.now rows held.cells.items
  pub turn : held.turn ≡ (length rows + held.attempt) % held.output.now.cells
