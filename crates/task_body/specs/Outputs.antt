-- Outputs that take rows of a width.
use Rattle.std.specs.Prelude.{ℕ, ◌<◌, IsTrue}
use Rattle.row_cells.specs.Cutting.{ships_to}
use Rattle.vertex_builder.specs.declared.vertex_output.VertexOutput.{VertexOutput}

-- an output that rows of this width may go to; it has a cell at least
pub record TakesRows (width : ℕ) (output : VertexOutput) : Type 0 where
  pub some : 0 < output.cells
  pub ships : IsTrue (ships_to width output.cells output.ship)
