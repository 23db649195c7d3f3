-- What a task may give: which rows stand in the cells of its part.
use Rattle.std.specs.Prelude.{◌≡◌, ℕ, ◌+◌, ◌%◌, ◌<◌, ◌==◌, ⊤, List, length, get_or, count_by, All}
use Rattle.std.specs.List.{range_with_len}
use Rattle.row_core.specs.Bags.{SameBag}
use Rattle.row_core.specs.Hashing.{hash_of_key, key_of}
use Rattle.bag_laws.specs.Rows.{OneRow as Row}
use Rattle.plan_model.specs.declared.ship.Ship.{Ship}
use Rattle.plan_model.specs.declared.ship.Ship.TheVariants.{Forward, Hash, Rebalance, Broadcast}
use Rattle.rect_cover.specs.Cells.{gathered}
use Rattle.vertex_builder.specs.Vertices.{text_output}
use Rattle.vertex_builder.specs.declared.vertex_output.VertexOutput.{VertexOutput}

-- the cell of a row, of so many, by the hash of its values in these columns
abbrev pub hash_cell : List ℕ → ℕ → Row → ℕ
hash_cell columns count row = hash_of_key (key_of columns row) % count

-- how many of n rows come to a cell where they are dealt out in turn, the first to the cell of the
-- attempt's number
abbrev pub dealt : ℕ → ℕ → ℕ → ℕ → ℕ
dealt attempt count n cell = count_by (λ j. (j + attempt) % count == cell) (range_with_len 0 n)

-- each row stands in the cell of its key's hash; or each cell has as many of the n rows as are
-- dealt to it, whichever they are; or there is one cell
abbrev pub GoesBy : Ship → ℕ → ℕ → ℕ → (ℕ → List Row) → Type 0
GoesBy (Hash columns) attempt count n cells = (cell : ℕ) → cell < count
    → All (λ row. hash_cell columns count row ≡ cell) (cells cell)
GoesBy Rebalance attempt count n cells = (cell : ℕ) → cell < count
    → length (cells cell) ≡ dealt attempt count n cell
GoesBy Forward attempt count n cells = count ≡ 1
GoesBy Broadcast attempt count n cells = ⊤

-- the cells of an output: they sum to the rows, which stand in them by the output's ship
pub record IsCut (attempt : ℕ) (output : VertexOutput) (rows : List Row)
    (cells : ℕ → List Row) : Type 0 where
  pub sum : SameBag (gathered output.cells cells) rows
  pub goes : GoesBy output.ship attempt output.cells (length rows) cells

-- what the attempt of this number may give where its chain gives these rows: a part, as the rows of
-- each output's cells
pub record TaskMay (attempt : ℕ) (outputs : List VertexOutput) (rows : List Row)
    (part : ℕ → ℕ → List Row) : Type 0 where
  pub each : (e : ℕ) → e < length outputs
      → IsCut attempt (get_or outputs e text_output) rows (part e)
