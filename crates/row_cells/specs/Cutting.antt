-- Rows that are cut into the cells of an output, as the bytes of each cell.
use Rattle.std.specs.Prelude.{◌≡◌, ℕ, ◌<◌, Bool, true, nat_eq, nat_lt, List, [], length, get_or}
use Rattle.std.specs.List.{list_all}
use Rattle.bag_laws.specs.Rows.{OneRow as Row}
use Rattle.plan_model.specs.declared.ship.Ship.{Ship}
use Rattle.plan_model.specs.declared.ship.Ship.TheVariants.{Forward, Hash, Rebalance, Broadcast}
use Rattle.row_view.specs.Encoded.{Spells}
use Rattle.task_parts.specs.Tasks.{hash_cell, IsCut}
use Rattle.vertex_builder.specs.declared.vertex_output.VertexOutput.{VertexOutput}

-- rows of this width can go to so many cells: a key's columns are below the width, and what goes
-- forward goes to one cell
abbrev pub ships_to : ℕ → ℕ → Ship → Bool
ships_to width count (Hash columns) = list_all (λ column. nat_lt column width) columns
ships_to width count Rebalance = true
ships_to width count Forward = nat_eq count 1
ships_to width count Broadcast = true

-- the cell of the next row, where this is the cell in turn
abbrev pub place_of : Ship → ℕ → ℕ → Row → ℕ
place_of (Hash columns) count turn row = hash_cell columns count row
place_of Rebalance count turn row = turn
place_of Forward count turn row = 0
place_of Broadcast count turn row = 0

-- the bytes of each cell spell rows of this width, and these are a cut of the rows for the output
pub record IsCutInto (width attempt : ℕ) (output : VertexOutput) (rows : List Row)
    (bytes : List (List ℕ)) : Type 0 where
  pub count : length bytes ≡ output.cells
  pub cells : ℕ → List Row
  pub spelled : (cell : ℕ) → cell < output.cells
      → Spells width (get_or bytes cell []) (cells cell)
  pub cut : IsCut attempt output rows cells
