-- The nodes that are chained after a vertex's head.
use Rattle.std.specs.Prelude.{List, [], ◌∷◌}
use Rattle.std.specs.List.{flat_map}
use Rattle.row_core.specs.Bags.{SameBag}
use Rattle.bag_laws.specs.Rows.{OneRow as Row}

-- each node takes the rows of the one before, row by row; a widened join has its build side's rows
-- in it
abbrev pub chained : List (Row → List Row) → List Row → List Row
chained [] rows = rows
chained (node ∷ nodes) rows = chained nodes (flat_map node rows)

-- a row gives the same bag at both
pub record GivesSame (node other : Row → List Row) : Type 0 where
  pub each : (row : Row) → SameBag (node row) (other row)
