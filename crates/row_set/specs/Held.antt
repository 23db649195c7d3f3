-- What a set of rows holds.
use Rattle.std.specs.Prelude.{◌≡◌, List, map}
use Rattle.std.specs.List.{AllByRecursion}
use Rattle.row_core.specs.Bags.{one_of_each}
use Rattle.row_core.specs.Encoding.{row_bytes}
use Rattle.bag_laws.specs.Rows.{OneRow as Row}
use Rattle.row_view.specs.Encoded.{RowOf}
use Rattle.row_set.specs.declared.row_set.RowSet.{RowSet}

-- of these rows, all of its width, each is kept once as its bytes, in the order of the first
pub record HoldsEach (set : RowSet) (rows : List Row) : Type 0 where
  pub wide : AllByRecursion (RowOf set.width) rows
  pub kept : set.rows ≡ map row_bytes (one_of_each rows)
