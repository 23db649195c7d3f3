-- What the build side of a join holds while it is built.
use Rattle.std.specs.Prelude.{◌≡◌, List, map}
use Rattle.std.specs.List.{AllByRecursion}
use Rattle.row_core.specs.Encoding.{rows_bytes, values_bytes}
use Rattle.bag_laws.specs.Rows.{OneRow as Row}
use Rattle.plan_model.specs.Operators.{rows_with}
use Rattle.row_groups.specs.Held.{keys_of}
use Rattle.row_view.specs.Encoded.{RowOf}
use Rattle.hash_join.specs.declared.build_rows.BuildRows.{BuildRows}

-- of these rows, all of its width, each key is kept once as the bytes of its values, and beside it
-- the bytes of its rows
pub record HoldsRows (built : BuildRows) (rows : List Row) : Type 0 where
  pub wide : AllByRecursion (RowOf built.width) rows
  pub keys : built.places ≡ map values_bytes (keys_of built.keys rows)
  pub told : built.groups.items
      ≡ map (λ key. rows_bytes (rows_with built.keys key rows)) (keys_of built.keys rows)
