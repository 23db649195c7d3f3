-- What the build side of a join holds, and what is found there.
use Rattle.std.specs.Prelude.{◌≡◌, ◌<◌, ℕ, List, [], length, map, Option, Some, None}
use Rattle.std.specs.List.{AllByRecursion}
use denote.Ref.{Bor}
use Rattle.row_core.specs.Encoding.{rows_bytes, values_bytes}
use Rattle.bag_laws.specs.Rows.{OneRow as Row}
use Rattle.plan_model.specs.Operators.{rows_with}
use Rattle.row_groups.specs.Held.{keys_of}
use Rattle.row_view.specs.Encoded.{RowOf, Spells}
use Rattle.hash_join.specs.declared.build_table.BuildTable.{BuildTable}

-- of these rows, all of its width, each key stands once as the bytes of its values, and beside it
-- the bytes of its rows
pub record HoldsTable (table : BuildTable) (rows : List Row) : Type 0 where
  pub wide : AllByRecursion (RowOf table.width) rows
  pub keys : table.places ≡ map values_bytes (keys_of table.keys rows)
  pub told : table.groups.items
      ≡ map (λ key. rows_bytes (rows_with table.keys key rows)) (keys_of table.keys rows)

-- the bytes of these rows were found, or there are none
abbrev pub IsFound : ℕ → Option (Bor (List ℕ)) → List Row → Type 0
IsFound width None rows = rows ≡ []
IsFound width (Some bytes) rows = Spells width bytes.now rows × (0 < length rows)
