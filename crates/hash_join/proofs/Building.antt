-- The bytes of built rows, key by key.
use Rattle.std.proofs.Common.{◌≡◌, ℕ, List, [], ◌∷◌, ◌++◌, map, refl, ap, ◌∙◌}
use Rattle.std.specs.List.{AllByRecursion}
use Rattle.std.proofs.lemmas.List.{append-nil}
use Rattle.std.proofs.lemmas.List.Concat.{flat_map-append}
use Rattle.row_core.specs.Encoding.{row_bytes, rows_bytes}
use Rattle.row_core.specs.Hashing.{key_of}
use Rattle.row_core.specs.Values.{same_row}
use Rattle.bag_laws.specs.Rows.{OneRow as Row}
use Rattle.plan_model.specs.Operators.{rows_with}
use Rattle.row_view.specs.Encoded.{RowOf}
use Rattle.hash_join.specs.Spelled.{SpellsSome}
use Rattle.hash_join.proofs.Finding.{with_wide}

-- a row more
pub bytes_more : (rows : List Row) (row : Row) → rows_bytes (rows ++ row ∷ []) ≡ rows_bytes rows ++ row_bytes row
bytes_more rows row = flat_map-append row_bytes rows (row ∷ []) ∙ ap (λ (l : List ℕ). rows_bytes rows ++ l) (append-nil (row_bytes row))

-- the bytes of each key's rows are rows
pub each_spelled : (keys : List ℕ) (width : ℕ) (rows each : List Row) → AllByRecursion (RowOf width) rows → AllByRecursion (SpellsSome width) (map (λ key. rows_bytes (rows_with keys key rows)) each)
each_spelled keys width rows [] wide = tt
each_spelled keys width rows (key ∷ each) wide =
    ((rows_with keys key rows, (with_wide (RowOf width) (λ row. same_row (key_of keys row) key) rows wide, refl)), each_spelled keys width rows each wide)
