-- The rows of a table can be encoded.
use Rattle.std.proofs.Common.{◌≡◌, ◌≤◌, ℕ, suc, List, [], ◌∷◌, length, refl, ap, arith}
use Rattle.operator_laws.proofs.Laws.{record_fits}
use Rattle.row_core.specs.Encoding.{RowFits}
use Rattle.row_core.specs.Values.{width_limit}
use Rattle.plan_model.specs.Tables.{row_of}
use Rattle.plan_model.specs.declared.kind.Kind.{Kind}

-- a record has the table's width
pub row_wide : (kinds : List Kind) (cells : List (List ℕ)) → length (row_of kinds cells) ≡ length kinds
row_wide [] cells = refl
row_wide (kind ∷ kinds) [] = ap suc (row_wide kinds [])
row_wide (kind ∷ kinds) (cell ∷ cells) = ap suc (row_wide kinds cells)

-- and can be encoded
pub row_fits : (kinds : List Kind) (cells : List (List ℕ)) → length kinds ≤ width_limit → RowFits (row_of kinds cells)
row_fits kinds cells narrow = record { width = omega (arith, narrow, row_wide kinds cells); values = record_fits kinds cells }
