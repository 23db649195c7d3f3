-- A table with the columns of a key.
use Rattle.std.specs.Prelude.{ℕ, List}
use Rattle.row_core.specs.declared.value.Value.{Value}

-- rows, and the columns that are their key
pub record KeyedTable : Type 0 where
  pub columns : List ℕ
  pub rows : List (List Value)
