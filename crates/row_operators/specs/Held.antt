-- What a buffer of rows holds.
use Rattle.std.specs.Prelude.{◌≡◌, List}
use Rattle.std.specs.List.{AllByRecursion}
use Rattle.row_core.specs.Encoding.{rows_bytes}
use Rattle.bag_laws.specs.Rows.{OneRow as Row}
use Rattle.row_view.specs.Encoded.{RowOf}
use Rattle.row_operators.specs.declared.row_buffer.RowBuffer.{RowBuffer}

-- the bytes of these rows, all of its width
pub record HoldsBytes (buffer : RowBuffer) (rows : List Row) : Type 0 where
  pub wide : AllByRecursion (RowOf buffer.width) rows
  pub bytes : buffer.bytes ≡ rows_bytes rows
