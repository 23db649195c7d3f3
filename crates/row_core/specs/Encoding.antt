-- The one spelling of a value, of a row and of rows in bytes. Numbers are big endian.
use Rattle.std.specs.Prelude.{◌≡◌, ℕ, ◌<◌, ◌≤◌, List, [], ◌∷◌, ◌++◌, length, take, drop, FitsSigned}
use Rattle.std.specs.List.{flat_map, AllByRecursion}
use Rattle.std.specs.Int.{w16, w32, w64, to_be_bytes, cast_unsigned}
use Rattle.row_core.specs.Values.{text_limit, width_limit}
use Rattle.row_core.specs.declared.value.Value.{Value}
use Rattle.row_core.specs.declared.value.Value.TheVariants.{Null, Int, Text}

-- a tag, and behind it a number in two's complement, or a text's length and its bytes
abbrev pub value_bytes : Value → List ℕ
value_bytes Null = 0 ∷ []
value_bytes (Int n) = 1 ∷ to_be_bytes w64 (cast_unsigned w64 n)
value_bytes (Text t) = (2 ∷ to_be_bytes w32 (length t)) ++ t

-- one value after another
abbrev pub values_bytes : List Value → List ℕ
values_bytes values = flat_map value_bytes values

-- the number of values, and the values
abbrev pub row_bytes : List Value → List ℕ
row_bytes row = to_be_bytes w16 (length row) ++ values_bytes row

-- one row after another
abbrev pub rows_bytes : List (List Value) → List ℕ
rows_bytes rows = flat_map row_bytes rows

-- a text within the limit
abbrev pub TextFits : Value → Type 0
TextFits Null = Unit {0}
TextFits (Int n) = Unit {0}
TextFits (Text t) = length t ≤ text_limit

-- such a text, or a number of 64 bits
abbrev pub ValueFits : Value → Type 0
ValueFits Null = Unit {0}
ValueFits (Int n) = FitsSigned w64 n
ValueFits (Text t) = length t ≤ text_limit

-- values within the limit on their number, each of which fits
pub record RowFits (row : List Value) : Type 0 where
  pub width : length row ≤ width_limit
  pub values : AllByRecursion ValueFits row

-- rows, each of which fits
abbrev pub RowsFit : List (List Value) → Type 0
RowsFit rows = AllByRecursion RowFits rows

-- Up to a place the bytes spell rows, more bytes follow, and they begin with no row's spelling.
pub record StopsAt (bytes : List ℕ) (at : ℕ) : Type 0 where
  pub rows : List (List Value)
  pub fit : RowsFit rows
  pub before : take at bytes ≡ rows_bytes rows
  pub more : at < length bytes
  pub none : (row : List Value) (rest : List ℕ) → RowFits row
      → drop at bytes ≡ row_bytes row ++ rest → ⊥
