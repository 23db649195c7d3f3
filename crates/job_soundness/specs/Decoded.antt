-- The rows that bytes spell, read from the front.
use Rattle.std.specs.Prelude.{◌≡◌, ℕ, zero, suc, List, [], ◌∷◌, length, take, drop}
use Rattle.std.specs.Int.{w16, w32, w64, from_be_bytes, cast_signed}
use Rattle.row_core.specs.Encoding.{rows_bytes, RowsFit}
use Rattle.row_core.specs.declared.value.Value.{Value}
use Rattle.row_core.specs.declared.value.Value.TheVariants.{Null, Int, Text}

-- the numbers that two, four and eight bytes say
unfoldable pub short_in : List ℕ → ℕ
short_in bytes = from_be_bytes w16 bytes

unfoldable pub word_in : List ℕ → ℕ
word_in bytes = from_be_bytes w32 bytes

unfoldable pub long_in : List ℕ → ℕ
long_in bytes = from_be_bytes w64 bytes

-- a text behind its length, and what follows
abbrev pub text_front : List ℕ → Value × List ℕ
text_front bytes =
    let len = word_in (take 4 bytes) in
    (Text (take len (drop 4 bytes)), drop len (drop 4 bytes))

-- a value behind its tag, and what follows
abbrev pub value_front : List ℕ → Value × List ℕ
value_front [] = (Null, [])
value_front (zero ∷ bytes) = (Null, bytes)
value_front (suc zero ∷ bytes) = (Int (cast_signed w64 (long_in (take 8 bytes))), drop 8 bytes)
value_front (suc (suc tag) ∷ bytes) = text_front bytes

-- so many values, and what follows
abbrev pub values_front : ℕ → List ℕ → List Value × List ℕ
values_front zero bytes = ([], bytes)
values_front (suc count) bytes =
    let first = value_front bytes in
    let more = values_front count first.1 in
    (first.0 ∷ more.0, more.1)

-- a row behind the number of its values, and what follows
abbrev pub row_front : List ℕ → List Value × List ℕ
row_front bytes = values_front (short_in (take 2 bytes)) (drop 2 bytes)

-- one row after another, at most so many
abbrev pub rows_from : ℕ → List ℕ → List (List Value)
rows_from zero bytes = []
rows_from (suc most) [] = []
rows_from (suc most) (byte ∷ bytes) =
    let first = row_front (byte ∷ bytes) in
    first.0 ∷ rows_from most first.1

-- the rows that the bytes spell
abbrev pub rows_in : List ℕ → List (List Value)
rows_in bytes = rows_from (length bytes) bytes

-- the bytes spell rows, and nothing else
abbrev pub AreRows : List ℕ → Type 0
AreRows bytes = RowsFit (rows_in bytes) × (bytes ≡ rows_bytes (rows_in bytes))
