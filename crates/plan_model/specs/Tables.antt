-- The rows of a table's file, over the records of csv.
use Rattle.std.specs.Prelude.{ℕ, ◌==◌, pos, neg_ℤ, Bool, true, false, List, [], ◌∷◌, map, if◌then◌else◌}
use Rattle.std.specs.Str.{all_ascii_digits}
use Rattle.std.specs.Str.Parse.{digits_value}
use Rattle.csv.specs.Reading.{default_config, records, strip_bom}
use Rattle.row_core.specs.Values.{int_value, text_value}
use Rattle.row_core.specs.declared.value.Value.{Value}
use Rattle.row_core.specs.declared.value.Value.TheVariants.{Null}
use Rattle.plan_model.specs.declared.kind.Kind.{Kind}
use Rattle.plan_model.specs.declared.kind.Kind.TheVariants.{IntKind, TextKind}

-- the number, below zero behind a minus sign, or Null where it has more than 64 bits
abbrev pub signed_value : Bool → ℕ → Value
signed_value negative n = int_value (if negative then neg_ℤ (pos n) else pos n)

-- a number of one or more digits
abbrev pub digits_cell : Bool → List ℕ → Value
digits_cell negative [] = Null
digits_cell negative (digit ∷ digits) =
    if all_ascii_digits (digit ∷ digits) then signed_value negative (digits_value 10 (digit ∷ digits)) else Null

-- the number that a cell spells, or Null
abbrev pub int_cell : List ℕ → Value
int_cell [] = Null
int_cell (byte ∷ bytes) = if byte == 45 then digits_cell true bytes else digits_cell false (byte ∷ bytes)

abbrev pub cell_value : Kind → List ℕ → Value
cell_value IntKind bytes = int_cell bytes
cell_value TextKind bytes = text_value bytes

-- a record as a row: a missing cell is Null, and a further one is dropped
abbrev pub row_of : List Kind → List (List ℕ) → List Value
row_of [] cells = []
row_of (kind ∷ kinds) [] = Null ∷ row_of kinds []
row_of (kind ∷ kinds) (cell ∷ cells) = cell_value kind cell ∷ row_of kinds cells

-- the rows of a table's file
abbrev pub table_rows : List Kind → List ℕ → List (List Value)
table_rows kinds bytes = map (row_of kinds) (records default_config (strip_bom bytes))
