-- The keys of a join's sides, and which rows match.
use Rattle.std.specs.Prelude.{ℕ, Bool, not, ◌&&◌, List, filter, get_or, map}
use Rattle.std.specs.List.{list_any}
use Rattle.row_core.specs.Exprs.{is_null}
use Rattle.row_core.specs.Hashing.{key_of}
use Rattle.row_core.specs.Values.{same_row}
use Rattle.row_core.specs.declared.value.Value.TheVariants.{Null}
use Rattle.bag_laws.specs.Rows.{OneRow as Row}
use Rattle.plan_model.specs.declared.side.Side.{Side}
use Rattle.plan_model.specs.declared.side.Side.TheVariants.{Left, Right}

abbrev pub other_side : Side → Side
other_side Left = Right
other_side Right = Left

-- of a pair of key columns the one of this side
abbrev pub column_on : Side → ℕ × ℕ → ℕ
column_on Left pair = pair.0
column_on Right pair = pair.1

-- the key columns of a side
abbrev pub columns_on : Side → List (ℕ × ℕ) → List ℕ
columns_on side keys = map (column_on side) keys

-- a value of the row's key is Null
abbrev pub has_null : List ℕ → Row → Bool
has_null columns row = list_any (λ column. is_null (get_or row column Null)) columns

-- two rows match by these columns of each: their keys are equal, with no Null
abbrev pub keys_match : List ℕ → List ℕ → Row → Row → Bool
keys_match columns others row other =
    not (has_null columns row) && same_row (key_of others other) (key_of columns row)

-- the built rows that match a row
abbrev pub matching : List ℕ → List ℕ → Row → List Row → List Row
matching columns others row built = filter (keys_match columns others row) built
