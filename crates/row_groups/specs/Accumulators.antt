-- The state of an aggregate over some rows, and over one row more.
use Rattle.std.specs.Prelude.{map, nat_lt, ◌+◌, ◌||◌, pos, ◌+ℤ◌, List, [], ◌∷◌, length, get_or, if◌then◌else◌}
use Rattle.std.specs.Global.{Vec}
use Rattle.bag_laws.specs.Rows.{OneRow as Row}
use Rattle.row_core.specs.Values.{int_value}
use Rattle.row_core.specs.declared.value.Value.{Value}
use Rattle.row_core.specs.declared.value.Value.TheVariants.{Null}
use Rattle.plan_model.specs.Operators.{column_of, numbers_of, whole_sum, least, greatest, lesser_value, greater_value}
use Rattle.plan_model.specs.declared.agg.Agg.{Agg}
use Rattle.plan_model.specs.declared.agg.Agg.TheVariants.{Count, Sum, Min, Max}
use Rattle.row_groups.specs.declared.accumulator.Accumulator.{Accumulator}
use Rattle.row_groups.specs.declared.accumulator.Accumulator.TheVariants.{Counted, Summed, Least, Greatest}

-- the accumulator of an aggregate over these rows
abbrev pub accumulator_of : List Row → Agg → Accumulator
accumulator_of rows Count = Counted (length rows)
accumulator_of rows (Sum column) =
    let numbers = numbers_of (column_of column rows) in
    Summed (nat_lt 0 (length numbers)) (whole_sum numbers)
accumulator_of rows (Min column) = Least (least (column_of column rows))
accumulator_of rows (Max column) = Greatest (greatest (column_of column rows))

-- over a row more, of which the aggregate takes this value
abbrev pub with_value : Accumulator → Value → Accumulator
with_value (Counted rows) value = Counted (rows + 1)
with_value (Summed any total) value = let numbers = numbers_of (value ∷ []) in
    Summed (any || nat_lt 0 (length numbers)) (total +ℤ whole_sum numbers)
with_value (Least a) value = Least (lesser_value a value)
with_value (Greatest a) value = Greatest (greater_value a value)

-- the value that an aggregate takes of a row
abbrev pub input_of : Row → Agg → Value
input_of row Count = Null
input_of row (Sum column) = get_or row column Null
input_of row (Min column) = get_or row column Null
input_of row (Max column) = get_or row column Null

-- the aggregate's value
abbrev pub finish : Accumulator → Value
finish (Counted rows) = int_value (pos rows)
finish (Summed any total) = if any then int_value total else Null
finish (Least value) = value
finish (Greatest value) = value

-- the accumulators of each group
abbrev pub states_of : List (Vec Accumulator) → List (List Accumulator)
states_of groups = map (λ states. states.items) groups
