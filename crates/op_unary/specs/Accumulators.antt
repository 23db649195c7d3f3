-- The state of an aggregate over some rows; the states of two lists of rows merge into that of both.
use Rattle.std.specs.Prelude.{nat_lt, ◌+◌, ◌||◌, pos, ◌+ℤ◌, List, length, if◌then◌else◌}
use Rattle.row_core.specs.Values.{int_value}
use Rattle.row_core.specs.declared.value.Value.{Value}
use Rattle.row_core.specs.declared.value.Value.TheVariants.{Null}
use Rattle.plan_model.specs.Operators.{column_of, numbers_of, whole_sum, least, greatest, lesser_value, greater_value}
use Rattle.plan_model.specs.declared.agg.Agg.{Agg}
use Rattle.plan_model.specs.declared.agg.Agg.TheVariants.{Count, Sum, Min, Max}
use Rattle.op_unary.specs.declared.accumulator.Accumulator.{Accumulator}
use Rattle.op_unary.specs.declared.accumulator.Accumulator.TheVariants.{Counted, Summed, Least, Greatest}

-- the accumulator of an aggregate over these rows
abbrev pub accumulator_of : List (List Value) → Agg → Accumulator
accumulator_of rows Count = Counted (length rows)
accumulator_of rows (Sum column) = let numbers = numbers_of (column_of column rows) in Summed (nat_lt 0 (length numbers)) (whole_sum numbers)
accumulator_of rows (Min column) = Least (least (column_of column rows))
accumulator_of rows (Max column) = Greatest (greatest (column_of column rows))

-- two accumulators of one aggregate as that of all their rows
abbrev pub merge : Accumulator → Accumulator → Accumulator
merge (Counted rows) (Counted more) = Counted (rows + more)
merge (Summed any total) (Summed more further) = Summed (any || more) (total +ℤ further)
merge (Least a) (Least b) = Least (lesser_value a b)
merge (Greatest a) (Greatest b) = Greatest (greater_value a b)
merge unlike other = unlike

-- the aggregate's value
abbrev pub finish : Accumulator → Value
finish (Counted rows) = int_value (pos rows)
finish (Summed any total) = if any then int_value total else Null
finish (Least value) = value
finish (Greatest value) = value
