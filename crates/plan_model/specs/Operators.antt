-- The sets of operators, and what those on one input give, from SQL's meaning.
use Rattle.std.specs.Prelude.{ℕ, Bool, true, false, ◌==◌, ℤ, pos, ◌+ℤ◌, List, [], ◌∷◌, ◌++◌, length, map, filter, get_or, slice_set, Option, Some, None, if◌then◌else◌}
use Rattle.std.specs.List.{flat_map}
use Rattle.std.specs.Ordering.{is_lt}
use Rattle.row_core.specs.Bags.{one_of_each}
use Rattle.row_core.specs.Values.{value_cmp, same_row, int_value, text_of}
use Rattle.row_core.specs.Exprs.{value_at, truth_of, is_yes}
pub use Rattle.row_core.specs.Hashing.{key_of}
use Rattle.row_core.specs.declared.expr.Expr.{Expr}
use Rattle.row_core.specs.declared.pred.Pred.{Pred}
use Rattle.row_core.specs.declared.value.Value.{Value}
use Rattle.row_core.specs.declared.value.Value.TheVariants.{Null, Int, Text}
use Rattle.plan_model.specs.declared.agg.Agg.{Agg}
use Rattle.plan_model.specs.declared.agg.Agg.TheVariants.{Count, Sum, Min, Max}
use Rattle.plan_model.specs.declared.join_kind.JoinKind.{JoinKind}
use Rattle.plan_model.specs.declared.join_kind.JoinKind.TheVariants as kind
use Rattle.plan_model.specs.declared.op.Op.{Op}
use Rattle.plan_model.specs.declared.op.Op.TheVariants.{Source, Filter, Project, Explode, Union, Aggregate, Distinct, Join, Sink}

-- ---- sets of operators

abbrev pub is_source : Op → Bool
is_source (Source table columns) = true
is_source _ = false

abbrev pub is_sink : Op → Bool
is_sink (Sink name) = true
is_sink _ = false

-- neither a source, nor a join, nor a sink: it takes the rows of its inputs one after the other
abbrev pub is_unary : Op → Bool
is_unary (Source table columns) = false
is_unary (Join kind keys) = false
is_unary (Sink name) = false
is_unary _ = true

-- an operator on one input
abbrev pub takes_one : Op → Bool
takes_one (Source table columns) = false
takes_one Union = false
takes_one (Join kind keys) = false
takes_one _ = true

-- what it gives on a row doesn't go by the other rows
abbrev pub is_row_wise : Op → Bool
is_row_wise (Filter test) = true
is_row_wise (Project exprs) = true
is_row_wise (Explode column separator) = true
is_row_wise Union = true
is_row_wise _ = false

-- it works on one row of one input at a time, so that its rows may be spread anew over its subtasks
abbrev pub may_rebalance : Op → Bool
may_rebalance (Filter test) = true
may_rebalance (Project exprs) = true
may_rebalance (Explode column separator) = true
may_rebalance (Sink name) = true
may_rebalance _ = false

-- the joins whose right side may be repeated, since each left row gives its rows by itself
abbrev pub repeats_right : JoinKind → Bool
repeats_right kind.Right = false
repeats_right kind.Full = false
repeats_right _ = true

-- the joins whose left side may be repeated, since each right row gives its rows by itself
abbrev pub repeats_left : JoinKind → Bool
repeats_left kind.Inner = true
repeats_left kind.Right = true
repeats_left _ = false

-- ---- what they give

abbrev pub filtered : Pred → List (List Value) → List (List Value)
filtered test rows = filter (λ row. is_yes (truth_of row test)) rows

abbrev pub projected : List Expr → List (List Value) → List (List Value)
projected exprs rows = map (λ row. map (value_at row) exprs) rows

-- a piece that begins with this byte as well
abbrev pub with_byte : ℕ → List (List ℕ) → List (List ℕ)
with_byte byte [] = (byte ∷ []) ∷ []
with_byte byte (piece ∷ pieces) = (byte ∷ piece) ∷ pieces

-- a text cut at each separator
abbrev pub pieces : ℕ → List ℕ → List (List ℕ)
pieces separator [] = [] ∷ []
pieces separator (byte ∷ bytes) = if byte == separator then [] ∷ pieces separator bytes else with_byte byte (pieces separator bytes)

-- the row with each piece in turn in the column
abbrev pub with_pieces : ℕ → ℕ → List Value → Option (List ℕ) → List (List Value)
with_pieces column separator row None = []
with_pieces column separator row (Some text) = map (λ piece. slice_set row column (Text piece)) (pieces separator text)

abbrev pub exploded : ℕ → ℕ → List (List Value) → List (List Value)
exploded column separator rows = flat_map (λ row. with_pieces column separator row (text_of (get_or row column Null))) rows

-- the values of a column
abbrev pub column_of : ℕ → List (List Value) → List Value
column_of column rows = map (λ row. get_or row column Null) rows

-- the numbers among the values
abbrev pub numbers_of : List Value → List ℤ
numbers_of [] = []
numbers_of (Null ∷ values) = numbers_of values
numbers_of (Int n ∷ values) = n ∷ numbers_of values
numbers_of (Text t ∷ values) = numbers_of values

abbrev pub whole_sum : List ℤ → ℤ
whole_sum [] = pos 0
whole_sum (n ∷ ns) = n +ℤ whole_sum ns

-- the sum of whole numbers, Null where there is none or the sum has more than 64 bits
abbrev pub sum_value : List ℤ → Value
sum_value [] = Null
sum_value (n ∷ ns) = int_value (n +ℤ whole_sum ns)

-- the lesser of two values, where a Null doesn't count
abbrev pub lesser_value : Value → Value → Value
lesser_value Null b = b
lesser_value (Int m) Null = Int m
lesser_value (Text s) Null = Text s
lesser_value (Int m) (Int n) = if is_lt (value_cmp (Int n) (Int m)) then Int n else Int m
lesser_value (Int m) (Text t) = Int m
lesser_value (Text s) (Int n) = Int n
lesser_value (Text s) (Text t) = if is_lt (value_cmp (Text t) (Text s)) then Text t else Text s

-- the greater of two values; a Null is the least
abbrev pub greater_value : Value → Value → Value
greater_value a b = if is_lt (value_cmp a b) then b else a

abbrev pub least : List Value → Value
least [] = Null
least (value ∷ values) = lesser_value value (least values)

abbrev pub greatest : List Value → Value
greatest [] = Null
greatest (value ∷ values) = greater_value value (greatest values)

-- what an aggregate tells of the rows of one key
abbrev pub agg_value : List (List Value) → Agg → Value
agg_value rows Count = int_value (pos (length rows))
agg_value rows (Sum column) = sum_value (numbers_of (column_of column rows))
agg_value rows (Min column) = least (column_of column rows)
agg_value rows (Max column) = greatest (column_of column rows)

-- the rows with this key
abbrev pub rows_with : List ℕ → List Value → List (List Value) → List (List Value)
rows_with keys key rows = filter (λ row. same_row (key_of keys row) key) rows

-- one row for each key: the key, then the aggregates of its rows
abbrev pub aggregated : List ℕ → List Agg → List (List Value) → List (List Value)
aggregated keys aggs rows = map (λ key. key ++ map (agg_value (rows_with keys key rows)) aggs) (one_of_each (map (key_of keys) rows))
