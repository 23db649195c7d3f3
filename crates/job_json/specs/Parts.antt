-- The members of nodes: columns, keys, aggregates, expressions and tests.
use Rattle.std.specs.Prelude.{ℕ, ◌-◌, ◌^◌, min, nat_lt, nat_le, ◌==◌, Bool, true, false, ◌&&◌, ◌||◌, not, List, [], ◌∷◌, length, find, map, slice_index, codes, Option, Some, None, option_map, option_and_then, if◌then◌else◌, Result, Ok, Err, ⊤}
use Rattle.std.specs.List.{list_all, list_any}
use Rattle.std.specs.Option.{option_map_or}
use Rattle.std.specs.Str.{bytes_eq}
use Rattle.serde_json.specs.Data.{Data}
use Rattle.serde_json.specs.Find.{get, as_str}
use Rattle.row_core.specs.declared.expr.Expr.{Expr}
use Rattle.row_core.specs.declared.pred.Pred.{Pred}
use Rattle.plan_model.specs.declared.agg.Agg.{Agg}
use Rattle.plan_model.specs.declared.agg.Agg.TheVariants.{Count, Sum, Min, Max}
use Rattle.plan_model.specs.declared.column.Column.{Column}
use Rattle.plan_model.specs.declared.join_kind.JoinKind.{JoinKind}
use Rattle.plan_model.specs.declared.join_kind.JoinKind.TheVariants as kind
use Rattle.plan_model.specs.declared.kind.Kind.{Kind}
use Rattle.plan_model.specs.declared.kind.Kind.TheVariants.{IntKind, TextKind}
use Rattle.expr_json.specs.BadNumbers.{bad_number_in}
use Rattle.expr_json.specs.Depths.{list_depth}
use Rattle.expr_json.specs.Reading.{expr_of, test_of}
use Rattle.job_json.specs.declared.node_reader.TheConstants.{LIST_LIMIT}
use Rattle.job_json.specs.declared.numbers.TheConstants.{LEAST_INPUTS, INPUT_LIMIT}
use Rattle.job_json.specs.declared.exprs.TheConstants.{DEPTH_LIMIT}
use Rattle.job_json.specs.Faults.{◌>>=◌, or_fault, check, fault}
use Rattle.job_json.specs.Members.{name_in, is_number, u32_in, is_text, one_item_in, two_items_in, each, member_of, list_of}
use Rattle.job_json.specs.declared.job_fault.JobFault.{JobFault}
use Rattle.job_json.specs.declared.job_fault_kind.JobFaultKind.TheVariants.{BadMember, BadNumber, BadExpr, TooMany}

-- a list of a node has at most 256 items
abbrev pub not_too_long : Option ℕ → List Data → Result ⊤ JobFault
not_too_long node items =
    check (nat_le (length items) LIST_LIMIT) (fault (TooMany (length items)) node (codes "list"))

-- ---- columns

-- the kind of a column that a value names
unfoldable pub kind_in : Data → Option Kind
kind_in d =
    if is_text (codes "int") d then Some IntKind else
    if is_text (codes "text") d then Some TextKind else None

-- a column: its name and its kind
unfoldable pub column_in : Data → Option Column
column_in d =
    option_and_then (λ p. option_and_then (λ name. option_map (λ kind.
    record { name = name; kind = kind }) (kind_in p.1)) (name_in p.0)) (two_items_in d)

-- the columns of a source
unfoldable pub columns_of : Option ℕ → Data → Result (List Column) JobFault
columns_of node d = do
  items ← list_of node (codes "columns") d
  some ← check (nat_lt 0 (length items)) (fault BadMember node (codes "columns"))
  columns ← or_fault (fault BadMember node (codes "columns")) (each column_in items)
  short ← not_too_long node items
  Ok columns

-- ---- numbers

-- the key columns of an aggregate
unfoldable pub keys_of : Option ℕ → Data → Result (List ℕ) JobFault
keys_of node d = do
  items ← list_of node (codes "keys") d
  numbers ← check (list_all is_number items) (fault BadMember node (codes "keys"))
  short ← not_too_long node items
  or_fault (fault BadNumber node (codes "keys")) (each u32_in items)

-- the inputs of a union: 2 to 64
unfoldable pub inputs_of : Option ℕ → Data → Result (List ℕ) JobFault
inputs_of node d = do
  items ← list_of node (codes "inputs") d
  numbers ← check (nat_le LEAST_INPUTS (length items) && list_all is_number items)
      (fault BadMember node (codes "inputs"))
  few ← check (nat_le (length items) INPUT_LIMIT)
      (fault (TooMany (length items)) node (codes "inputs"))
  or_fault (fault BadNumber node (codes "inputs")) (each u32_in items)

-- ---- pairs of columns

-- whether the value is a list of two numbers, whatever they are
unfoldable pub is_pair : Data → Bool
is_pair d = option_map_or (λ p. is_number p.0 && is_number p.1) (two_items_in d) false

-- a left and a right column
unfoldable pub pair_in : Data → Option (ℕ × ℕ)
pair_in d =
    option_and_then (λ p. option_and_then (λ left. option_map (λ right.
    (left, right)) (u32_in p.1)) (u32_in p.0)) (two_items_in d)

-- the key columns of a join
unfoldable pub pairs_of : Option ℕ → Data → Result (List (ℕ × ℕ)) JobFault
pairs_of node d = do
  items ← list_of node (codes "keys") d
  pairs ← check (list_all is_pair items) (fault BadMember node (codes "keys"))
  short ← not_too_long node items
  or_fault (fault BadNumber node (codes "keys")) (each pair_in items)

-- ---- aggregates

-- `["count"]`
abbrev pub is_count : Data → Bool
is_count d = option_map_or (is_text (codes "count")) (one_item_in d) false

-- the word of an aggregate of a column
abbrev pub is_column_word : Data → Bool
is_column_word d = is_text (codes "sum") d || is_text (codes "min") d || is_text (codes "max") d

-- such a word and a number, whatever it is
abbrev pub is_column_agg : Data → Bool
is_column_agg d = option_map_or (λ p. is_column_word p.0 && is_number p.1) (two_items_in d) false

-- whether the value has the form of an aggregate, whatever its number is
unfoldable pub is_agg : Data → Bool
is_agg d = is_count d || is_column_agg d

-- the aggregate of this word and this column
unfoldable pub column_agg_in : Data → ℕ → Agg
column_agg_in word column =
    if is_text (codes "sum") word then Sum column else
    if is_text (codes "min") word then Min column else Max column

-- the aggregate that a value is
unfoldable pub agg_in : Data → Option Agg
agg_in d =
    if is_count d then Some Count else
    option_and_then (λ p. option_map (column_agg_in p.0) (u32_in p.1)) (two_items_in d)

-- the aggregates of an aggregate node
unfoldable pub aggs_of : Option ℕ → Data → Result (List Agg) JobFault
aggs_of node d = do
  items ← list_of node (codes "aggs") d
  aggs ← check (list_all is_agg items) (fault BadMember node (codes "aggs"))
  short ← not_too_long node items
  or_fault (fault BadNumber node (codes "aggs")) (each agg_in items)

-- ---- expressions and tests

-- the depth as a number of 64 bits; a value that was read from a text has one of at most 127
abbrev pub capped_depth : Data → ℕ
capped_depth value = min (list_depth value) (2 ^ 64 - 1)

-- the depth of the first of these that is too deep
abbrev pub too_deep_among : List Data → Option ℕ
too_deep_among values = find (λ depth. nat_lt DEPTH_LIMIT depth) (map capped_depth values)

-- no fault, unless something is too deep
abbrev pub not_deep : Option ℕ → Option ℕ → Result ⊤ JobFault
not_deep k None = Ok tt
not_deep k (Some depth) = Err (fault (TooMany depth) k (codes "depth"))

-- the test of a filter
unfoldable pub where_of : Option ℕ → Data → Result Pred JobFault
where_of node d = do
  value ← member_of node (codes "where") d
  shallow ← not_deep node (too_deep_among (value ∷ []))
  numbers ← check (not (bad_number_in value)) (fault BadNumber node (codes "where"))
  or_fault (fault BadExpr node (codes "where")) (test_of value)

-- the expressions of a project node
unfoldable pub exprs_of : Option ℕ → Data → Result (List Expr) JobFault
exprs_of node d = do
  items ← list_of node (codes "exprs") d
  some ← check (nat_lt 0 (length items)) (fault BadMember node (codes "exprs"))
  short ← not_too_long node items
  shallow ← not_deep node (too_deep_among items)
  numbers ← check (not (list_any bad_number_in items)) (fault BadNumber node (codes "exprs"))
  or_fault (fault BadExpr node (codes "exprs")) (each expr_of items)

-- ---- words

-- a text of one ASCII character
abbrev pub ascii_in : List ℕ → Option ℕ
ascii_in text =
    if (length text == 1) && nat_lt (slice_index text 0) 128
    then Some (slice_index text 0) else None

-- the separator of an explode node
unfoldable pub separator_of : Option ℕ → Data → Result ℕ JobFault
separator_of node d = do
  value ← member_of node (codes "separator") d
  or_fault (fault BadMember node (codes "separator")) (option_and_then ascii_in (as_str value))

-- the kind of a join of this name
unfoldable pub join_kind_named : List ℕ → Option JoinKind
join_kind_named word =
    if bytes_eq word (codes "inner") then Some kind.Inner else
    if bytes_eq word (codes "left") then Some kind.Left else
    if bytes_eq word (codes "right") then Some kind.Right else
    if bytes_eq word (codes "full") then Some kind.Full else
    if bytes_eq word (codes "semi") then Some kind.Semi else
    if bytes_eq word (codes "anti") then Some kind.Anti else None

-- the kind of a join
unfoldable pub join_kind_of : Option ℕ → Data → Result JoinKind JobFault
join_kind_of node d = do
  value ← member_of node (codes "kind") d
  or_fault (fault BadMember node (codes "kind")) (option_and_then join_kind_named (as_str value))

-- whether the rows are spread anew
abbrev pub rebalance_in : Data → Option Bool
rebalance_in d =
    if is_text (codes "forward") d then Some false else
    if is_text (codes "rebalance") d then Some true else None

-- what `ship` says, if it is there
abbrev pub shipped : Option ℕ → Option Data → Result Bool JobFault
shipped k None = Ok false
shipped k (Some value) = or_fault (fault BadMember k (codes "ship")) (rebalance_in value)

-- whether a node's rows are spread anew
unfoldable pub ship_of : Option ℕ → Data → Result Bool JobFault
ship_of node d = shipped node (get (codes "ship") d)
