-- The JSON value that a job is printed as: objects with their members in byte order.
use Rattle.std.specs.Prelude.{ℕ, Bool, true, false, List, [], ◌∷◌, map, get_or, codes}
use Rattle.serde_json.specs.Data.{Data, number, unsigned, string, array, object, Members, no_members, member, put}
use Rattle.serde_json.specs.View.{items_of}
use Rattle.plan_model.specs.Settings.{settings, setting_name, value_of}
use Rattle.plan_model.specs.declared.agg.Agg.{Agg}
use Rattle.plan_model.specs.declared.agg.Agg.TheVariants.{Count, Sum, Min, Max}
use Rattle.plan_model.specs.declared.column.Column.{Column}
use Rattle.plan_model.specs.declared.join_kind.JoinKind.{JoinKind}
use Rattle.plan_model.specs.declared.join_kind.JoinKind.TheVariants as kind
use Rattle.plan_model.specs.declared.kind.Kind.{Kind}
use Rattle.plan_model.specs.declared.kind.Kind.TheVariants.{IntKind, TextKind}
use Rattle.plan_model.specs.declared.node.Node.{Node}
use Rattle.plan_model.specs.declared.op.Op.{Op}
use Rattle.plan_model.specs.declared.op.Op.TheVariants.{Source, Filter, Project, Explode, Union, Aggregate, Distinct, Join, Sink}
use Rattle.plan_model.specs.declared.setting.Setting.{Setting}
use Rattle.plan_model.specs.declared.setting_values.SettingValues.{SettingValues}
use Rattle.expr_json.specs.Spelling.{expr_value, test_value}
use Rattle.job_json.specs.declared.job.Job.{Job}

-- ---- values

-- a list with these items
abbrev pub list_value : List Data → Data
list_value items = array (items_of items)

-- these members
abbrev pub members_from : List (List ℕ × Data) → Members
members_from [] = no_members
members_from (m ∷ ms) = member m.0 m.1 (members_from ms)

-- these members, put one after another
abbrev pub puts : List (List ℕ × Data) → Members → Members
puts [] found = found
puts (m ∷ ms) found = puts ms (put m.0 m.1 found)

-- an unsigned number
abbrev pub number_value : ℕ → Data
number_value n = number (unsigned n)

-- ---- the parts of nodes

-- the word for a kind of column
abbrev pub kind_word : Kind → List ℕ
kind_word IntKind = codes "int"
kind_word TextKind = codes "text"

-- a column: its name and its kind
abbrev pub column_value : Column → Data
column_value column = list_value (string column.name ∷ string (kind_word column.kind) ∷ [])

-- a pair of columns
abbrev pub pair_value : ℕ × ℕ → Data
pair_value pair = list_value (number_value pair.0 ∷ number_value pair.1 ∷ [])

-- an aggregate of a column
abbrev pub column_agg_value : List ℕ → ℕ → Data
column_agg_value word column = list_value (string word ∷ number_value column ∷ [])

-- an aggregate
abbrev pub agg_value : Agg → Data
agg_value Count = list_value (string (codes "count") ∷ [])
agg_value (Sum column) = column_agg_value (codes "sum") column
agg_value (Min column) = column_agg_value (codes "min") column
agg_value (Max column) = column_agg_value (codes "max") column

-- the word for a kind of join
abbrev pub join_kind_word : JoinKind → List ℕ
join_kind_word kind.Inner = codes "inner"
join_kind_word kind.Left = codes "left"
join_kind_word kind.Right = codes "right"
join_kind_word kind.Full = codes "full"
join_kind_word kind.Semi = codes "semi"
join_kind_word kind.Anti = codes "anti"

-- ---- nodes

-- an input of a node, by its place
abbrev pub input_value : List ℕ → ℕ → Data
input_value inputs place = number_value (get_or inputs place 0)

-- the members of a node but `ship`
abbrev pub op_members : Op → List ℕ → Members
op_members (Source table columns) inputs = members_from (
    (codes "columns", list_value (map column_value columns))
    ∷ (codes "op", string (codes "source"))
    ∷ (codes "table", string table)
    ∷ [])
op_members (Filter test) inputs = members_from (
    (codes "input", input_value inputs 0)
    ∷ (codes "op", string (codes "filter"))
    ∷ (codes "where", test_value test)
    ∷ [])
op_members (Project exprs) inputs = members_from (
    (codes "exprs", list_value (map expr_value exprs))
    ∷ (codes "input", input_value inputs 0)
    ∷ (codes "op", string (codes "project"))
    ∷ [])
op_members (Explode column separator) inputs = members_from (
    (codes "column", number_value column)
    ∷ (codes "input", input_value inputs 0)
    ∷ (codes "op", string (codes "explode"))
    ∷ (codes "separator", string (separator ∷ []))
    ∷ [])
op_members Union inputs = members_from (
    (codes "inputs", list_value (map number_value inputs))
    ∷ (codes "op", string (codes "union"))
    ∷ [])
op_members (Aggregate keys aggs) inputs = members_from (
    (codes "aggs", list_value (map agg_value aggs))
    ∷ (codes "input", input_value inputs 0)
    ∷ (codes "keys", list_value (map number_value keys))
    ∷ (codes "op", string (codes "aggregate"))
    ∷ [])
op_members Distinct inputs = members_from (
    (codes "input", input_value inputs 0)
    ∷ (codes "op", string (codes "distinct"))
    ∷ [])
op_members (Join kind keys) inputs = members_from (
    (codes "keys", list_value (map pair_value keys))
    ∷ (codes "kind", string (join_kind_word kind))
    ∷ (codes "left", input_value inputs 0)
    ∷ (codes "op", string (codes "join"))
    ∷ (codes "right", input_value inputs 1)
    ∷ [])
op_members (Sink name) inputs = members_from (
    (codes "input", input_value inputs 0)
    ∷ (codes "name", string name)
    ∷ (codes "op", string (codes "sink"))
    ∷ [])

-- `ship`, at its place among the members, where rows are spread anew
abbrev pub with_ship : Bool → Members → Members
with_ship true members = put (codes "ship") (string (codes "rebalance")) members
with_ship false members = members

-- a node
abbrev pub node_value : Node → Data
node_value node = object (with_ship node.rebalance (op_members node.op node.inputs))

-- ---- jobs

-- a setting and its value
abbrev pub setting_member : SettingValues → Setting → List ℕ × Data
setting_member values setting = (setting_name setting, number_value (value_of values setting))

-- all settings
abbrev pub settings_value : SettingValues → Data
settings_value values = object (members_from (map (setting_member values) settings))

-- the value that spells a job
unfoldable pub job_value : Job → Data
job_value job = object (members_from (
    (codes "job", string job.name)
    ∷ (codes "nodes", list_value (map node_value job.plan))
    ∷ (codes "settings", settings_value job.settings)
    ∷ []))
