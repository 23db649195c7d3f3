-- What a plan must be, as the faults of one that isn't, in the order in which they are told.
use Rattle.std.specs.Prelude.{ℕ, nat_eq, nat_lt, nat_le, Bool, true, false, not, ◌&&◌, ◌||◌, List, [], ◌∷◌, ◌++◌, length, map, get_or, slice_get, Some, None}
use Rattle.std.specs.List.{flat_map, list_all, list_any}
use Rattle.std.specs.Option.{option_map_or}
use Rattle.std.specs.Str.{bytes_eq}
use Rattle.row_core.specs.Exprs.{columns_within, pred_within}
use Rattle.row_core.specs.Values.{width_limit}
pub use Rattle.plan_model.specs.Operators.{is_sink, may_rebalance}
use Rattle.plan_model.specs.Widths.{width_of, widths_of, input_widths}
use Rattle.plan_model.specs.declared.agg.Agg.{Agg}
use Rattle.plan_model.specs.declared.agg.Agg.TheVariants.{Count, Sum, Min, Max}
use Rattle.plan_model.specs.declared.node.Node.{Node}
use Rattle.plan_model.specs.declared.op.Op.{Op}
use Rattle.plan_model.specs.declared.op.Op.TheVariants.{Source, Filter, Project, Explode, Union, Aggregate, Distinct, Join, Sink}
use Rattle.plan_model.specs.declared.plan_fault.PlanFault.{PlanFault}
use Rattle.plan_model.specs.declared.plan_kind.PlanKind.{PlanKind}
use Rattle.plan_model.specs.declared.plan_kind.PlanKind.TheVariants.{BadInput, NoKeys, BadShip, BadColumn, BadWidth, TooWide, NoSink, Dangling, SameSink}

-- ---- one node

-- the greatest number of inputs of a union
abbrev pub union_limit : ℕ
union_limit = 64

-- how many inputs an operator takes
abbrev pub takes : Op → ℕ → Bool
takes (Source table columns) n = nat_eq n 0
takes Union n = nat_le 2 n && nat_le n union_limit
takes (Join kind keys) n = nat_eq n 2
takes _ n = nat_eq n 1

-- a place of a node before, and not of a sink
abbrev pub gives_rows : List Node → ℕ → Bool
gives_rows before place = option_map_or (λ node. not (is_sink node.op)) (slice_get before place) false

abbrev pub is_some_of : {X : Type 0} → List X → Bool
is_some_of [] = false
is_some_of (item ∷ items) = true

-- an aggregate and a join have keys
abbrev pub has_keys : Op → Bool
has_keys (Aggregate keys aggs) = is_some_of keys
has_keys (Join kind keys) = is_some_of keys
has_keys _ = true

-- the column that an aggregate looks at is below the width
abbrev pub agg_within : ℕ → Agg → Bool
agg_within width Count = true
agg_within width (Sum column) = nat_lt column width
agg_within width (Min column) = nat_lt column width
agg_within width (Max column) = nat_lt column width

-- each column that an operator names is below the width of its input
abbrev pub columns_fit : Op → List ℕ → Bool
columns_fit (Filter test) widths = pred_within (get_or widths 0 0) test
columns_fit (Project exprs) widths = list_all (columns_within (get_or widths 0 0)) exprs
columns_fit (Explode column separator) widths = nat_lt column (get_or widths 0 0)
columns_fit (Aggregate keys aggs) widths = list_all (λ key. nat_lt key (get_or widths 0 0)) keys && list_all (agg_within (get_or widths 0 0)) aggs
columns_fit (Join kind keys) widths = list_all (λ pair. nat_lt pair.0 (get_or widths 0 0) && nat_lt pair.1 (get_or widths 1 0)) keys
columns_fit _ widths = true

-- the inputs of a union have one width
abbrev pub widths_agree : Op → List ℕ → Bool
widths_agree Union widths = list_all (nat_eq (get_or widths 0 0)) widths
widths_agree _ widths = true

-- this kind where the condition fails
abbrev pub unless : Bool → PlanKind → List PlanKind
unless true kind = []
unless false kind = kind ∷ []

-- what is wrong with a node behind these nodes
abbrev pub node_kinds : List Node → Node → List PlanKind
node_kinds before node =
    let widths = input_widths (widths_of before) node.inputs in
    unless (takes node.op (length node.inputs) && list_all (gives_rows before) node.inputs) BadInput
    ++ unless (has_keys node.op) NoKeys
    ++ unless (not node.rebalance || may_rebalance node.op) BadShip
    ++ unless (columns_fit node.op widths) BadColumn
    ++ unless (widths_agree node.op widths) BadWidth
    ++ unless (nat_le (width_of node.op widths) width_limit) TooWide

-- ---- the whole

-- the inputs of all nodes
abbrev pub all_inputs : List Node → List ℕ
all_inputs nodes = flat_map (λ node. node.inputs) nodes

-- some node takes the rows of the node at this place
abbrev pub is_consumed : List Node → ℕ → Bool
is_consumed nodes place = list_any (nat_eq place) (all_inputs nodes)

-- a node whose rows nobody takes, and that is no sink
abbrev pub dangling_kinds : List Node → List Node → Node → List PlanKind
dangling_kinds nodes before node = unless (is_sink node.op || is_consumed nodes (length before)) Dangling

-- a sink's name
abbrev pub sink_name : Op → List (List ℕ)
sink_name (Sink name) = name ∷ []
sink_name _ = []

-- the names of the sinks among these nodes
abbrev pub sink_names : List Node → List (List ℕ)
sink_names nodes = flat_map (λ node. sink_name node.op) nodes

-- a sink whose name a sink before it has
abbrev pub same_sink_kinds : List Node → Node → List PlanKind
same_sink_kinds before node = unless (list_all (λ name. not (list_any (bytes_eq name) (sink_names before))) (sink_name node.op)) SameSink

-- what is told of each of the last nodes in turn, with its place
abbrev pub told_at : (List Node → Node → List PlanKind) → List Node → List Node → List PlanFault
told_at kinds before [] = []
told_at kinds before (node ∷ nodes) =
    map (λ kind. record { node = Some (length before); kind = kind }) (kinds before node)
    ++ told_at kinds (before ++ node ∷ []) nodes

-- a plan has a sink
abbrev pub no_sink_faults : List Node → List PlanFault
no_sink_faults nodes = map (λ kind. record { node = None; kind = kind }) (unless (list_any (λ node. is_sink node.op) nodes) NoSink)

-- all faults of a plan
abbrev pub plan_faults : List Node → List PlanFault
plan_faults nodes =
    told_at node_kinds [] nodes
    ++ no_sink_faults nodes
    ++ told_at (dangling_kinds nodes) [] nodes
    ++ told_at same_sink_kinds [] nodes
