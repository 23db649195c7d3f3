-- The edges of a plan, and how rows go along them.
use Rattle.std.specs.Prelude.{ℕ, ◌+◌, ◌==◌, Bool, true, false, not, ◌&&◌, ◌||◌, List, [], ◌∷◌, ◌++◌, length, map, filter, find, get_or, slice_get, Option, None, if◌then◌else◌}
use Rattle.std.specs.List.{list_all, range_with_len}
use Rattle.std.specs.Option.{option_map, option_map_or}
use Rattle.plan_model.specs.Operators.{may_rebalance}
use Rattle.plan_model.specs.Widths.{widths_of}
use Rattle.plan_model.specs.declared.node.Node.{Node}
use Rattle.plan_model.specs.declared.op.Op.{Op}
use Rattle.plan_model.specs.declared.op.Op.TheVariants.{Union, Aggregate, Distinct, Join}
use Rattle.plan_model.specs.declared.ship.Ship.{Ship}
use Rattle.plan_model.specs.declared.ship.Ship.TheVariants.{Forward, Hash, Rebalance}
use Rattle.plan_model.specs.declared.side.Side.{Side}
use Rattle.plan_model.specs.declared.side.Side.TheVariants.{Left, Right}
use Rattle.vertex_builder.specs.declared.edge.Edge.{Edge}
use Rattle.vertex_builder.specs.declared.widening.Widening.{Widening}

-- ---- edges

-- an edge from each of these inputs, the first of which is the node's input at this place
abbrev pub edges_into : ℕ → ℕ → List ℕ → List Edge
edges_into node place [] = []
edges_into node place (input ∷ inputs) =
    record { from = input; into = node; place = place } ∷ edges_into node (place + 1) inputs

-- the edges into these nodes, the first of which stands at this place
abbrev pub edges_from : ℕ → List Node → List Edge
edges_from place [] = []
edges_from place (node ∷ nodes) = edges_into place 0 node.inputs ++ edges_from (place + 1) nodes

-- all edges of a plan, in order of consumer and input
abbrev pub edges_of : List Node → List Edge
edges_of nodes = edges_from 0 nodes

-- the edges from a node to its consumers
abbrev pub consumer_edges : List Node → ℕ → List Edge
consumer_edges nodes node = filter (λ edge. edge.from == node) (edges_of nodes)

-- the edges into a node
abbrev pub input_edges : List Node → ℕ → List Edge
input_edges nodes place =
    option_map_or (λ node. edges_into place 0 node.inputs) (slice_get nodes place) []

-- ---- ships

-- the columns of one side of a join's keys
abbrev pub side_columns : ℕ → List (ℕ × ℕ) → List ℕ
side_columns place keys = map (λ pair. if place == 0 then pair.0 else pair.1) keys

-- how an operator wants its rows at an input, whose rows have this width
abbrev pub op_ship : Op → ℕ → ℕ → Ship
op_ship Union place width = Rebalance
op_ship (Aggregate keys aggs) place width = Hash keys
op_ship Distinct place width = Hash (range_with_len 0 width)
op_ship (Join kind keys) place width = Hash (side_columns place keys)
op_ship _ place width = Forward

-- how rows go into a node
abbrev pub ship_into : Node → ℕ → ℕ → Ship
ship_into node place width = if node.rebalance then Rebalance else op_ship node.op place width

-- how rows go along an edge
abbrev pub edge_ship : List Node → Edge → Ship
edge_ship nodes edge =
    let width = get_or (widths_of nodes) edge.from 0 in
    option_map_or (λ node. ship_into node edge.place width) (slice_get nodes edge.into) Forward

abbrev pub is_forward : Ship → Bool
is_forward Forward = true
is_forward _ = false

-- ---- chained edges

-- the edge goes forward into an operator that works on one row of one input at a time
abbrev pub may_chain : List Node → Edge → Bool
may_chain nodes edge =
    option_map_or (λ node. may_rebalance node.op) (slice_get nodes edge.into) false
    && is_forward (edge_ship nodes edge)

-- it works on one row of one input at a time, and its rows come as they are
abbrev pub takes_rows : Node → Bool
takes_rows node = may_rebalance node.op && not node.rebalance

-- ---- widened joins

abbrev pub is_join : Op → Bool
is_join (Join kind keys) = true
is_join _ = false

abbrev pub is_join_at : List Node → ℕ → Bool
is_join_at nodes place = option_map_or (λ node. is_join node.op) (slice_get nodes place) false

-- the build side of the first widening of a node
abbrev pub widening_of : List Widening → ℕ → Option Side
widening_of widened node =
    option_map (λ widening. widening.side) (find (λ widening. widening.node == node) widened)

-- the side of a widened join that is read whole
abbrev pub build_side : List Node → List Widening → ℕ → Option Side
build_side nodes widened node = if is_join_at nodes node then widening_of widened node else None

-- the inputs of a join at which it takes the side that is built, and the other
abbrev pub build_place : Side → ℕ
build_place Left = 0
build_place Right = 1

abbrev pub probe_place : Side → ℕ
probe_place Left = 1
probe_place Right = 0

-- the edge goes into a widened join on its probe side
abbrev pub is_probe : List Node → List Widening → Edge → Bool
is_probe nodes widened edge = option_map_or
    (λ side. edge.place == probe_place side) (build_side nodes widened edge.into) false

-- ---- chains

-- the only edge from its node, into an operator that works on one row at a time or into the probe
-- side of a widened join
abbrev pub is_chained : List Node → List Widening → Edge → Bool
is_chained nodes widened edge =
    (length (consumer_edges nodes edge.from) == 1)
    && (may_chain nodes edge || is_probe nodes widened edge)

-- the node that is chained after a node
abbrev pub chained_after : List Node → List Widening → ℕ → Option ℕ
chained_after nodes widened node =
    option_map (λ edge. edge.into) (find (is_chained nodes widened) (consumer_edges nodes node))

-- none of the edges into the node is chained
abbrev pub is_head : List Node → List Widening → ℕ → Bool
is_head nodes widened node =
    list_all (λ edge. not (is_chained nodes widened edge)) (input_edges nodes node)
