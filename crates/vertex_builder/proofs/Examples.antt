-- What the definitions say of a plan: two sources, one of them filtered, joined, counted by a key and written.
use Rattle.std.proofs.Common.{◌≡◌, List, [], ◌∷◌, Some, None, refl}
use Rattle.std.specs.Prelude.{codes, true, false}
use Rattle.plan_model.specs.declared.side.Side.TheVariants.{Right}
use Rattle.vertex_builder.specs.Chains.{chain_of}
use Rattle.vertex_builder.specs.declared.widening.Widening.{Widening}
use Rattle.row_core.specs.declared.expr.Expr.{Col}
use Rattle.row_core.specs.declared.pred.Pred.{IsNull}
use Rattle.plan_model.specs.declared.agg.Agg.TheVariants.{Count}
use Rattle.plan_model.specs.declared.join_kind.JoinKind.TheVariants.{Inner}
use Rattle.plan_model.specs.declared.kind.Kind.TheVariants.{IntKind}
use Rattle.plan_model.specs.declared.column.Column.{Column}
use Rattle.plan_model.specs.declared.node.Node.{Node}
use Rattle.plan_model.specs.declared.op.Op.TheVariants.{Source, Filter, Union, Aggregate, Distinct, Join, Sink}
use Rattle.plan_model.specs.declared.ship.Ship.TheVariants.{Forward, Hash, Rebalance}
use Rattle.vertex_builder.specs.Edges.{chained_after, is_head}
use Rattle.vertex_builder.specs.Vertices.{head_inputs, makeable_heads, vertex_inputs, vertex_outputs}

abbrev column : Column
column = record { name = codes "c"; kind = IntKind }

abbrev plan : List Node
plan = record { op = Source (codes "orders") (column ∷ column ∷ column ∷ []); inputs = []; rebalance = false }
    ∷ record { op = Filter (IsNull (Col 2)); inputs = 0 ∷ []; rebalance = false }
    ∷ record { op = Source (codes "cities") (column ∷ column ∷ []); inputs = []; rebalance = false }
    ∷ record { op = Join Inner ((1, 0) ∷ []); inputs = 1 ∷ 2 ∷ []; rebalance = false }
    ∷ record { op = Aggregate (4 ∷ []) (Count ∷ []); inputs = 3 ∷ []; rebalance = false }
    ∷ record { op = Sink (codes "totals"); inputs = 4 ∷ []; rebalance = false } ∷ []

first_heads : makeable_heads plan [] [] [] ≡ 0 ∷ 2 ∷ []
first_heads = refl

join_waits : makeable_heads plan [] (0 ∷ 1 ∷ 2 ∷ []) (0 ∷ 1 ∷ []) ≡ []
join_waits = refl

join_is_ready : makeable_heads plan [] (2 ∷ 0 ∷ 1 ∷ []) (1 ∷ 2 ∷ 0 ∷ []) ≡ 3 ∷ []
join_is_ready = refl

filter_is_chained : chained_after plan [] 0 ≡ Some 1
filter_is_chained = refl

join_is_not : chained_after plan [] 1 ≡ None
join_is_not = refl

sink_is_chained : chained_after plan [] 4 ≡ Some 5
sink_is_chained = refl

sink_ends : chained_after plan [] 5 ≡ None
sink_ends = refl

join_inputs : head_inputs plan 3 ≡ record { from = Some 1; into = 3; place = 0; ship = Hash (1 ∷ []) } ∷ record { from = Some 2; into = 3; place = 1; ship = Hash (0 ∷ []) } ∷ []
join_inputs = refl

filter_outputs : vertex_outputs plan 8 1 ≡ record { into = Some 3; place = 0; ship = Hash (1 ∷ []); cells = 8 } ∷ []
filter_outputs = refl

sink_outputs : vertex_outputs plan 8 5 ≡ record { into = None; place = 0; ship = Forward; cells = 1 } ∷ []
sink_outputs = refl

-- ---- a source with three consumers, two of them in one union

abbrev shared : List Node
shared = record { op = Source (codes "t") (column ∷ column ∷ []); inputs = []; rebalance = false }
    ∷ record { op = Filter (IsNull (Col 0)); inputs = 0 ∷ []; rebalance = false }
    ∷ record { op = Union; inputs = 0 ∷ 1 ∷ 0 ∷ []; rebalance = false }
    ∷ record { op = Distinct; inputs = 2 ∷ []; rebalance = false }
    ∷ record { op = Sink (codes "out"); inputs = 3 ∷ []; rebalance = true } ∷ []

nothing_behind_three : chained_after shared [] 0 ≡ None
nothing_behind_three = refl

three_outputs : vertex_outputs shared 2 0 ≡ record { into = Some 1; place = 0; ship = Forward; cells = 1 } ∷ record { into = Some 2; place = 0; ship = Rebalance; cells = 2 } ∷ record { into = Some 2; place = 2; ship = Rebalance; cells = 2 } ∷ []
three_outputs = refl

distinct_input : head_inputs shared 3 ≡ record { from = Some 2; into = 3; place = 0; ship = Hash (0 ∷ 1 ∷ []) } ∷ []
distinct_input = refl

rebalanced_sink_is_a_head : is_head shared [] 4 ≡ true
rebalanced_sink_is_a_head = refl

-- ---- an aggregate joined to a second source, where that side is built

abbrev joined : List Node
joined = record { op = Source (codes "a") (column ∷ column ∷ []); inputs = []; rebalance = false }
    ∷ record { op = Aggregate (0 ∷ []) (Count ∷ []); inputs = 0 ∷ []; rebalance = false }
    ∷ record { op = Source (codes "b") (column ∷ column ∷ []); inputs = []; rebalance = false }
    ∷ record { op = Join Inner ((0, 0) ∷ []); inputs = 1 ∷ 2 ∷ []; rebalance = false }
    ∷ record { op = Sink (codes "out"); inputs = 3 ∷ []; rebalance = false } ∷ []

abbrev right_built : List Widening
right_built = record { node = 3; side = Right } ∷ []

four_vertices : makeable_heads joined [] (0 ∷ 2 ∷ 1 ∷ []) (0 ∷ 2 ∷ 1 ∷ []) ≡ 3 ∷ []
four_vertices = refl

three_vertices : chain_of joined right_built 1 ≡ 1 ∷ 3 ∷ 4 ∷ []
three_vertices = refl

join_is_no_head : is_head joined right_built 3 ≡ false
join_is_no_head = refl

both_inputs : vertex_inputs joined right_built (1 ∷ 3 ∷ 4 ∷ [])
    ≡ record { from = Some 0; into = 1; place = 0; ship = Hash (0 ∷ []) } ∷ record { from = Some 2; into = 3; place = 1; ship = Hash (0 ∷ []) } ∷ []
both_inputs = refl

build_side_is_awaited : makeable_heads joined right_built (0 ∷ 2 ∷ []) (0 ∷ []) ≡ []
build_side_is_awaited = refl

all_is_complete : makeable_heads joined right_built (0 ∷ 2 ∷ []) (0 ∷ 2 ∷ []) ≡ 1 ∷ []
all_is_complete = refl
