-- What the definitions say of a plan: a source, a filter of it that two aggregates take, and a second source that comes
-- late in the plan.
use Rattle.std.proofs.Common.{◌≡◌, List, [], ◌∷◌, refl}
use Rattle.std.specs.Prelude.{codes, false}
use Rattle.row_core.specs.declared.expr.Expr.{Col}
use Rattle.row_core.specs.declared.pred.Pred.{IsNull}
use Rattle.plan_model.specs.declared.agg.Agg.TheVariants.{Count}
use Rattle.plan_model.specs.declared.join_kind.JoinKind.TheVariants.{Inner}
use Rattle.plan_model.specs.declared.kind.Kind.TheVariants.{IntKind}
use Rattle.plan_model.specs.declared.column.Column.{Column}
use Rattle.plan_model.specs.declared.node.Node.{Node}
use Rattle.plan_model.specs.declared.op.Op.TheVariants.{Source, Filter, Aggregate, Join, Sink}
use Rattle.plan_text.specs.Checked.{sink_count}
use Rattle.vertex_builder.specs.Chains.{chain_of}
use Rattle.plan_text.specs.Making.{heads_made, making_order}

abbrev column : Column
column = record { name = codes "c"; kind = IntKind }

-- a filter that a join and an aggregate take
abbrev nodes : List Node
nodes = record { op = Source (codes "orders") (column ∷ column ∷ []); inputs = []; rebalance = false }
    ∷ record { op = Filter (IsNull (Col 1)); inputs = 0 ∷ []; rebalance = false }
    ∷ record { op = Source (codes "cities") (column ∷ []); inputs = []; rebalance = false }
    ∷ record { op = Join Inner ((0, 0) ∷ []); inputs = 1 ∷ 2 ∷ []; rebalance = false }
    ∷ record { op = Sink (codes "joined"); inputs = 3 ∷ []; rebalance = false }
    ∷ record { op = Aggregate (0 ∷ []) (Count ∷ []); inputs = 1 ∷ []; rebalance = false }
    ∷ record { op = Sink (codes "counts"); inputs = 5 ∷ []; rebalance = false } ∷ []

two_sinks : sink_count nodes ≡ 2
two_sinks = refl

filter_is_chained : chain_of nodes [] 0 ≡ 0 ∷ 1 ∷ []
filter_is_chained = refl

sources_first : heads_made nodes [] 0 ≡ 0 ∷ 2 ∷ []
sources_first = refl

aggregate_before_the_join : heads_made nodes [] 1 ≡ 0 ∷ 2 ∷ 5 ∷ []
aggregate_before_the_join = refl

order : making_order nodes [] ≡ 0 ∷ 2 ∷ 5 ∷ 3 ∷ []
order = refl
