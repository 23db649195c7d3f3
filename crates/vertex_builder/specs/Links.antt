-- What is kept of a plan: the widths of its nodes, the edges to their consumers, and marks.
use Rattle.std.specs.Prelude.{◌≡◌, ℕ, ◌^◌, ◌<◌, ◌==◌, Bool, false, List, [], ◌++◌, length, filter, get_or}
use Rattle.plan_model.specs.Checks.{plan_faults}
use Rattle.plan_model.specs.Widths.{widths_of}
use Rattle.plan_model.specs.declared.node.Node.{Node}
use Rattle.vertex_builder.specs.declared.edge.Edge.{Edge}
use Rattle.vertex_builder.specs.Chains.{is_among}
use Rattle.vertex_builder.specs.Edges.{consumer_edges}

-- lists that have these edges more, each at the node that it comes from
pub record HaveMore (old new : List (List Edge)) (edges : List Edge) : Type 0 where
  pub len : length new ≡ length old
  pub each : (k : ℕ) → k < length old
      → get_or new k [] ≡ get_or old k [] ++ filter (λ edge. edge.from == k) edges

-- the consumer edges of each node
pub record ListConsumers (nodes : List Node) (lists : List (List Edge)) : Type 0 where
  pub len : length lists ≡ length nodes
  pub each : (k : ℕ) → k < length nodes → get_or lists k [] ≡ consumer_edges nodes k

-- the nodes of a plan without a fault, with their widths and consumer edges
pub record AreLinked (nodes : List Node) (widths : List ℕ) (lists : List (List Edge)) : Type 0 where
  pub faultless : plan_faults nodes ≡ []
  pub few : length nodes < 2 ^ 32
  pub wide : widths ≡ widths_of nodes
  pub consumers : ListConsumers nodes lists

-- a mark for each node of a plan, set where the node stands in the set
pub record Marks (set : List ℕ) (count : ℕ) (marks : List Bool) : Type 0 where
  pub len : length marks ≡ count
  pub at : (node : ℕ) → node < count → get_or marks node false ≡ is_among set node

-- the second number stands between the others
pub record IsBelow (low n high : ℕ) : Type 0 where
  pub above : low < n
  pub below : n < high
