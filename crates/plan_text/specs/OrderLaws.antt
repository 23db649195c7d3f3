-- What holds of the order in which the vertices of a plan are made.
use Rattle.std.specs.Prelude.{◌≡◌, ℕ, ◌<◌, nat_eq, nat_lt, true, ◌&&◌, List, [], length, take, get_or}
use Rattle.std.specs.List.{list_all, IsDistinct}
use Rattle.plan_model.specs.Checks.{plan_faults}
use Rattle.vertex_builder.specs.declared.widening.Widening.{Widening}
use Rattle.plan_model.specs.declared.node.Node.{Node}
use Rattle.vertex_builder.specs.Edges.{is_head}
use Rattle.vertex_builder.specs.Chains.{is_among}
use Rattle.vertex_builder.specs.Vertices.{nodes_taken}
use Rattle.plan_text.specs.Making.{nodes_of_vertices, making_order}

-- each head of the plan, and no other node, and none twice
pub record HasEachHead (nodes : List Node) (widened : List Widening) (order : List ℕ) : Type 0 where
  pub heads : (node : ℕ)
      → is_among order node ≡ (nat_lt node (length nodes) && is_head nodes widened node)
  pub once : IsDistinct nat_eq order

-- in a plan without a fault each head is made, and made once
abbrev pub EachHeadIsMade : Type 0
EachHeadIsMade =
    (nodes : List Node) (widened : List Widening) → plan_faults nodes ≡ []
    → HasEachHead nodes widened (making_order nodes widened)

-- the vertices of these heads have each node of the plan, and nothing else, and none twice
pub record ShowsEachNode (nodes : List Node) (widened : List Widening)
    (order : List ℕ) : Type 0 where
  pub all : (node : ℕ)
      → is_among (nodes_of_vertices nodes widened order) node ≡ nat_lt node (length nodes)
  pub once : IsDistinct nat_eq (nodes_of_vertices nodes widened order)

-- in a plan without a fault each node is in one vertex that is made
abbrev pub EachNodeIsShown : Type 0
EachNodeIsShown =
    (nodes : List Node) (widened : List Widening) → plan_faults nodes ≡ []
    → ShowsEachNode nodes widened (making_order nodes widened)

-- the nodes whose rows a vertex takes are in vertices before it
abbrev pub GoesByInputs : List Node → List Widening → List ℕ → Type 0
GoesByInputs nodes widened heads = (k : ℕ) → k < length heads
    → let before = nodes_of_vertices nodes widened (take k heads) in
    list_all (is_among before) (nodes_taken nodes widened (get_or heads k 0)) ≡ true

-- the order goes by the inputs of each vertex
abbrev pub InputsComeBefore : Type 0
InputsComeBefore = (nodes : List Node) (widened : List Widening)
    → GoesByInputs nodes widened (making_order nodes widened)
