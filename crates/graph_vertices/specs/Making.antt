-- The vertex of a chain that can be made.
use Rattle.std.specs.Prelude.{◌≡◌, ℕ, IsTrue, List, get_or}
use Rattle.plan_model.specs.declared.node.Node.{Node}
use Rattle.vertex_builder.specs.Chains.{is_among}
use Rattle.vertex_builder.specs.Vertices.{makeable_heads, IsVertex}
use Rattle.vertex_builder.specs.declared.vertex.Vertex.{Vertex}
use Rattle.vertex_builder.specs.declared.widening.Widening.{Widening}
use Rattle.graph_model.specs.declared.made_vertex.MadeVertex.{MadeVertex}
use Rattle.graph_model.specs.States.{made_nodes, complete_nodes}

-- the head of the chain can be made
abbrev pub HasMakeableHead : List Node → List Widening → List MadeVertex → List ℕ → Type 0
HasMakeableHead nodes widened vertices chain = IsTrue (is_among
    (makeable_heads nodes widened (made_nodes vertices) (complete_nodes vertices))
    (get_or chain 0 0))

pub record IsNext (nodes : List Node) (widened : List Widening) (max_parallelism : ℕ)
    (vertices : List MadeVertex) (chain : List ℕ) (vertex : Vertex) : Type 0 where
  pub makeable : HasMakeableHead nodes widened vertices chain
  pub is : IsVertex nodes widened max_parallelism vertex
  pub chain_is : vertex.nodes ≡ chain
