-- What comes in at a vertex goes out of another, and a later widening leaves the vertex as it is.
use Rattle.std.specs.Prelude.{◌≡◌, ◌≢◌, ℕ, ◌<◌, false, IsTrue, List, [], ◌∷◌, ◌++◌, length, get_or, slice_get, All, Some}
use Rattle.plan_model.specs.declared.node.Node.{Node}
use Rattle.vertex_builder.specs.Chains.{is_among, chain_of}
use Rattle.vertex_builder.specs.Edges.{is_head, probe_place}
use Rattle.vertex_builder.specs.Vertices.{cells_of, head_of, inputs_at, last_in, last_of, vertex_of, IsVertex}
use Rattle.vertex_builder.specs.declared.edge.Edge.{Edge}
use Rattle.vertex_builder.specs.declared.vertex.Vertex.{Vertex}
use Rattle.vertex_builder.specs.declared.vertex_input.VertexInput.{VertexInput}
use Rattle.vertex_builder.specs.declared.vertex_output.VertexOutput.{VertexOutput}
use Rattle.vertex_builder.specs.declared.widening.Widening.{Widening}

-- ---- edges

-- the node of an edge is the one at its place among the inputs of its consumer
abbrev pub ComesFrom : List Node → Edge → Type 0
ComesFrom nodes edge = get_or (inputs_at nodes edge.into) edge.place 0 ≡ edge.from

-- ---- inputs

-- the output whose rows come in there: by the same ship, in the cells of that ship
abbrev pub output_for : ℕ → VertexInput → VertexOutput
output_for max_parallelism input = record {
  into = Some input.into;
  place = input.place;
  ship = input.ship;
  cells = cells_of max_parallelism input.ship;
}

-- the node that an input comes from is the last of another vertex, earlier than the last of this
-- one, and the input is one of that vertex's outputs
pub record ComesOut (nodes : List Node) (widened : List Widening) (max_parallelism : ℕ)
    (vertex : Vertex) (input : VertexInput) (from : ℕ) : Type 0 where
  pub head : ℕ
  pub within : head < length nodes
  pub begins : IsTrue (is_head nodes widened head)
  pub last : last_of (vertex_of nodes widened max_parallelism head) ≡ from
  pub other : head ≢ head_of vertex
  pub earlier : from < last_of vertex
  pub place : ℕ
  pub output : slice_get (vertex_of nodes widened max_parallelism head).outputs place
      ≡ Some (output_for max_parallelism input)

-- each input of a vertex, but for a source's files
abbrev pub InputsComeOut : List Node → List Widening → ℕ → Vertex → Type 0
InputsComeOut nodes widened max_parallelism vertex = All
    (λ input. (from : ℕ) → input.from ≡ Some from
    → ComesOut nodes widened max_parallelism vertex input from)
    vertex.inputs

-- the node is in the vertex of a head, whose last node is earlier than this one
pub record TakenFrom (nodes : List Node) (widened : List Widening) (end node : ℕ) : Type 0 where
  pub head : ℕ
  pub within : head < length nodes
  pub begins : IsTrue (is_head nodes widened head)
  pub inside : IsTrue (is_among (chain_of nodes widened head) node)
  pub earlier : last_in (chain_of nodes widened head) < end

-- ---- one widening more

-- the node on the probe side of a join
abbrev pub probe_of : List Node → Widening → ℕ
probe_of nodes widening = get_or (inputs_at nodes widening.node) (probe_place widening.side) 0

-- neither the join that is widened nor its probe side is in the vertex, as where neither is made
pub record IsApart (nodes : List Node) (widening : Widening) (vertex : Vertex) : Type 0 where
  pub join : is_among vertex.nodes widening.node ≡ false
  pub probe : is_among vertex.nodes (probe_of nodes widening) ≡ false

-- the vertex stays one, and its head a head
pub record Stays (nodes : List Node) (widened : List Widening) (widening : Widening)
    (max_parallelism : ℕ) (vertex : Vertex) : Type 0 where
  pub still : IsVertex nodes (widened ++ widening ∷ []) max_parallelism vertex
  pub head : is_head nodes (widened ++ widening ∷ []) (head_of vertex)
      ≡ is_head nodes widened (head_of vertex)
