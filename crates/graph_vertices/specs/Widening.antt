-- Which joins can be widened, by the vertices of their nodes.
use Rattle.std.specs.Prelude.{◌≡◌, ℕ, ◌≤◌, IsTrue, List, length, get_or, None}
use Rattle.plan_model.specs.declared.node.Node.{Node}
use Rattle.plan_model.specs.declared.side.Side.{Side}
use Rattle.vertex_builder.specs.Edges.{build_place, consumer_edges, probe_place, widening_of}
use Rattle.vertex_builder.specs.Vertices.{inputs_at}
use Rattle.vertex_builder.specs.declared.widening.Widening.{Widening}
use Rattle.vertex_laws.specs.VertexRows.{may_repeat, op_at}
use Rattle.graph_model.specs.declared.made_vertex.MadeVertex.{MadeVertex}
use Rattle.graph_model.specs.States.{vertex_at, maker, is_complete}

-- no vertex has the node
abbrev pub IsUnmade : List MadeVertex → ℕ → Type 0
IsUnmade vertices node = length vertices ≤ maker vertices node

pub record CanWiden (nodes : List Node) (widened : List Widening) (vertices : List MadeVertex)
    (node : ℕ) (side : Side) : Type 0 where
  pub repeats : IsTrue (may_repeat (op_at nodes node) side)
  pub unmade : IsUnmade vertices node
  pub fresh : widening_of widened node ≡ None
  pub build : IsTrue (is_complete (vertex_at vertices
      (maker vertices (get_or (inputs_at nodes node) (build_place side) 0))))
  pub probe : IsUnmade vertices (get_or (inputs_at nodes node) (probe_place side) 0)
  pub single : length (consumer_edges nodes (get_or (inputs_at nodes node) (probe_place side) 0))
      ≡ 1
