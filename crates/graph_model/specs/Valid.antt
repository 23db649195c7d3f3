-- What holds in the state of every list of legal events.
use Rattle.std.specs.Prelude.{◌≡◌, ℕ, ◌<◌, ◌≤◌, ⊤, IsTrue, IsFalse, List, [], length, map, Some, All, Contains}
use Rattle.std.specs.List.{AllZip}
use Rattle.std.specs.Option.{MatchOption}
use Rattle.estate.specs.declared.part_name.PartName.{PartName}
use Rattle.plan_model.specs.Checks.{plan_faults}
use Rattle.rect_cover.specs.Cells.{Reads}
use Rattle.rect_cover.specs.Covers.{IsCover}
use Rattle.vertex_builder.specs.Chains.{is_among}
use Rattle.vertex_builder.specs.Edges.{is_head}
use Rattle.vertex_builder.specs.Vertices.{head_of, IsVertex}
use Rattle.vertex_builder.specs.declared.vertex.Vertex.{Vertex}
use Rattle.vertex_builder.specs.declared.vertex_input.VertexInput.{VertexInput}
use Rattle.vertex_builder.specs.declared.widening.Widening.{Widening}
use Rattle.vertex_laws.specs.VertexRows.{MayRepeat}
use Rattle.graph_model.specs.declared.event.Event.{Event}
use Rattle.graph_model.specs.declared.made_vertex.MadeVertex.{MadeVertex}
use Rattle.graph_model.specs.declared.sub.Sub.{Sub}
use Rattle.graph_model.specs.declared.subtask_state.SubtaskState.{SubtaskState}
use Rattle.graph_model.specs.declared.win.Win.{Win}
use Rattle.graph_model.specs.Folds.{HasFold, fold_from}
use Rattle.graph_model.specs.Legal.{HasForm, IsNamed}
use Rattle.graph_model.specs.Reads.{read_edges, shape_at}
use Rattle.graph_model.specs.States.{Given, State, started, vertex_at, subtasks_at, winner_at, sub_of, maker, is_decided}

-- ---- vertices

-- the vertex of a head of the plan, by the present widenings
pub record IsMade (given : Given) (widened : List Widening) (vertex : Vertex) : Type 0 where
  pub is : IsVertex given.nodes widened given.settings.max_parallelism vertex
  pub head : IsTrue (is_head given.nodes widened (head_of vertex))
  pub within : head_of vertex < length given.nodes

-- the input's node is in an earlier vertex
abbrev pub ComesBefore : List MadeVertex → ℕ → VertexInput → Type 0
ComesBefore vertices v input = MatchOption input.from ⊤ (λ node. maker vertices node < v)

-- the head of a vertex is not in an earlier one
abbrev pub AreApart : List MadeVertex → Type 0
AreApart vertices = (u v : ℕ) → u < v → v < length vertices → IsFalse
    (is_among (vertex_at vertices u).vertex.nodes (head_of (vertex_at vertices v).vertex))

-- ---- decisions

abbrev pub IsFed : List MadeVertex → VertexInput → Type 0
IsFed vertices input = MatchOption input.from ⊤
    (λ node. IsTrue (is_decided (vertex_at vertices (maker vertices node))))

abbrev pub decision_of : List SubtaskState → List Reads
decision_of subtasks = map (λ subtask. subtask.reads) subtasks

-- a decision is a cover, and the vertices of the inputs are decided
pub record IsDecided (given : Given) (vertices : List MadeVertex) (vertex : Vertex)
    (decision : List Reads) : Type 0 where
  pub fed : All (IsFed vertices) vertex.inputs
  pub cover : IsCover (shape_at given vertices vertex) decision

-- ---- winners

-- an attempt of its subtask that was done, in an epoch from 1 to the last; what it read are the
-- present winners' parts
pub record IsWinner (vertices : List MadeVertex) (dones : List PartName) (epoch : ℕ) (sub : Sub)
    (win : Win) : Type 0 where
  pub own : sub_of win.name ≡ sub
  pub first : 0 < win.name.epoch
  pub last : win.name.epoch ≤ epoch
  pub noted : Contains dones win.name
  pub named : AllZip (IsNamed vertices) (read_edges vertices sub) win.inputs
  pub formed : HasForm vertices sub.vertex win.sizes

-- a part of a subtask that is decided
abbrev pub IsOfSubtask : List MadeVertex → PartName → Type 0
IsOfSubtask vertices name = name.subtask < length (subtasks_at vertices name.vertex)

pub record IsValid (given : Given) (state : State) : Type 0 where
  pub made : (v : ℕ) → v < length state.vertices
      → IsMade given state.widened (vertex_at state.vertices v).vertex
  pub before : (v : ℕ) → v < length state.vertices
      → All (ComesBefore state.vertices v) (vertex_at state.vertices v).vertex.inputs
  pub apart : AreApart state.vertices
  pub joins : MayRepeat given.nodes state.widened
  pub decided : (v : ℕ) → 0 < length (subtasks_at state.vertices v)
      → IsDecided given state.vertices (vertex_at state.vertices v).vertex
      (decision_of (subtasks_at state.vertices v))
  pub winners : (sub : Sub) (win : Win) → winner_at state.vertices sub ≡ Some win
      → IsWinner state.vertices state.dones state.epoch sub win
  pub done : All (IsOfSubtask state.vertices) state.dones

-- every list of legal events leads to a valid state
abbrev pub ValidLaw : Type 0
ValidLaw = (given : Given) (events : List Event) → plan_faults given.nodes ≡ []
    → HasFold given started events → IsValid given (fold_from given started events)
