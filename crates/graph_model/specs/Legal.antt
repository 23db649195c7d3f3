-- Which events are legal in a state, and what each changes.
use Rattle.std.specs.Prelude.{◌≡◌, ℕ, ◌+◌, ◌<◌, ◌≤◌, ⊤, IsTrue, IsFalse, Bool, true, false, List, [], ◌∷◌, ◌++◌, length, map, get_or, Some, None, All}
use Rattle.std.specs.List.{AllZip}
use Rattle.std.specs.Option.{MatchOption}
use Rattle.estate.specs.declared.part_name.PartName.{PartName}
use Rattle.plan_model.specs.declared.side.Side.{Side}
use Rattle.rect_cover.specs.Cells.{Reads}
use Rattle.rect_cover.specs.Covers.{IsCover}
use Rattle.vertex_builder.specs.Chains.{is_among, IsChain}
use Rattle.vertex_builder.specs.Edges.{consumer_edges, build_place, probe_place, widening_of}
use Rattle.vertex_builder.specs.Vertices.{inputs_at, last_in, makeable_heads, vertex_inputs, vertex_outputs}
use Rattle.vertex_builder.specs.declared.vertex_input.VertexInput.{VertexInput}
use Rattle.vertex_laws.specs.VertexRows.{may_repeat, op_at}
use Rattle.graph_model.specs.declared.cause.Cause.{Cause}
use Rattle.graph_model.specs.declared.cause.Cause.TheVariants.{Gate, Lost}
use Rattle.graph_model.specs.declared.event.Event.{Event}
use Rattle.graph_model.specs.declared.event.Event.TheVariants.{Opened, Started, Made, Widened, Decided, Done, Reset, Trouble, Ended}
use Rattle.graph_model.specs.declared.made_vertex.MadeVertex.{MadeVertex}
use Rattle.graph_model.specs.declared.sub.Sub.{Sub}
use Rattle.graph_model.specs.declared.win.Win.{Win}
use Rattle.graph_model.specs.Closures.{IsClosure}
use Rattle.graph_model.specs.Reads.{ReadEdge, read_edges, shape_at}
use Rattle.graph_model.specs.States.{Given, State, vertex_at, subtasks_at, winner_at, winner_name, sub_of, maker, is_decided, is_complete, made_nodes, complete_nodes, put_winner, without_winners, put_decision}

-- not ended, and no more troubles than the limit
pub record IsOpen (given : Given) (state : State) : Type 0 where
  pub ended : state.ended ≡ None
  pub troubles : state.troubles ≤ given.settings.restart_limit

-- ---- making and widening

-- the heads that can be made
abbrev pub heads_now : Given → State → List ℕ
heads_now given state = makeable_heads given.nodes state.widened
    (made_nodes state.vertices) (complete_nodes state.vertices)

-- the next vertex is the chain of a head that can be made
pub record MayMake (given : Given) (state : State) (vertex : ℕ) (nodes : List ℕ) : Type 0 where
  pub running : IsOpen given state
  pub next : vertex ≡ length state.vertices
  pub makeable : IsTrue (is_among (heads_now given state) (get_or nodes 0 0))
  pub chain : IsChain given.nodes state.widened (get_or nodes 0 0) nodes

-- the vertex of a chain, which is not decided
abbrev pub made_of : Given → State → List ℕ → MadeVertex
made_of given state nodes = record {
  vertex = record {
    nodes = nodes;
    inputs = vertex_inputs given.nodes state.widened nodes;
    outputs = vertex_outputs given.nodes given.settings.max_parallelism (last_in nodes);
  };
  subtasks = [];
}

-- the input of a join on the side that is built, and on the other
abbrev pub build_node : Given → ℕ → Side → ℕ
build_node given node side = get_or (inputs_at given.nodes node) (build_place side) 0

abbrev pub probe_node : Given → ℕ → Side → ℕ
probe_node given node side = get_or (inputs_at given.nodes node) (probe_place side) 0

-- the join's kind lets the side be repeated; neither the join nor its probe side is made, and the
-- build side is complete
pub record MayWiden (given : Given) (state : State) (node : ℕ) (side : Side) : Type 0 where
  pub running : IsOpen given state
  pub repeats : IsTrue (may_repeat (op_at given.nodes node) side)
  pub unmade : IsFalse (is_among (made_nodes state.vertices) node)
  pub fresh : widening_of state.widened node ≡ None
  pub build : IsTrue (is_among (complete_nodes state.vertices) (build_node given node side))
  pub probe : IsFalse (is_among (made_nodes state.vertices) (probe_node given node side))
  pub single : length (consumer_edges given.nodes (probe_node given node side)) ≡ 1

-- ---- deciding

-- the vertex that an input comes from is complete
abbrev pub IsFilled : List MadeVertex → VertexInput → Type 0
IsFilled vertices input = MatchOption input.from ⊤
    (λ node. IsTrue (is_complete (vertex_at vertices (maker vertices node))))

-- the vertex is made and undecided, and its inputs are complete
pub record IsDecidable (given : Given) (state : State) (vertex : ℕ) : Type 0 where
  pub running : IsOpen given state
  pub made : vertex < length state.vertices
  pub undecided : IsFalse (is_decided (vertex_at state.vertices vertex))
  pub inputs : All (IsFilled state.vertices) (vertex_at state.vertices vertex).vertex.inputs

-- and the decision is a cover
pub record MayDecide (given : Given) (state : State) (vertex : ℕ)
    (decision : List Reads) : Type 0 where
  pub decidable : IsDecidable given state vertex
  pub cover : IsCover
      (shape_at given state.vertices (vertex_at state.vertices vertex).vertex) decision

-- ---- winning

pub record IsUnfinished (vertices : List MadeVertex) (sub : Sub) : Type 0 where
  pub decided : sub.subtask < length (subtasks_at vertices sub.vertex)
  pub unwon : winner_at vertices sub ≡ None

-- a part that is read is the present winner's
abbrev pub IsNamed : List MadeVertex → ReadEdge → PartName → Type 0
IsNamed vertices edge name = winner_name vertices edge.sub ≡ Some name

-- the sizes have the form of a vertex's outputs: for each as many as it has cells
abbrev pub HasForm : List MadeVertex → ℕ → List (List ℕ) → Type 0
HasForm vertices v sizes =
    map length sizes ≡ map (λ output. output.cells) (vertex_at vertices v).vertex.outputs

-- an attempt of the last epoch, of an unfinished subtask; it read the present winners
pub record MayWin (given : Given) (state : State) (name : PartName)
    (inputs : List PartName) (sizes : List (List ℕ)) : Type 0 where
  pub running : IsOpen given state
  pub epoch : name.epoch ≡ state.epoch
  pub opened : 0 < state.epoch
  pub unfinished : IsUnfinished state.vertices (sub_of name)
  pub named : AllZip (IsNamed state.vertices) (read_edges state.vertices (sub_of name)) inputs
  pub formed : HasForm state.vertices name.vertex sizes

-- ---- losing

-- the subtasks are those that run again where these parts are gone, and there are some
pub record MayReset (given : Given) (state : State) (gone : List PartName)
    (subs : List Sub) : Type 0 where
  pub running : IsOpen given state
  pub some : 0 < length subs
  pub closure : IsClosure state.vertices gone subs

-- the gate is an unfinished subtask's, or the lost part is a winner's
abbrev pub HasCause : State → Cause → Type 0
HasCause state (Gate name code) = IsUnfinished state.vertices (sub_of name)
HasCause state (Lost name) = winner_name state.vertices (sub_of name) ≡ Some name

pub record MayTrouble (given : Given) (state : State) (cause : Cause) : Type 0 where
  pub running : IsOpen given state
  pub stands : HasCause state cause

-- ---- ending

-- each node is in a complete vertex
abbrev pub IsDone : Given → State → Type 0
IsDone given state = (node : ℕ) → node < length given.nodes
    → IsTrue (is_complete (vertex_at state.vertices (maker state.vertices node)))

-- failed: the troubles are one more than the limit
abbrev pub MayEnd : Given → State → Bool → Type 0
MayEnd given state false = IsOpen given state × IsDone given state
MayEnd given state true =
    (state.ended ≡ None) × (state.troubles ≡ given.settings.restart_limit + 1)

-- ---- events

-- the job is started already
abbrev pub IsLegal : Given → State → Event → Type 0
IsLegal given state (Opened epoch) = IsOpen given state × (state.epoch < epoch)
IsLegal given state (Started job files) = ⊥
IsLegal given state (Made vertex nodes) = MayMake given state vertex nodes
IsLegal given state (Widened node side) = MayWiden given state node side
IsLegal given state (Decided vertex decision) = MayDecide given state vertex decision
IsLegal given state (Done name inputs sizes) = MayWin given state name inputs sizes
IsLegal given state (Reset gone subs) = MayReset given state gone subs
IsLegal given state (Trouble cause) = MayTrouble given state cause
IsLegal given state (Ended failed) = MayEnd given state failed

-- the state after an event
abbrev pub after : Given → State → Event → State
after given state (Opened epoch) = record state { epoch = epoch }
after given state (Started job files) = state
after given state (Made vertex nodes) =
    record state { vertices = state.vertices ++ made_of given state nodes ∷ [] }
after given state (Widened node side) =
    record state { widened = state.widened ++ record { node = node; side = side } ∷ [] }
after given state (Decided vertex decision) =
    record state { vertices = put_decision state.vertices vertex decision }
after given state (Done name inputs sizes) =
    let win : Win = record { name = name; inputs = inputs; sizes = sizes } in
    record state {
      vertices = put_winner state.vertices (sub_of name) (Some win);
      dones = state.dones ++ name ∷ [];
    }
after given state (Reset gone subs) =
    record state { vertices = without_winners state.vertices subs }
after given state (Trouble cause) = record state { troubles = state.troubles + 1 }
after given state (Ended failed) = record state { ended = Some failed }
