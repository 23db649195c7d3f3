-- The rules by which joins are widened, vertices made and decided.
use Rattle.std.specs.Prelude.{◌≡◌, ℕ, ◌<◌, List, [], map, sum, get_or, slice_get, Option, Some, None, if◌then◌else◌}
use Rattle.std.specs.List.{flat_map, position_or_len}
use Rattle.std.specs.Option.{option_map_or}
use Rattle.std.specs.Str.{bytes_eq}
use Rattle.grid_groups.specs.Sizes.{capped}
use Rattle.join_rewrite.specs.Sides.{side_chosen}
use Rattle.parallelism_decider.specs.Decisions as plain
use Rattle.plan_model.specs.TableNames.{tables_of}
use Rattle.plan_model.specs.declared.join_kind.JoinKind.{JoinKind}
use Rattle.plan_model.specs.declared.op.Op.{Op}
use Rattle.plan_model.specs.declared.op.Op.TheVariants.{Source, Join}
use Rattle.plan_model.specs.declared.side.Side.{Side}
use Rattle.rect_cover.specs.Cells.{Reads}
use Rattle.rect_cover.specs.declared.grid.Grid.{Grid}
use Rattle.skew_splitter.specs.Decisions as joins
use Rattle.vertex_builder.specs.Vertices.{head_of, inputs_at}
use Rattle.vertex_builder.specs.declared.vertex.Vertex.{Vertex}
use Rattle.vertex_builder.specs.declared.vertex_input.VertexInput.{VertexInput}
use Rattle.vertex_laws.specs.VertexRows.{op_at}
use Rattle.graph_model.specs.Legal.{IsDecidable, MayWiden, heads_now}
use Rattle.graph_model.specs.Links.{output_number}
use Rattle.graph_model.specs.Reads.{input_grid}
use Rattle.graph_model.specs.States.{Given, State, is_complete, maker, vertex_at}
use Rattle.graph_model.specs.declared.made_vertex.MadeVertex.{MadeVertex}
use Rattle.graph_model.specs.declared.win.Win.{Win}

-- ---- sizes

-- the sizes of a winner's cells at an output
abbrev pub win_sizes : ℕ → Option Win → List ℕ
win_sizes output None = []
win_sizes output (Some win) = get_or win.sizes output []

-- the sizes of the cells that a node's vertex has for an input, by producer and then by cell
abbrev pub node_sizes : List MadeVertex → ℕ → ℕ → ℕ → List ℕ
node_sizes vertices into place node =
    let producer = vertex_at vertices (maker vertices node) in
    let output = output_number producer.vertex.outputs into place in
    flat_map (λ subtask. win_sizes output subtask.winner) producer.subtasks

-- the sizes of a source's files
abbrev pub files_sizes : Given → Op → List ℕ
files_sizes given (Source table columns) =
    get_or given.files (position_or_len (bytes_eq table) (tables_of given.nodes)) []
files_sizes given op = []

abbrev pub sized_grid : Given → List MadeVertex → VertexInput → Grid
sized_grid given vertices input = record (input_grid given vertices input) {
  sizes = option_map_or (node_sizes vertices input.into input.place) input.from
      (files_sizes given (op_at given.nodes input.into));
}

-- the grids of all inputs of a vertex, with the sizes of their cells
abbrev pub sized_grids : Given → List MadeVertex → Vertex → List Grid
sized_grids given vertices vertex = map (sized_grid given vertices) vertex.inputs

-- ---- sides

-- the size of a join's side: known once the side's vertex is complete
abbrev pub side_size : Given → List MadeVertex → ℕ → ℕ → Option ℕ
side_size given vertices node place =
    let input = get_or (inputs_at given.nodes node) place 0 in
    if is_complete (vertex_at vertices (maker vertices input))
    then Some (capped (sum (node_sizes vertices node place input))) else None

-- the side of a join that is to be repeated, by what is known
abbrev pub side_now : Given → List MadeVertex → ℕ → JoinKind → Option Side
side_now given vertices node kind = side_chosen kind (side_size given vertices node 0)
    (side_size given vertices node 1) given.settings.broadcast_bytes

abbrev pub side_at : Given → List MadeVertex → ℕ → Op → Option Side
side_at given vertices node (Join kind keys) = side_now given vertices node kind
side_at given vertices node op = None

-- ---- rules

-- a join that may be widened, so that the side is repeated that is chosen
pub record WidensByRule (given : Given) (state : State) (node : ℕ) (side : Side) : Type 0 where
  pub may : MayWiden given state node side
  pub chosen : side_at given state.vertices node (op_at given.nodes node) ≡ Some side

-- the decision that the rule gives for a vertex: of a join by its sides, else by its sizes
abbrev pub DecidesByOp : Given → List MadeVertex → Vertex → Op → List Reads → Type 0
DecidesByOp given vertices vertex (Join kind keys) decision =
    joins.IsDecided kind (side_now given vertices (head_of vertex) kind) given.settings
    (sized_grids given vertices vertex) decision
DecidesByOp given vertices vertex op decision =
    plain.IsDecided vertex (sized_grids given vertices vertex) given.settings decision

abbrev pub DecidesByRule : Given → State → ℕ → List Reads → Type 0
DecidesByRule given state v decision =
    let vertex = (vertex_at state.vertices v).vertex in
    DecidesByOp given state.vertices vertex (op_at given.nodes (head_of vertex)) decision

-- ---- their order

abbrev pub NoneWidens : Given → State → Type 0
NoneWidens given state = (node : ℕ) (side : Side) → WidensByRule given state node side → ⊥

-- the first node that may be widened
pub record WidensNext (given : Given) (state : State) (node : ℕ) (side : Side) : Type 0 where
  pub rule : WidensByRule given state node side
  pub first : (other : ℕ) (way : Side) → other < node → WidensByRule given state other way → ⊥

-- the first head that can be made, where no join is to be widened
pub record MakesNext (given : Given) (state : State) (nodes : List ℕ) : Type 0 where
  pub settled : NoneWidens given state
  pub first : slice_get (heads_now given state) 0 ≡ slice_get nodes 0

-- the first vertex that can be decided, where nothing is to be widened or made, by the rule
pub record DecidesNext (given : Given) (state : State) (v : ℕ) (decision : List Reads)
    : Type 0 where
  pub settled : NoneWidens given state
  pub made : heads_now given state ≡ []
  pub rule : DecidesByRule given state v decision
  pub first : (other : ℕ) → other < v → IsDecidable given state other → ⊥

-- nothing is to be widened, made or decided
pub record IsSettled (given : Given) (state : State) : Type 0 where
  pub widened : NoneWidens given state
  pub made : heads_now given state ≡ []
  pub decided : (v : ℕ) → IsDecidable given state v → ⊥
