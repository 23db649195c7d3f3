-- Which subtasks a subtask reads from, and the shape of what a vertex reads.
use Rattle.std.specs.Prelude.{ℕ, suc, nat_lt, nat_le, Bool, ◌&&◌, List, [], ◌∷◌, ◌++◌, length, map, filter, take, drop, get_or}
use Rattle.std.specs.List.{list_any, position_or_len, range_with_len}
use Rattle.std.specs.Option.{option_map_or}
use Rattle.std.specs.Str.{bytes_eq}
use Rattle.plan_model.specs.TableNames.{tables_of}
use Rattle.plan_model.specs.declared.op.Op.{Op}
use Rattle.plan_model.specs.declared.op.Op.TheVariants.{Source}
use Rattle.rect_cover.specs.Cells.{Reads, rects_of}
use Rattle.rect_cover.specs.declared.grid.Grid.{Grid}
use Rattle.rect_cover.specs.declared.rect.Rect.{Rect}
use Rattle.rect_cover.specs.declared.shape.Shape.{Shape}
use Rattle.vertex_builder.specs.Vertices.{cells_of, head_of}
use Rattle.vertex_builder.specs.declared.vertex.Vertex.{Vertex}
use Rattle.vertex_builder.specs.declared.vertex_input.VertexInput.{VertexInput}
use Rattle.vertex_laws.specs.VertexRows.{head_count, op_at, op_shape}
use Rattle.graph_model.specs.declared.sub.Sub.{Sub}
use Rattle.graph_model.specs.declared.made_vertex.MadeVertex.{MadeVertex}
use Rattle.graph_model.specs.States.{Given, vertex_at, subtasks_at, subtask_at, maker}

-- ---- what a subtask reads from

-- a rect has cells of the producer
abbrev pub touches_producer : List Rect → ℕ → Bool
touches_producer rects p = list_any (λ rect. nat_le rect.p0 p && nat_lt p rect.p1) rects

-- the producers below a number that the rects touch, in ascending order
abbrev pub touched : List Rect → ℕ → List ℕ
touched rects count = filter (touches_producer rects) (range_with_len 0 count)

-- a producer's subtask that is read, at which input of which node
pub record ReadEdge : Type 0 where
  pub into : ℕ
  pub place : ℕ
  pub sub : Sub

-- one that is read at an input, from the vertex of this number
abbrev pub read_edge : VertexInput → ℕ → ℕ → ReadEdge
read_edge input vertex p =
    let sub : Sub = record { vertex = vertex; subtask = p } in
    record { into = input.into; place = input.place; sub = sub }

-- those that the rects touch, of the vertex that has the node
abbrev pub node_edges : List MadeVertex → VertexInput → List Rect → ℕ → List ReadEdge
node_edges vertices input rects node =
    let producer = maker vertices node in
    map (read_edge input producer) (touched rects (length (subtasks_at vertices producer)))

-- those at an input: none where it is a source's files
abbrev pub input_edges : List MadeVertex → VertexInput → List Rect → List ReadEdge
input_edges vertices input rects = option_map_or (node_edges vertices input rects) input.from []

-- by input, which are numbered from first on, and then ascending
abbrev pub inputs_edges : List MadeVertex → List VertexInput → ℕ → Reads → List ReadEdge
inputs_edges vertices [] first reads = []
inputs_edges vertices (input ∷ inputs) first reads =
    input_edges vertices input (rects_of reads first)
    ++ inputs_edges vertices inputs (suc first) reads

-- what a subtask reads
abbrev pub read_edges : List MadeVertex → Sub → List ReadEdge
read_edges vertices sub =
    let inputs = (vertex_at vertices sub.vertex).vertex.inputs in
    inputs_edges vertices inputs 0 (subtask_at vertices sub).reads

-- the subtasks that a subtask reads from
abbrev pub reads_from : List MadeVertex → Sub → List Sub
reads_from vertices sub = map (λ edge. edge.sub) (read_edges vertices sub)

-- ---- the shape of what a vertex reads

-- how many files a source has
abbrev pub op_files : Given → Op → ℕ
op_files given (Source table columns) =
    length (get_or given.files (position_or_len (bytes_eq table) (tables_of given.nodes)) [])
op_files given op = 0

abbrev pub node_files : Given → ℕ → ℕ
node_files given node = op_files given (op_at given.nodes node)

-- a source's files: a cell each
abbrev pub file_grid : Given → ℕ → Grid
file_grid given node = record { producers = node_files given node; cells = 1; sizes = [] }

-- the cells of the vertex that has the node
abbrev pub node_grid : Given → List MadeVertex → VertexInput → ℕ → Grid
node_grid given vertices input node = record {
  producers = length (subtasks_at vertices (maker vertices node));
  cells = cells_of given.settings.max_parallelism input.ship;
  sizes = [];
}

abbrev pub input_grid : Given → List MadeVertex → VertexInput → Grid
input_grid given vertices input =
    option_map_or (node_grid given vertices input) input.from (file_grid given input.into)

-- the shape of what a vertex reads: its head's inputs, and then those that it reads whole
abbrev pub shape_at : Given → List MadeVertex → Vertex → Shape
shape_at given vertices vertex =
    let count = head_count given.nodes vertex in
    let grids = map (input_grid given vertices) vertex.inputs in
    record {
      kind = op_shape (op_at given.nodes (head_of vertex));
      heads = take count grids;
      wide = drop count grids;
    }
