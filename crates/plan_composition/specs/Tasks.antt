-- What the tasks of subtasks read of files and parts, and which parts they may have given.
use Rattle.std.specs.Prelude.{◌≡◌, ℕ, ◌==◌, ◌&&◌, ⊤, Bool, List, [], ◌∷◌, length, map, get_or, if◌then◌else◌}
use Rattle.std.specs.Option.{option_map_or}
use Rattle.bag_laws.specs.Rows.{OneRow as Row}
use Rattle.estate.specs.declared.part_name.PartName.{PartName}
use Rattle.plan_model.specs.TableNames.{tables_of}
use Rattle.plan_model.specs.Tables.{table_rows}
use Rattle.plan_model.specs.declared.op.Op.{Op}
use Rattle.plan_model.specs.declared.op.Op.TheVariants.{Source}
use Rattle.rect_cover.specs.Cells.{Input}
use Rattle.rect_cover.specs.Vertices.{readings}
use Rattle.task_parts.specs.Tasks.{TaskMay}
use Rattle.vertex_builder.specs.declared.vertex_input.VertexInput.{VertexInput}
use Rattle.vertex_builder.specs.declared.widening.Widening.{Widening}
use Rattle.vertex_laws.specs.VertexRows.{op_at, vertex_rows}
use Rattle.graph_model.specs.declared.event.Event.{Event}
use Rattle.graph_model.specs.declared.event.Event.TheVariants.{Done}
use Rattle.graph_model.specs.declared.made_vertex.MadeVertex.{MadeVertex}
use Rattle.graph_model.specs.declared.sub.Sub.{Sub}
use Rattle.graph_model.specs.Legal.{after}
use Rattle.graph_model.specs.Reading.{Parts, output_of}
use Rattle.graph_model.specs.Reads.{ReadEdge, input_grid, read_edge, read_edges}
use Rattle.graph_model.specs.States.{Given, State, maker, sub_of, subtask_at, vertex_at}

-- the files of each table, by its name, and the rows that parts have
pub record Stored : Type 0 where
  pub files : List ℕ → List (List ℕ)
  pub parts : Parts

-- the sizes are those of the files, table by table
abbrev pub HasSizes : Given → (List ℕ → List (List ℕ)) → Type 0
HasSizes given files = given.files ≡ map (λ table. map length (files table)) (tables_of given.nodes)

-- ---- what is read

-- the rows of a source's file, by its number
abbrev pub file_rows : (List ℕ → List (List ℕ)) → Op → ℕ → List Row
file_rows files (Source table columns) p =
    table_rows (map (λ column. column.kind) columns) (get_or (files table) p [])
file_rows files _ p = []

-- the rows of an input's cell: a file's, or those that the part has which is read there
abbrev pub cell_rows : Given → Stored → List MadeVertex → (ReadEdge → PartName) → VertexInput
    → ℕ → ℕ → List Row
cell_rows given stored vertices read input p s = option_map_or
    (λ node. let edge = read_edge input (maker vertices node) p in
    stored.parts (read edge) (output_of vertices edge) s)
    input.from
    (file_rows stored.files (op_at given.nodes input.into) p)

abbrev pub input_cells : Given → Stored → List MadeVertex → (ReadEdge → PartName) → VertexInput
    → Input
input_cells given stored vertices read input = record {
  grid = input_grid given vertices input;
  rows = cell_rows given stored vertices read input;
}

-- what the chain of a subtask gives of what its rects read
abbrev pub subtask_rows : Given → Stored → List MadeVertex → List Widening → (ReadEdge → PartName)
    → Sub → List Row
subtask_rows given stored vertices widened read sub =
    let vertex = (vertex_at vertices sub.vertex).vertex in
    let inputs = map (input_cells given stored vertices read) vertex.inputs in
    vertex_rows given.nodes widened vertex (readings inputs 0 (subtask_at vertices sub).reads)

-- ---- parts by name

abbrev pub no_part : PartName
no_part = record { vertex = 0; subtask = 0; epoch = 0; attempt = 0 }

abbrev pub is_same_edge : ReadEdge → ReadEdge → Bool
is_same_edge a b = (a.into == b.into && a.place == b.place)
    && (a.sub.vertex == b.sub.vertex && a.sub.subtask == b.sub.subtask)

-- the name that stands in the list where the edge stands in its own
abbrev pub named : List ReadEdge → List PartName → ReadEdge → PartName
named [] names edge = no_part
named (first ∷ edges) [] edge = no_part
named (first ∷ edges) (name ∷ names) edge =
    if is_same_edge first edge then name else named edges names edge

-- ---- what was given

-- the part of this name is one that its task may give of the parts that it read
abbrev pub IsTruePart : Given → Stored → List MadeVertex → List Widening → PartName
    → List PartName → Type 0
IsTruePart given stored vertices widened name inputs =
    let sub = sub_of name in
    let read = named (read_edges vertices sub) inputs in
    TaskMay name.attempt (vertex_at vertices sub.vertex).vertex.outputs
    (subtask_rows given stored vertices widened read sub) (stored.parts name)

abbrev pub IsTrueEvent : Given → Stored → State → Event → Type 0
IsTrueEvent given stored state (Done name inputs sizes) =
    IsTruePart given stored state.vertices state.widened name inputs
IsTrueEvent given stored state _ = ⊤

-- each part that was done is such a one, by the state that it came to
abbrev pub AreTrue : Given → Stored → State → List Event → Type 0
AreTrue given stored state [] = ⊤
AreTrue given stored state (event ∷ events) =
    IsTrueEvent given stored state event × AreTrue given stored (after given state event) events
