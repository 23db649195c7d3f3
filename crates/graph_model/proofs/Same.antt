-- What a subtask reads, and the shape of a vertex, where the vertices of its inputs have as many subtasks as before.
use Rattle.std.proofs.Common.{◌≡◌, ℕ, suc, ◌+◌, ◌<◌, Bool, List, [], ◌∷◌, ◌++◌, length, map, take, drop, set, Option, Some, None, refl, ◌∙◌, ap, arith, All, cond, true, false, not}
use Rattle.std.specs.Prelude.{⊤}
use Rattle.std.specs.Option.{MatchOption, option_map_or}
use Rattle.std.proofs.lemmas.List.Elements.{All-head, All-tail}
use Rattle.std.proofs.lemmas.List.Folds.{position_or_len-set}
use Rattle.rect_cover.specs.Cells.{Reads, rects_of}
use Rattle.rect_cover.specs.declared.grid.Grid.{Grid}
use Rattle.rect_cover.specs.declared.rect.Rect.{Rect}
use Rattle.rect_cover.specs.declared.shape.Shape.{Shape}
use Rattle.vertex_builder.specs.Chains.{is_among}
use Rattle.vertex_builder.specs.Vertices.{cells_of, head_of}
use Rattle.vertex_builder.specs.declared.vertex.Vertex.{Vertex}
use Rattle.vertex_builder.specs.declared.vertex_input.VertexInput.{VertexInput}
use Rattle.vertex_laws.specs.VertexRows.{head_count, op_at, op_shape}
use Rattle.graph_model.specs.declared.made_vertex.MadeVertex.{MadeVertex}
use Rattle.graph_model.specs.States.{Given, no_vertex, vertex_at, subtasks_at, maker}
use Rattle.graph_model.specs.Reads.{ReadEdge, read_edge, touched, node_edges, input_edges, inputs_edges, file_grid, node_grid, input_grid, shape_at}

-- a node's vertex has the same number and as many subtasks
abbrev pub SameNode : List MadeVertex → List MadeVertex → ℕ → Type 0
SameNode vs us node = (maker vs node ≡ maker us node) × (length (subtasks_at vs (maker vs node)) ≡ length (subtasks_at us (maker us node)))

abbrev pub SameInput : List MadeVertex → List MadeVertex → VertexInput → Type 0
SameInput vs us input = MatchOption input.from ⊤ (λ node. SameNode vs us node)

node_edges-same : (vs us : List MadeVertex) (input : VertexInput) (rects : List Rect) (node : ℕ) → SameNode vs us node → node_edges vs input rects node ≡ node_edges us input rects node
node_edges-same vs us input rects node (number, count) =
    let at : ℕ → List ReadEdge = λ v. map (read_edge input v) (touched rects (length (subtasks_at vs (maker vs node)))) in
    let of : ℕ → List ReadEdge = λ n. map (read_edge input (maker us node)) (touched rects n) in
    ap at number ∙ ap of count

from_edges-same : (vs us : List MadeVertex) (input : VertexInput) (rects : List Rect) (from : Option ℕ) → MatchOption from ⊤ (λ node. SameNode vs us node)
    → option_map_or (node_edges vs input rects) from [] ≡ option_map_or (node_edges us input rects) from []
from_edges-same vs us input rects None same = refl
from_edges-same vs us input rects (Some node) same = node_edges-same vs us input rects node same

pub inputs_edges-same : (vs us : List MadeVertex) (inputs : List VertexInput) (first : ℕ) (reads : Reads) → All (SameInput vs us) inputs
    → inputs_edges vs inputs first reads ≡ inputs_edges us inputs first reads
inputs_edges-same vs us [] first reads same = refl
inputs_edges-same vs us (input ∷ inputs) first reads same =
    let here = from_edges-same vs us input (rects_of reads first) input.from (All-head (SameInput vs us) input inputs same) in
    let rest = inputs_edges-same vs us inputs (suc first) reads (All-tail (SameInput vs us) input inputs same) in
    ap (λ (edges : List ReadEdge). edges ++ inputs_edges vs inputs (suc first) reads) here
    ∙ ap (λ (edges : List ReadEdge). input_edges us input (rects_of reads first) ++ edges) rest

from_grid-same : (given : Given) (vs us : List MadeVertex) (input : VertexInput) (from : Option ℕ) → MatchOption from ⊤ (λ node. SameNode vs us node)
    → option_map_or (node_grid given vs input) from (file_grid given input.into) ≡ option_map_or (node_grid given us input) from (file_grid given input.into)
from_grid-same given vs us input None same = refl
from_grid-same given vs us input (Some node) same =
    let of : ℕ → Grid = λ n. record { producers = n; cells = cells_of given.settings.max_parallelism input.ship; sizes = [] } in
    ap of same.1

grids-same : (given : Given) (vs us : List MadeVertex) (inputs : List VertexInput) → All (SameInput vs us) inputs → map (input_grid given vs) inputs ≡ map (input_grid given us) inputs
grids-same given vs us [] same = refl
grids-same given vs us (input ∷ inputs) same =
    let here = from_grid-same given vs us input input.from (All-head (SameInput vs us) input inputs same) in
    let rest = grids-same given vs us inputs (All-tail (SameInput vs us) input inputs same) in
    ap (λ (grid : Grid). grid ∷ map (input_grid given vs) inputs) here
    ∙ ap (λ (grids : List Grid). input_grid given us input ∷ grids) rest

pub shape-same : (given : Given) (vs us : List MadeVertex) (vertex : Vertex) → All (SameInput vs us) vertex.inputs → shape_at given vs vertex ≡ shape_at given us vertex
shape-same given vs us vertex same =
    let count = head_count given.nodes vertex in
    let of : List Grid → Shape = λ grids. record { kind = op_shape (op_at given.nodes (head_of vertex)); heads = take count grids; wide = drop count grids } in
    ap of (grids-same given vs us vertex.inputs same)

-- ---- a node's vertex where vertices change

-- a vertex that is changed keeps its nodes
pub maker-set : (vs : List MadeVertex) (v node : ℕ) (made : MadeVertex) → made.vertex.nodes ≡ (vertex_at vs v).vertex.nodes → maker (set vs v made) node ≡ maker vs node
maker-set vs v node made same =
    position_or_len-set (λ (m : MadeVertex). is_among m.vertex.nodes node) vs v made no_vertex (ap (λ (nodes : List ℕ). is_among nodes node) same)

-- a node that is made keeps its vertex where one more is made
pub maker-push : (vs : List MadeVertex) (node : ℕ) (made : MadeVertex) → maker vs node < length vs → maker (vs ++ made ∷ []) node ≡ maker vs node
maker-push [] node made lt = absurd (omega (arith, lt))
maker-push (first ∷ vs) node made lt = here (is_among first.vertex.nodes node) (maker-push vs node made) lt
  where
    here : (b : Bool) → (maker vs node < length vs → maker (vs ++ made ∷ []) node ≡ maker vs node) → cond (not b) (1 + maker vs node) 0 < length (first ∷ vs)
        → cond (not b) (1 + maker (vs ++ made ∷ []) node) 0 ≡ cond (not b) (1 + maker vs node) 0
    here true rest less = refl
    here false rest less = ap (λ (n : ℕ). 1 + n) (rest (omega (arith, less)))
