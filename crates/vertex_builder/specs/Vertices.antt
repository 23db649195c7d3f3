-- The vertices of a plan: which can be made, and what comes in and goes out.
use Rattle.std.specs.Prelude.{◌≡◌, ℕ, ◌-◌, ◌==◌, Bool, false, not, ◌&&◌, List, [], ◌∷◌, ◌++◌, length, map, filter, drop, get_or, slice_get, All, Option, Some, None, if◌then◌else◌}
use Rattle.std.specs.List.{filter_map, list_all, range_with_len}
use Rattle.std.specs.Option.{option_map, option_map_or}
use Rattle.plan_model.specs.Nodes.{sink_at}
use Rattle.plan_model.specs.Operators.{is_source}
use Rattle.plan_model.specs.declared.node.Node.{Node}
use Rattle.plan_model.specs.declared.ship.Ship.{Ship}
use Rattle.plan_model.specs.declared.ship.Ship.TheVariants.{Forward, Hash, Rebalance}
use Rattle.vertex_builder.specs.Chains.{is_among, IsChain, chain_of}
use Rattle.vertex_builder.specs.Edges.{build_place, build_side, consumer_edges, input_edges, edge_ship, is_head}
use Rattle.vertex_builder.specs.declared.edge.Edge.{Edge}
use Rattle.vertex_builder.specs.declared.vertex.Vertex.{Vertex}
use Rattle.vertex_builder.specs.declared.vertex_input.VertexInput.{VertexInput}
use Rattle.vertex_builder.specs.declared.vertex_output.VertexOutput.{VertexOutput}
use Rattle.vertex_builder.specs.declared.widening.Widening.{Widening}

-- ---- which can be made

-- the nodes whose rows a node takes
abbrev pub inputs_at : List Node → ℕ → List ℕ
inputs_at nodes place = option_map_or (λ node. node.inputs) (slice_get nodes place) []

-- the edge into a widened join on its build side
abbrev pub build_edge : List Node → List Widening → ℕ → Option Edge
build_edge nodes widened node = option_map
    (λ side. record {
      from = get_or (inputs_at nodes node) (build_place side) 0;
      into = node;
      place = build_place side;
    })
    (build_side nodes widened node)

-- the edges from the build sides of the widened joins behind the head of a chain, in its order
abbrev pub chain_builds : List Node → List Widening → List ℕ → List Edge
chain_builds nodes widened chain = filter_map (build_edge nodes widened) (drop 1 chain)

-- the nodes whose rows the vertex of a head takes: the head's inputs, and then the build sides
abbrev pub nodes_taken : List Node → List Widening → ℕ → List ℕ
nodes_taken nodes widened head = inputs_at nodes head
    ++ map (λ edge. edge.from) (chain_builds nodes widened (chain_of nodes widened head))

-- a head that is not made yet, and all of whose vertex's inputs are complete
abbrev pub is_makeable : List Node → List Widening → List ℕ → List ℕ → ℕ → Bool
is_makeable nodes widened made complete node =
    is_head nodes widened node && not (is_among made node)
    && list_all (is_among complete) (nodes_taken nodes widened node)

-- the heads that can be made, in ascending order
abbrev pub makeable_heads : List Node → List Widening → List ℕ → List ℕ → List ℕ
makeable_heads nodes widened made complete =
    filter (is_makeable nodes widened made complete) (range_with_len 0 (length nodes))

-- ---- what comes in and goes out

abbrev pub is_source_at : List Node → ℕ → Bool
is_source_at nodes place = option_map_or (λ node. is_source node.op) (slice_get nodes place) false

-- a source's files
abbrev pub files_input : ℕ → VertexInput
files_input source = record { from = None; into = source; place = 0; ship = Forward }

abbrev pub vertex_input : List Node → Edge → VertexInput
vertex_input nodes edge = let ship = edge_ship nodes edge in
    record { from = Some edge.from; into = edge.into; place = edge.place; ship = ship }

-- what comes in at a head
abbrev pub head_inputs : List Node → ℕ → List VertexInput
head_inputs nodes head =
    if is_source_at nodes head then files_input head ∷ []
    else map (vertex_input nodes) (input_edges nodes head)

-- what comes in at a chain: its head's inputs, and then the build sides in its order
abbrev pub vertex_inputs : List Node → List Widening → List ℕ → List VertexInput
vertex_inputs nodes widened chain = head_inputs nodes (get_or chain 0 0)
    ++ map (vertex_input nodes) (chain_builds nodes widened chain)

-- how many cells a subtask cuts its rows into
abbrev pub cells_of : ℕ → Ship → ℕ
cells_of max_parallelism (Hash columns) = max_parallelism
cells_of max_parallelism Rebalance = max_parallelism
cells_of max_parallelism _ = 1

-- a sink's text
abbrev pub text_output : VertexOutput
text_output = record { into = None; place = 0; ship = Forward; cells = 1 }

abbrev pub vertex_output : List Node → ℕ → Edge → VertexOutput
vertex_output nodes max_parallelism edge =
    let ship = edge_ship nodes edge in
    let cells = cells_of max_parallelism ship in
    record { into = Some edge.into; place = edge.place; ship = ship; cells = cells }

-- what goes out behind the last node
abbrev pub vertex_outputs : List Node → ℕ → ℕ → List VertexOutput
vertex_outputs nodes max_parallelism last =
    if sink_at nodes last then text_output ∷ []
    else map (vertex_output nodes max_parallelism) (consumer_edges nodes last)

-- ---- vertices

abbrev pub head_of : Vertex → ℕ
head_of vertex = get_or vertex.nodes 0 0

-- how many inputs are its head's; they come first, and the others are build sides
abbrev pub head_input_count : Vertex → ℕ
head_input_count vertex = length (filter (λ input. input.into == head_of vertex) vertex.inputs)

abbrev pub last_in : List ℕ → ℕ
last_in chain = get_or chain (length chain - 1) 0

abbrev pub last_of : Vertex → ℕ
last_of vertex = last_in vertex.nodes

-- the vertex of its head
pub record IsVertex (nodes : List Node) (widened : List Widening) (max_parallelism : ℕ)
    (vertex : Vertex) : Type 0 where
  pub chain : IsChain nodes widened (head_of vertex) vertex.nodes
  pub inputs : vertex.inputs ≡ vertex_inputs nodes widened vertex.nodes
  pub outputs : vertex.outputs ≡ vertex_outputs nodes max_parallelism (last_of vertex)

-- the vertex of a head, computed
abbrev pub vertex_of : List Node → List Widening → ℕ → ℕ → Vertex
vertex_of nodes widened max_parallelism head =
    let chain = chain_of nodes widened head in
    let outputs = vertex_outputs nodes max_parallelism (last_in chain) in
    record { nodes = chain; inputs = vertex_inputs nodes widened chain; outputs = outputs }

-- the vertices of given heads are determined
abbrev pub OneAnswer : Type 0
OneAnswer = (nodes : List Node) (widened : List Widening) (max_parallelism : ℕ) (a b : List Vertex)
    → All (IsVertex nodes widened max_parallelism) a
    → All (IsVertex nodes widened max_parallelism) b
    → map head_of a ≡ map head_of b → a ≡ b
