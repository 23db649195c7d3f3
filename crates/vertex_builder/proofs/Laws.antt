-- The laws of chains and vertices, for proofs of the crates above.
use Rattle.std.proofs.Common.{◌≡◌, ◌≢◌, ℕ, ◌-◌, ◌<◌, All, List, [], ◌∷◌, ◌++◌, false, length, map, drop, get_or, None, Some, slice_get, ap, ◌∙◌, IsTrue}
use Rattle.std.specs.List.{filter_map, AllByRecursion}
use Rattle.std.specs.Prelude.{Contains}
use Rattle.std.proofs.lemmas.List.{append-nil}
use Rattle.plan_model.specs.Checks.{plan_faults}
use Rattle.plan_model.specs.Operators.{is_source, may_rebalance}
use Rattle.vertex_builder.specs.declared.widening.Widening.{Widening}
use Rattle.plan_model.specs.declared.node.Node.{Node}
use Rattle.vertex_builder.specs.Chains.{ChainsPart, OneChain, TakesAfter, chain_of}
use Rattle.vertex_builder.specs.Edges.{build_side, chained_after, consumer_edges, edges_into, edges_of, input_edges, is_chained, is_head, widening_of}
use Rattle.vertex_builder.specs.Inputs.{ComesFrom, InputsComeOut, IsApart, Stays, TakenFrom, probe_of}
use Rattle.vertex_builder.specs.declared.edge.Edge.{Edge}
use Rattle.vertex_builder.specs.Vertices.{OneAnswer, IsVertex, build_edge, head_input_count, head_of, inputs_at, last_in, nodes_taken, vertex_of, head_inputs, vertex_input, vertex_inputs, vertex_outputs}
use Rattle.vertex_builder.specs.declared.vertex.Vertex.{Vertex}
use Rattle.vertex_builder.proofs.Apart as apart
use Rattle.vertex_builder.proofs.Chains as chains
use Rattle.vertex_builder.proofs.Covered as covered
use Rattle.vertex_builder.proofs.Coming as coming
use Rattle.vertex_builder.proofs.EdgePlaces as places
use Rattle.vertex_builder.proofs.Following as following
use Rattle.vertex_builder.proofs.HeadInputs as heads
use Rattle.vertex_builder.proofs.Parts as parts
use Rattle.vertex_builder.proofs.Staying as staying
-- of lists of numbers and edges, and truth values
pub use Rattle.vertex_builder.proofs.Membership.{same_yes, same_number, other_number, flipped, either_left, either_right, neither_left, neither_right, both_left, both_right, all_map}

pub one_chain : OneChain
one_chain = chains.one_chain

pub one_answer : OneAnswer
one_answer = chains.one_answer

-- a vertex is the one that its head has
pub vertex_is : (nodes : List Node) (widened : List Widening) (max_parallelism : ℕ) (vertex : Vertex) → plan_faults nodes ≡ [] → IsVertex nodes widened max_parallelism vertex
    → vertex ≡ vertex_of nodes widened max_parallelism (head_of vertex)
vertex_is nodes widened max_parallelism vertex good is =
    let head = head_of vertex in
    let chain = chains.one_chain nodes widened head vertex.nodes (chain_of nodes widened head) is.chain (following.is_chain nodes widened head good) in
    let inputs = is.inputs ∙ ap (vertex_inputs nodes widened) chain in
    let outputs = is.outputs ∙ ap (λ (l : List ℕ). vertex_outputs nodes max_parallelism (get_or l (length l - 1) 0)) chain in
    (λ i. record { nodes = chain i; inputs = inputs i; outputs = outputs i })

pub takes_after : (nodes : List Node) (widened : List Widening) → plan_faults nodes ≡ [] → (before node : ℕ) → chained_after nodes widened before ≡ Some node → TakesAfter nodes widened before node
takes_after = apart.takes_after

pub chains_part : (nodes : List Node) (widened : List Widening) → plan_faults nodes ≡ [] → ChainsPart nodes widened
chains_part nodes widened good = record {
  chains = λ head. following.is_chain nodes widened head good;
  each = covered.has_head nodes widened good;
  one = λ node a b. apart.one_head nodes widened good node a b;
  once = apart.chain_distinct nodes widened good (length nodes);
  inside = λ head node. following.chain_within nodes widened (length nodes) head node good;
}

pub rows_unwidened : (nodes : List Node) (widened : List Widening) (node : ℕ) (it : Node) → slice_get nodes node ≡ Some it → IsTrue (may_rebalance it.op) → build_side nodes widened node ≡ None
rows_unwidened = apart.rows_unwidened

-- what comes in at a head that is no source
pub inputs_of_edges : (nodes : List Node) (head : ℕ) (node : Node) → slice_get nodes head ≡ Some node → is_source node.op ≡ false → head_inputs nodes head ≡ map (vertex_input nodes) (edges_into head 0 node.inputs)
inputs_of_edges = parts.inputs_of_edges

-- each input of a vertex is an output of another
pub inputs_come_out : (nodes : List Node) (widened : List Widening) (max_parallelism : ℕ) (vertex : Vertex) → plan_faults nodes ≡ [] → IsVertex nodes widened max_parallelism vertex
    → IsTrue (is_head nodes widened (head_of vertex)) → head_of vertex < length nodes → InputsComeOut nodes widened max_parallelism vertex
inputs_come_out nodes widened max_parallelism vertex good is head within = coming.inputs_come_out nodes widened good max_parallelism vertex is head within

-- what the vertex of a head takes is in vertices whose last nodes are earlier
pub taken_earlier : (nodes : List Node) (widened : List Widening) → plan_faults nodes ≡ [] → (head : ℕ) → IsTrue (is_head nodes widened head) → head < length nodes
    → AllByRecursion (TakenFrom nodes widened (last_in (chain_of nodes widened head))) (nodes_taken nodes widened head)
taken_earlier = coming.taken_earlier

-- a join that is widened leaves vertices that it is apart from
pub vertices_stay : (nodes : List Node) (widened : List Widening) (widening : Widening) (max_parallelism : ℕ) (vertex : Vertex) → IsVertex nodes widened max_parallelism vertex → IsApart nodes widening vertex
    → Stays nodes widened widening max_parallelism vertex
vertices_stay = staying.stays

-- no node of a plan is widened where nothing is: a vertex takes what its head does
pub none_built : (nodes : List Node) (chain : List ℕ) → filter_map (build_edge nodes []) chain ≡ []
none_built = staying.none_built

pub only_inputs : (nodes : List Node) (head : ℕ) → nodes_taken nodes [] head ≡ inputs_at nodes head
only_inputs nodes head =
    ap (λ (edges : List Edge). inputs_at nodes head ++ map (λ (edge : Edge). edge.from) edges) (staying.none_built nodes (drop 1 (chain_of nodes [] head)))
    ∙ append-nil (inputs_at nodes head)

-- ---- edges

-- an edge comes from its consumer's input at its place
pub comes_from : (nodes : List Node) (edge : Edge) → Contains (edges_of nodes) edge → ComesFrom nodes edge
comes_from = places.comes_from

-- the edges into a node are the plan's, and lead into it
pub input_among : (nodes : List Node) (node : ℕ) (edge : Edge) → Contains (input_edges nodes node) edge → Contains (edges_of nodes) edge
input_among = places.input_among

pub into_edges : (nodes : List Node) (node : ℕ) → All (λ edge. edge.into ≡ node) (input_edges nodes node)
into_edges = places.into_edges

-- an edge of the plan is a consumer edge of its node
pub is_consumer : (nodes : List Node) (edge : Edge) → Contains (edges_of nodes) edge → Contains (consumer_edges nodes edge.from) edge
is_consumer = places.is_consumer

-- nothing is chained after the node of an edge that is not chained
pub nothing_after : (nodes : List Node) (widened : List Widening) (edge : Edge) → Contains (edges_of nodes) edge → is_chained nodes widened edge ≡ false → chained_after nodes widened edge.from ≡ None
nothing_after = places.nothing_after

-- ---- one widening more

-- it leaves what is chained after nodes other than its probe side
pub after_same : (nodes : List Node) (widened : List Widening) (widening : Widening) (node : ℕ) → node ≢ probe_of nodes widening → chained_after nodes (widened ++ widening ∷ []) node ≡ chained_after nodes widened node
after_same = staying.after_same

-- it leaves the sides of other nodes, and is the node's own if that has none
pub widening_other : (widened : List Widening) (widening : Widening) (node : ℕ) → widening.node ≢ node → widening_of (widened ++ widening ∷ []) node ≡ widening_of widened node
widening_other = staying.of_other

pub widening_new : (widened : List Widening) (widening : Widening) → widening_of widened widening.node ≡ None → widening_of (widened ++ widening ∷ []) widening.node ≡ Some widening.side
widening_new = staying.of_new

-- ---- the inputs of a head

-- the inputs that go into its head are its head's
pub heads_counted : (nodes : List Node) (widened : List Widening) (max_parallelism : ℕ) (vertex : Vertex) → plan_faults nodes ≡ [] → IsVertex nodes widened max_parallelism vertex
    → head_input_count vertex ≡ length (head_inputs nodes (head_of vertex))
heads_counted = heads.counted
