-- What comes in at a head and goes out behind a last node, by the node itself.
use Rattle.std.proofs.Common.{◌≡◌, ℕ, ◌+◌, ◌<◌, Bool, false, List, [], ◌∷◌, ◌++◌, length, map, take, get_or, Option, Some, slice_get, ap, ◌∙◌, if◌then◌else◌}
use Rattle.std.specs.Option.{option_map_or}
use Rattle.std.proofs.lemmas.List.{get_or_default, map-append}
use Rattle.plan_model.specs.Operators.{is_source, is_sink}
use Rattle.plan_model.specs.declared.node.Node.{Node}
use Rattle.vertex_builder.specs.declared.edge.Edge.{Edge}
use Rattle.vertex_builder.specs.Edges.{edges_into, consumer_edges}
use Rattle.vertex_builder.specs.Vertices.{files_input, vertex_input, head_inputs, text_output, vertex_output, vertex_outputs}
use Rattle.vertex_builder.proofs.EdgeLists.{edges_into-next}

pub inputs_of_edges : (nodes : List Node) (head : ℕ) (node : Node) → slice_get nodes head ≡ Some node → is_source node.op ≡ false → head_inputs nodes head ≡ map (vertex_input nodes) (edges_into head 0 node.inputs)
inputs_of_edges nodes head node is e =
    ap (λ (o : Option Node). if option_map_or (λ n. is_source n.op) o false then files_input head ∷ [] else map (vertex_input nodes) (option_map_or (λ n. edges_into head 0 n.inputs) o [])) is
    ∙ ap (λ (b : Bool). if b then files_input head ∷ [] else map (vertex_input nodes) (edges_into head 0 node.inputs)) e

pub outputs_of_edges : (nodes : List Node) (max_parallelism last : ℕ) (node : Node) → slice_get nodes last ≡ Some node → is_sink node.op ≡ false
    → vertex_outputs nodes max_parallelism last ≡ map (vertex_output nodes max_parallelism) (consumer_edges nodes last)
outputs_of_edges nodes max_parallelism last node is e =
    let edges = map (vertex_output nodes max_parallelism) (consumer_edges nodes last) in
    ap (λ (o : Option Node). if option_map_or (λ n. is_sink n.op) o false then text_output ∷ [] else edges) is
    ∙ ap (λ (b : Bool). if b then text_output ∷ [] else edges) e

pub inputs_next : (nodes : List Node) (node : ℕ) (inputs : List ℕ) (k : ℕ) → k < length inputs
    → map (vertex_input nodes) (edges_into node 0 (take (k + 1) inputs)) ≡ map (vertex_input nodes) (edges_into node 0 (take k inputs)) ++ vertex_input nodes (record { from = get_or inputs k 0; into = node; place = k }) ∷ []
inputs_next nodes node inputs k lt =
    let edge : Edge = record { from = get_or inputs k 0; into = node; place = k } in
    ap (map (vertex_input nodes)) (edges_into-next node inputs k (get_or inputs k 0) lt (get_or_default inputs k 0 (get_or inputs k 0) lt))
    ∙ map-append (vertex_input nodes) (edges_into node 0 (take k inputs)) (edge ∷ [])
