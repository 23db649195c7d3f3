-- Where a vertex's inputs come from, and that no node is in two vertices.
use Rattle.std.specs.Prelude.{◌≡◌, ℕ, ◌<◌, ◌&&◌, nat_eq, Bool, false, IsTrue, List, [], length, get_or, All, ⊤}
use Rattle.std.specs.List.{position_or_len}
use Rattle.std.specs.Option.{MatchOption, option_map_or}
use Rattle.plan_model.specs.Checks.{plan_faults}
use Rattle.vertex_builder.specs.Chains.{is_among}
use Rattle.vertex_builder.specs.Inputs.{output_for}
use Rattle.vertex_builder.specs.Vertices.{last_of, text_output}
use Rattle.vertex_builder.specs.declared.vertex_input.VertexInput.{VertexInput}
use Rattle.vertex_builder.specs.declared.vertex_output.VertexOutput.{VertexOutput}
use Rattle.graph_model.specs.declared.made_vertex.MadeVertex.{MadeVertex}
use Rattle.graph_model.specs.States.{Given, State, vertex_at, maker}
use Rattle.graph_model.specs.Valid.{IsValid}

-- the output goes to this input of the node
abbrev pub goes_to : ℕ → ℕ → VertexOutput → Bool
goes_to into place output =
    option_map_or (nat_eq into) output.into false && nat_eq place output.place

-- the number of the output that goes to a node's input
abbrev pub output_number : List VertexOutput → ℕ → ℕ → ℕ
output_number outputs into place = position_or_len (goes_to into place) outputs

-- the input comes from the last node of an earlier vertex, by an output of its ship and cells
pub record IsLinked (given : Given) (vertices : List MadeVertex) (v : ℕ) (input : VertexInput)
    (node : ℕ) : Type 0 where
  pub inside : node < length given.nodes
  pub before : maker vertices node < v
  pub last : node ≡ last_of (vertex_at vertices (maker vertices node)).vertex
  pub within : let outputs = (vertex_at vertices (maker vertices node)).vertex.outputs in
      output_number outputs input.into input.place < length outputs
  pub output : let outputs = (vertex_at vertices (maker vertices node)).vertex.outputs in
      get_or outputs (output_number outputs input.into input.place) text_output
      ≡ output_for given.settings.max_parallelism input

-- in a valid state each input of a vertex is linked, but for a source's files
abbrev pub LinkLaw : Type 0
LinkLaw = (given : Given) (state : State) → plan_faults given.nodes ≡ [] → IsValid given state
    → (v : ℕ) → v < length state.vertices
    → All
    (λ input. MatchOption input.from ⊤ (λ node. IsLinked given state.vertices v input node))
    (vertex_at state.vertices v).vertex.inputs

-- in a valid state no node is in two vertices
abbrev pub SingleLaw : Type 0
SingleLaw = (given : Given) (state : State) → plan_faults given.nodes ≡ [] → IsValid given state
    → (u v node : ℕ) → u < length state.vertices → v < length state.vertices
    → IsTrue (is_among (vertex_at state.vertices u).vertex.nodes node)
    → IsTrue (is_among (vertex_at state.vertices v).vertex.nodes node) → u ≡ v
