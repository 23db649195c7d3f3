-- A sink is the last node of its vertex, whose one output is its text.
use Rattle.std.proofs.Common.{◌≡◌, ℕ, zero, suc, ◌+◌, ◌-◌, ◌<◌, ◌≤◌, Bool, List, [], ◌∷◌, length, map, take, get_or, Option, Some, None, slice_get, refl, sym, ◌∙◌, ap, subst, arith, true, false, not, ⊎_elim, if◌then◌else◌}
use Rattle.std.specs.List.{range_with_len}
use Rattle.std.specs.Option.{option_map_or}
use Rattle.std.proofs.lemmas.Bool.{cases_lt, false≢true}
use Rattle.std.proofs.lemmas.List.{length-map}
use Rattle.std.proofs.lemmas.List.FromFn.{length-range_with_len, get_or-map-range_with_len}
use Rattle.std.proofs.lemmas.Option.{slice_get-get_or, slice_get_within}
use Rattle.row_core.specs.Bags.{SameBag}
use Rattle.plan_model.specs.Checks.{plan_faults, gives_rows}
use Rattle.plan_model.specs.Nodes.{sink_at}
use Rattle.plan_model.specs.Operators.{is_sink}
use Rattle.plan_model.specs.Plans.{Bag, bag_at, bags_of, empty_bag, sink_sections}
use Rattle.plan_model.specs.declared.node.Node.{Node}
use Rattle.plan_model.specs.declared.side.Side.{Side}
use Rattle.plan_model.specs.declared.side.Side.TheVariants.{Left, Right}
use Rattle.plan_model.proofs.Laws.{bags_long, good_node, inputs_earlier}
use Rattle.operator_laws.proofs.Laws.{texts_same}
use Rattle.vertex_builder.specs.Chains.{TakesAfter, TakesProbe, TakesRows, is_among}
use Rattle.vertex_builder.specs.Edges.{build_side, chained_after, consumer_edges, probe_place}
use Rattle.vertex_builder.specs.Vertices.{IsVertex, last_of, text_output, vertex_output, vertex_outputs}
use Rattle.vertex_builder.specs.declared.vertex.Vertex.{Vertex}
use Rattle.vertex_builder.specs.declared.vertex_output.VertexOutput.{VertexOutput}
use Rattle.vertex_builder.specs.declared.widening.Widening.{Widening}
use Rattle.vertex_builder.proofs.Laws.{takes_after}
use Rattle.graph_model.specs.declared.made_vertex.MadeVertex.{MadeVertex}
use Rattle.graph_model.specs.Legal.{IsDone}
use Rattle.graph_model.specs.Reading.{Parts}
use Rattle.graph_model.specs.States.{Given, State, maker, vertex_at}
use Rattle.graph_model.specs.Valid.{IsValid}
use Rattle.graph_model.proofs.Laws.{in_range, maker_has, none_is_some, stands}
use Rattle.plan_composition.specs.Results.{output_rows, sink_bags, sink_rows}
use Rattle.plan_composition.specs.Tasks.{Stored}
use Rattle.plan_composition.proofs.Bridging.{complete_some}

-- ---- nothing is chained after a sink

taken_get : {X : Type 0} (xs : List X) (n k : ℕ) → k < n → slice_get (take n xs) k ≡ slice_get xs k
taken_get xs zero k lt = absurd (omega (arith, lt))
taken_get [] (suc n) k lt = refl
taken_get (x ∷ xs) (suc n) zero lt = refl
taken_get (x ∷ xs) (suc n) (suc k) lt = taken_get xs n k (omega (arith, lt))

-- a sink gives no rows to the nodes behind it
gives_none : (nodes : List Node) (n sink : ℕ) → sink < n → sink_at nodes sink ≡ true → gives_rows (take n nodes) sink ≡ true → ⊥
gives_none nodes n sink lt is gives =
    by (slice_get nodes sink) is (ap (λ (o : Option Node). option_map_or (λ node. not (is_sink node.op)) o false) (sym (taken_get nodes n sink lt)) ∙ gives)
  where
    not_both : (b : Bool) → b ≡ true → not b ≡ true → ⊥
    not_both true e f = false≢true f
    not_both false e f = false≢true e

    by : (o : Option Node) → option_map_or (λ node. is_sink node.op) o false ≡ true → option_map_or (λ node. not (is_sink node.op)) o false ≡ true → ⊥
    by None e f = false≢true e
    by (Some node) e f = not_both (is_sink node.op) e f

probe_small : (side : Side) → probe_place side < 2
probe_small Left = omega arith
probe_small Right = omega arith

module _ (nodes : List Node) (widened : List Widening) (good : plan_faults nodes ≡ []) (sink : ℕ) (is : sink_at nodes sink ≡ true) where
  -- no node has it at one of its inputs
  no_input : (node : ℕ) (it : Node) (k : ℕ) → slice_get nodes node ≡ Some it → k < length it.inputs → get_or it.inputs k 0 ≡ sink → ⊥
  no_input node it k at lt same =
      let before : sink < node = subst (λ (n : ℕ). n < node) same (inputs_earlier nodes node it good at k 0 lt) in
      let gives : gives_rows (take node nodes) sink ≡ true = subst (λ (n : ℕ). gives_rows (take node nodes) n ≡ true) same ((good_node nodes node it good at).rows k 0 lt) in
      gives_none nodes node sink before is gives

  not_after : (node : ℕ) → TakesAfter nodes widened sink node → ⊥
  not_after node by = ⊎_elim
      (λ (rows : TakesRows by.it sink).
      no_input node by.it 0 by.at (subst (λ (l : List ℕ). 0 < length l) (sym rows.input) (omega arith)) (ap (λ (l : List ℕ). get_or l 0 0) rows.input))
      (λ (probe : TakesProbe by.it (build_side nodes widened node) sink).
      let small = probe_small probe.build in
      no_input node by.it (probe_place probe.build) by.at (omega (arith, small, probe.two)) probe.input)
      by.takes

  nothing_after : chained_after nodes widened sink ≡ None
  nothing_after = by (chained_after nodes widened sink) refl
    where
      by : (o : Option ℕ) → chained_after nodes widened sink ≡ o → o ≡ None
      by None e = refl
      by (Some node) e = absurd (not_after node (takes_after nodes widened good sink node e))

  -- so it is the last of its chain
  last_is : (max : ℕ) (vertex : Vertex) → IsVertex nodes widened max vertex → is_among vertex.nodes sink ≡ true → last_of vertex ≡ sink
  last_is max vertex made has = at (stands vertex.nodes sink has)
    where
      ends : (k : ℕ) → slice_get vertex.nodes (k + 1) ≡ None → length vertex.nodes ≤ k + 1
      ends k none = ⊎_elim
          (λ (lt : k + 1 < length vertex.nodes). absurd (none_is_some (get_or vertex.nodes (k + 1) 0) (sym none ∙ slice_get-get_or vertex.nodes (k + 1) 0 lt)))
          (λ (le : length vertex.nodes ≤ k + 1). le)
          (cases_lt (k + 1) (length vertex.nodes))

      at : (k : ℕ) × (k < length vertex.nodes) × (get_or vertex.nodes k 0 ≡ sink) → last_of vertex ≡ sink
      at (k, lt, same) =
          let none : slice_get vertex.nodes (k + 1) ≡ None = made.chain.next k lt ∙ ap (chained_after nodes widened) same ∙ nothing_after in
          let le = ends k none in
          let last : length vertex.nodes - 1 ≡ k = omega (arith, lt, le) in
          ap (λ (n : ℕ). get_or vertex.nodes n 0) last ∙ same

  outputs_are : (max : ℕ) (vertex : Vertex) → IsVertex nodes widened max vertex → last_of vertex ≡ sink → vertex.outputs ≡ text_output ∷ []
  outputs_are max vertex made last =
      made.outputs ∙ ap (vertex_outputs nodes max) last
      ∙ ap (λ (b : Bool). if b then text_output ∷ [] else map (vertex_output nodes max) (consumer_edges nodes sink)) is

-- ---- the sinks' winners

abbrev pub HaveBags : Given → Stored → State → Type 0
HaveBags given stored state = (v e : ℕ) → v < length state.vertices → e < length (vertex_at state.vertices v).vertex.outputs
    → SameBag (output_rows stored.parts state.vertices v e) (bag_at (bags_of stored.files given.nodes) (last_of (vertex_at state.vertices v).vertex)).rows

node_within : (nodes : List Node) (node : ℕ) → sink_at nodes node ≡ true → node < length nodes
node_within nodes node is = by (slice_get nodes node) refl is
  where
    by : (o : Option Node) → slice_get nodes node ≡ o → option_map_or (λ n. is_sink n.op) o false ≡ true → node < length nodes
    by None e f = absurd (false≢true f)
    by (Some it) e f = slice_get_within nodes node it e

pub sink_bag : (given : Given) (stored : Stored) (state : State) → plan_faults given.nodes ≡ [] → IsValid given state → IsDone given state → HaveBags given stored state
    → (node : ℕ) → sink_at given.nodes node ≡ true → SameBag (sink_rows stored.parts state.vertices node) (bag_at (bags_of stored.files given.nodes) node).rows
sink_bag given stored state good valid done have node is =
    let vs = state.vertices in
    let u = maker vs node in
    let vertex = (vertex_at vs u).vertex in
    let lt = in_range vs u (complete_some vs u (done node (node_within given.nodes node is))) in
    let made = (valid.made u lt).is in
    let last = last_is given.nodes state.widened good node is given.settings.max_parallelism vertex made (maker_has vs node lt) in
    let outputs = outputs_are given.nodes state.widened good node is given.settings.max_parallelism vertex made last in
    subst (λ (n : ℕ). SameBag (sink_rows stored.parts vs node) (bag_at (bags_of stored.files given.nodes) n).rows) last
    (have u 0 lt (subst (λ (l : List VertexOutput). 0 < length l) (sym outputs) (omega arith)))

pub sink_text : (nodes : List Node) (files : List ℕ → List (List ℕ)) (parts : Parts) (vs : List MadeVertex)
    → ((node : ℕ) → sink_at nodes node ≡ true → SameBag (sink_rows parts vs node) (bag_at (bags_of files nodes) node).rows)
    → sink_sections nodes (sink_bags parts vs (length nodes)) ≡ sink_sections nodes (bags_of files nodes)
sink_text nodes files parts vs same =
    let bag : ℕ → Bag = λ node. record { width = 0; rows = sink_rows parts vs node } in
    let numbers = range_with_len 0 (length nodes) in
    texts_same nodes (sink_bags parts vs (length nodes)) (bags_of files nodes)
    (length-map numbers bag ∙ length-range_with_len 0 (length nodes) ∙ sym (bags_long files nodes))
    (λ node is.
    let lt = node_within nodes node is in
    let here : bag_at (sink_bags parts vs (length nodes)) node ≡ bag node = get_or-map-range_with_len bag 0 (length nodes) node node empty_bag lt (omega arith) in
    subst (λ (b : Bag). SameBag b.rows (bag_at (bags_of files nodes) node).rows) (sym here) (same node is))
