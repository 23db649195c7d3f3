-- In a valid state the inputs of a vertex come from the last nodes of earlier vertices, by their outputs.
use Rattle.std.proofs.Common.{◌≡◌, ℕ, zero, suc, ◌+◌, ◌-◌, ◌<◌, ◌==◌, Bool, List, [], ◌∷◌, length, map, get_or, Option, Some, None, refl, sym, ◌∙◌, ap, subst, arith, All, true, false, not, ◌&&◌, ◌||◌, cond, slice_get, ⊎_elim}
use Rattle.std.specs.Prelude.{⊤, Contains, nat_eq, if◌then◌else◌}
use Rattle.std.specs.Option.{MatchOption}
use Rattle.std.proofs.lemmas.Bool.{false≢true}
use Rattle.std.proofs.lemmas.List.Elements.{All-cons, All-nil, All-map, All-contains, Contains-append_cases, Contains-append_right, Contains-get_or, filter_passes}
use Rattle.plan_model.specs.Checks.{plan_faults}
use Rattle.plan_model.specs.Nodes.{sink_at}
use Rattle.plan_model.specs.declared.node.Node.{Node}
use Rattle.vertex_builder.specs.Chains.{is_among, chain_of}
use Rattle.vertex_builder.specs.Edges.{consumer_edges, edges_of}
use Rattle.vertex_builder.specs.Inputs.{ComesOut, output_for}
use Rattle.vertex_builder.specs.Vertices.{head_of, last_in, last_of, text_output, vertex_of, vertex_output, vertex_outputs}
use Rattle.vertex_builder.specs.declared.edge.Edge.{Edge}
use Rattle.vertex_builder.specs.declared.vertex.Vertex.{Vertex}
use Rattle.vertex_builder.specs.declared.vertex_input.VertexInput.{VertexInput}
use Rattle.vertex_builder.specs.declared.vertex_output.VertexOutput.{VertexOutput}
use Rattle.vertex_builder.proofs.Laws.{both_left, both_right, chains_part, inputs_come_out, same_number, same_yes, vertex_is}
use Rattle.graph_model.specs.declared.made_vertex.MadeVertex.{MadeVertex}
use Rattle.graph_model.specs.Links.{goes_to, output_number, IsLinked, LinkLaw}
use Rattle.graph_model.specs.States.{Given, State, vertex_at, maker}
use Rattle.graph_model.specs.Valid.{IsValid}
use Rattle.graph_model.proofs.Items.{in_nothing, in_one, none_is_some, some_is}

-- the vertex of a node that is made has it
pub maker_has : (vs : List MadeVertex) (node : ℕ) → maker vs node < length vs → is_among (vertex_at vs (maker vs node)).vertex.nodes node ≡ true
maker_has [] node lt = absurd (omega (arith, lt))
maker_has (made ∷ vs) node lt = by_first (is_among made.vertex.nodes node) refl (maker_has vs node) lt
  where
    by_first : (b : Bool) → is_among made.vertex.nodes node ≡ b → (maker vs node < length vs → is_among (vertex_at vs (maker vs node)).vertex.nodes node ≡ true)
        → cond (not b) (1 + maker vs node) 0 < length (made ∷ vs) → is_among (vertex_at (made ∷ vs) (cond (not b) (1 + maker vs node) 0)).vertex.nodes node ≡ true
    by_first true e rest less = e
    by_first false e rest less = next (1 + maker vs node) refl
      where
        next : (n : ℕ) → n ≡ 1 + maker vs node → is_among (vertex_at (made ∷ vs) n).vertex.nodes node ≡ true
        next zero is = absurd (omega (arith, is))
        next (suc n) is = subst (λ (m : ℕ). is_among (vertex_at vs m).vertex.nodes node ≡ true) (omega (arith, is)) (rest (omega (arith, less)))

-- what stands at a place is in the list
pub among_at : (nodes : List ℕ) (k : ℕ) → k < length nodes → is_among nodes (get_or nodes k 0) ≡ true
among_at [] k lt = absurd (omega (arith, lt))
among_at (node ∷ nodes) zero lt = ap (λ (b : Bool). b || is_among nodes node) (same_yes node)
among_at (node ∷ nodes) (suc k) lt = or_true (nat_eq (get_or nodes k 0) node) (among_at nodes k (omega (arith, lt)))
  where
    or_true : (b : Bool) {c : Bool} → c ≡ true → (b || c) ≡ true
    or_true true e = refl
    or_true false e = e

-- a list that begins is not empty
pub begins : (nodes : List ℕ) (first : ℕ) → slice_get nodes 0 ≡ Some first → (0 < length nodes) × (get_or nodes 0 0 ≡ first)
begins [] first is = absurd (none_is_some first is)
begins (node ∷ nodes) first is = (omega arith, some_is node first is)

-- ---- the output

-- the first output that goes there
first_at : (outputs : List VertexOutput) (into place : ℕ) (P : VertexOutput → Type 0) → All (λ output. goes_to into place output ≡ true → P output) outputs
    → (output : VertexOutput) → Contains outputs output → goes_to into place output ≡ true
    → (output_number outputs into place < length outputs) × P (get_or outputs (output_number outputs into place) text_output)
first_at [] into place P each output has is = absurd (in_nothing output has)
first_at (first ∷ outputs) into place P each output has is = by_first (goes_to into place first) refl (λ more. first_at outputs into place P (λ k d lt. each (suc k) d (omega (arith, lt))) output more is)
  where
    by_first : (b : Bool) → goes_to into place first ≡ b
        → (Contains outputs output → (output_number outputs into place < length outputs) × P (get_or outputs (output_number outputs into place) text_output))
        → (cond (not b) (1 + output_number outputs into place) 0 < length (first ∷ outputs)) × P (get_or (first ∷ outputs) (cond (not b) (1 + output_number outputs into place) 0) text_output)
    by_first true e rest = (omega arith, each 0 first (omega arith) e)
    by_first false e rest = ⊎_elim
        (λ (one : Contains (first ∷ []) output). absurd (false≢true (sym e ∙ ap (goes_to into place) (sym (in_one first output one)) ∙ is)))
        (λ (more : Contains outputs output).
        let (lt, holds) = rest more in
        let n = output_number outputs into place in
        (omega (arith, lt), subst (λ (m : ℕ). P (get_or (first ∷ outputs) m text_output)) (suc_is n) holds))
        (Contains-append_cases (first ∷ []) outputs output has)
      where
        suc_is : (n : ℕ) → suc n ≡ 1 + n
        suc_is n = omega arith

-- what goes from a node to an input is one output
abbrev edge_at : ℕ → ℕ → ℕ → Edge
edge_at from into place = record { from = from; into = into; place = place }

one_output : (nodes : List Node) (max last into place : ℕ)
    → All (λ output. goes_to into place output ≡ true → output ≡ vertex_output nodes max (edge_at last into place)) (vertex_outputs nodes max last)
one_output nodes max last into place = by_sink (sink_at nodes last)
  where
    same_edge : (e : Edge) → e.from ≡ last → (nat_eq into e.into && nat_eq place e.place) ≡ true → e ≡ edge_at last into place
    same_edge e from is =
        let a = same_number into e.into (both_left (nat_eq into e.into) (nat_eq place e.place) is) in
        let b = same_number place e.place (both_right (nat_eq into e.into) (nat_eq place e.place) is) in
        ap (λ (n : ℕ). edge_at n e.into e.place) from ∙ ap (λ (n : ℕ). edge_at last n e.place) (sym a) ∙ ap (λ (n : ℕ). edge_at last into n) (sym b)

    by_sink : (b : Bool) → All (λ output. goes_to into place output ≡ true → output ≡ vertex_output nodes max (edge_at last into place))
        (if b then text_output ∷ [] else map (vertex_output nodes max) (consumer_edges nodes last))
    by_sink true = All-cons (λ output. goes_to into place output ≡ true → output ≡ vertex_output nodes max (edge_at last into place)) text_output []
        (λ is. absurd (false≢true is)) (All-nil (λ output. goes_to into place output ≡ true → output ≡ vertex_output nodes max (edge_at last into place)))
    by_sink false = All-map (λ output. goes_to into place output ≡ true → output ≡ vertex_output nodes max (edge_at last into place)) (vertex_output nodes max) (consumer_edges nodes last)
        (λ k d lt is. ap (vertex_output nodes max) (same_edge (get_or (consumer_edges nodes last) k d)
        (same_number (get_or (consumer_edges nodes last) k d).from last (filter_passes (λ (e : Edge). e.from == last) (edges_of nodes) k d lt)) is))

slice_has : {X : Type 0} (xs : List X) (k : ℕ) (x : X) → slice_get xs k ≡ Some x → Contains xs x
slice_has [] k x is = absurd (none_is_some x is)
slice_has {X = X} (y ∷ xs) zero x is = subst (λ (z : X). Contains (y ∷ xs) z) (some_is y x is) (Contains-get_or (y ∷ xs) 0 y (omega arith))
slice_has (y ∷ xs) (suc k) x is = Contains-append_right (y ∷ []) xs x (slice_has xs k x is)

-- ---- the law

module _ (given : Given) (state : State) (good : plan_faults given.nodes ≡ []) (valid : IsValid given state) where
  abbrev vs : List MadeVertex
  vs = state.vertices

  abbrev max : ℕ
  max = given.settings.max_parallelism

  -- a vertex that was made is that of its head
  pub vertex_made : (v : ℕ) → v < length vs → (vertex_at vs v).vertex ≡ vertex_of given.nodes state.widened max (head_of (vertex_at vs v).vertex)
  vertex_made v lt = vertex_is given.nodes state.widened max (vertex_at vs v).vertex good (valid.made v lt).is

  -- a node of it is in the chain of its head
  pub in_chain : (v node : ℕ) → v < length vs → is_among (vertex_at vs v).vertex.nodes node ≡ true → is_among (chain_of given.nodes state.widened (head_of (vertex_at vs v).vertex)) node ≡ true
  in_chain v node lt is = ap (λ (x : Vertex). is_among x.nodes node) (sym (vertex_made v lt)) ∙ is

  linked : (v : ℕ) (input : VertexInput) (node : ℕ) → v < length vs → maker vs node < v → ComesOut given.nodes state.widened max (vertex_at vs v).vertex input node → IsLinked given vs v input node
  linked v input node lt less out =
      let u = maker vs node in
      let under : u < length vs = omega (arith, less, lt) in
      let made = valid.made u under in
      let part = chains_part given.nodes state.widened good in
      let chain = chain_of given.nodes state.widened out.head in
      let start = begins chain out.head (part.chains out.head).first in
      let end : length chain - 1 < length chain = omega (arith, start.0) in
      let inside : is_among chain node ≡ true = subst (λ (n : ℕ). is_among chain n ≡ true) out.last (among_at chain (length chain - 1) end) in
      let same : head_of (vertex_at vs u).vertex ≡ out.head = part.one node (head_of (vertex_at vs u).vertex) out.head made.head out.begins (in_chain u node under (maker_has vs node under)) inside in
      let is : (vertex_at vs u).vertex ≡ vertex_of given.nodes state.widened max out.head = vertex_made u under ∙ ap (vertex_of given.nodes state.widened max) same in
      let outputs = vertex_outputs given.nodes max (last_in chain) in
      let has : Contains outputs (output_for max input) = slice_has outputs out.place (output_for max input) out.output in
      let goes : goes_to input.into input.place (output_for max input) ≡ true = ap (λ (b : Bool). b && nat_eq input.place input.place) (same_yes input.into) ∙ same_yes input.place in
      let each = one_output given.nodes max (last_in chain) input.into input.place in
      let P : VertexOutput → Type 0 = λ output. output ≡ vertex_output given.nodes max (edge_at (last_in chain) input.into input.place) in
      let one : P (output_for max input) = All-contains (λ output. goes_to input.into input.place output ≡ true → P output) outputs (output_for max input) each has goes in
      let found = first_at outputs input.into input.place P each (output_for max input) has goes in
      let Q : Vertex → Type 0 = λ x. (output_number x.outputs input.into input.place < length x.outputs)
      × (get_or x.outputs (output_number x.outputs input.into input.place) text_output ≡ output_for max input) in
      let both : Q (vertex_at vs u).vertex = subst Q (sym is) (found.0, found.1 ∙ sym one) in
      record {
        inside = part.inside out.head node out.within inside;
        before = less;
        last = sym out.last ∙ ap last_of (sym is);
        within = both.0;
        output = both.1;
      }

  each_linked : (v : ℕ) (input : VertexInput) → v < length vs → (from : Option ℕ) → ((node : ℕ) → from ≡ Some node → ComesOut given.nodes state.widened max (vertex_at vs v).vertex input node)
      → MatchOption from ⊤ (λ node. maker vs node < v) → MatchOption from ⊤ (λ node. IsLinked given vs v input node)
  each_linked v input lt None out less = tt
  each_linked v input lt (Some node) out less = linked v input node lt less (out node refl)

pub link_law : LinkLaw
link_law given state good valid v lt =
    let inputs = (vertex_at state.vertices v).vertex.inputs in
    let made = valid.made v lt in
    let out = inputs_come_out given.nodes state.widened given.settings.max_parallelism (vertex_at state.vertices v).vertex good made.is made.head made.within in
    λ k d less. each_linked given state good valid v (get_or inputs k d) lt (get_or inputs k d).from (out k d less) (valid.before v lt k d less)
