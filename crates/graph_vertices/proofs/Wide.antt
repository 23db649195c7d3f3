-- Which joins can be widened, by the vertices of their nodes and by the nodes that are made.
use Rattle.std.proofs.Common.{◌≡◌, ℕ, zero, suc, ◌+◌, ◌<◌, ◌≤◌, Bool, true, false, not, ◌||◌, cond, List, [], ◌∷◌, length, refl, sym, ◌∙◌, ap, arith, nat_eq, ⊎_elim}
use Rattle.std.specs.Prelude.{if◌then◌else◌}
use Rattle.std.proofs.lemmas.Bool.{cases_lt, false≢true}
use Rattle.std.proofs.lemmas.List.{get_or_past}
use Rattle.std.proofs.lemmas.List.Folds.{list_any-append}
use Rattle.plan_model.specs.declared.side.Side.{Side}
use Rattle.vertex_builder.specs.Chains.{is_among}
use Rattle.vertex_builder.proofs.Laws.{either_left, either_right}
use Rattle.graph_model.specs.declared.made_vertex.MadeVertex.{MadeVertex}
use Rattle.graph_model.specs.Legal.{IsOpen, MayWiden, build_node, probe_node}
use Rattle.graph_model.specs.States.{Given, State, no_vertex, vertex_at, maker, is_complete, made_nodes, complete_nodes}
use Rattle.graph_model.proofs.Laws.{among_made, maker_has, single_law}
use Rattle.graph_model.specs.Valid.{IsValid}
use Rattle.plan_model.specs.Checks.{plan_faults}
use Rattle.graph_vertices.specs.Widening.{CanWiden}
use Rattle.graph_vertices.proofs.Looking.{maker_first}

-- a node that no vertex has isn't made
not_made : (vs : List MadeVertex) (node : ℕ) → length vs ≤ maker vs node → is_among (made_nodes vs) node ≡ false
not_made [] node le = refl
not_made (made ∷ vs) node le = by (is_among made.vertex.nodes node) refl (not_made vs node) le
  where
    by : (b : Bool) → is_among made.vertex.nodes node ≡ b → (length vs ≤ maker vs node → is_among (made_nodes vs) node ≡ false)
        → length (made ∷ vs) ≤ cond (not b) (1 + maker vs node) 0 → is_among (made_nodes (made ∷ vs)) node ≡ false
    by true e rest less = absurd (omega (arith, less))
    by false e rest less =
        list_any-append (nat_eq node) made.vertex.nodes (made_nodes vs)
        ∙ ap (λ (b : Bool). b || is_among (made_nodes vs) node) e ∙ rest (omega (arith, less))

unmade : (vs : List MadeVertex) (node : ℕ) → is_among (made_nodes vs) node ≡ false → length vs ≤ maker vs node
unmade vs node fresh = ⊎_elim
    (λ (lt : maker vs node < length vs). absurd (false≢true (sym (among_made vs (maker vs node) node lt fresh) ∙ maker_has vs node lt)))
    (λ (le : length vs ≤ maker vs node). le)
    (cases_lt (maker vs node) (length vs))

abbrev nodes_if : MadeVertex → List ℕ
nodes_if made = if is_complete made then made.vertex.nodes else []

-- a node whose vertex is complete is among those of complete vertices
complete_among : (vs : List MadeVertex) (v node : ℕ) → v < length vs → is_complete (vertex_at vs v) ≡ true → is_among (vertex_at vs v).vertex.nodes node ≡ true → is_among (complete_nodes vs) node ≡ true
complete_among [] v node lt complete has = absurd (omega (arith, lt))
complete_among (made ∷ vs) zero node lt complete has =
    list_any-append (nat_eq node) (nodes_if made) (complete_nodes vs)
    ∙ either_left (is_among (nodes_if made) node) (is_among (complete_nodes vs) node) (ap (λ (b : Bool). is_among (if b then made.vertex.nodes else []) node) complete ∙ has)
complete_among (made ∷ vs) (suc v) node lt complete has =
    list_any-append (nat_eq node) (nodes_if made) (complete_nodes vs)
    ∙ either_right (is_among (nodes_if made) node) (is_among (complete_nodes vs) node) (complete_among vs v node (omega (arith, lt)) complete has)

-- and one among those is in a complete vertex
among_complete_at : (vs : List MadeVertex) (node : ℕ) → is_among (complete_nodes vs) node ≡ true
    → (v : ℕ) × (v < length vs) × (is_complete (vertex_at vs v) ≡ true) × (is_among (vertex_at vs v).vertex.nodes node ≡ true)
among_complete_at [] node is = absurd (false≢true is)
among_complete_at (made ∷ vs) node is = by (is_complete made) refl (is_among made.vertex.nodes node) refl (sym (list_any-append (nat_eq node) (nodes_if made) (complete_nodes vs)) ∙ is) (among_complete_at vs node)
  where
    next : (v : ℕ) × (v < length vs) × (is_complete (vertex_at vs v) ≡ true) × (is_among (vertex_at vs v).vertex.nodes node ≡ true)
        → (v : ℕ) × (v < length (made ∷ vs)) × (is_complete (vertex_at (made ∷ vs) v) ≡ true) × (is_among (vertex_at (made ∷ vs) v).vertex.nodes node ≡ true)
    next (v, lt, complete, has) = (suc v, omega (arith, lt), complete, has)

    by : (c : Bool) → is_complete made ≡ c → (b : Bool) → is_among made.vertex.nodes node ≡ b
        → (is_among (nodes_if made) node || is_among (complete_nodes vs) node) ≡ true
        → (is_among (complete_nodes vs) node ≡ true → (v : ℕ) × (v < length vs) × (is_complete (vertex_at vs v) ≡ true) × (is_among (vertex_at vs v).vertex.nodes node ≡ true))
        → (v : ℕ) × (v < length (made ∷ vs)) × (is_complete (vertex_at (made ∷ vs) v) ≡ true) × (is_among (vertex_at (made ∷ vs) v).vertex.nodes node ≡ true)
    by true complete true has split rest = (0, omega arith, complete, has)
    by true complete false none split rest =
        next (rest (ap (λ (x : Bool). x || is_among (complete_nodes vs) node) (sym (ap (λ (b : Bool). is_among (if b then made.vertex.nodes else []) node) complete ∙ none)) ∙ split))
    by false incomplete b has split rest =
        next (rest (ap (λ (x : Bool). x || is_among (complete_nodes vs) node) (sym (ap (λ (b : Bool). is_among (if b then made.vertex.nodes else []) node) incomplete)) ∙ split))

-- a vertex past the last is not complete
complete_within : (vs : List MadeVertex) (v : ℕ) → is_complete (vertex_at vs v) ≡ true → v < length vs
complete_within vs v complete = ⊎_elim
    (λ (lt : v < length vs). lt)
    (λ (le : length vs ≤ v). absurd (false≢true (ap is_complete (sym (get_or_past vs v no_vertex le)) ∙ complete)))
    (cases_lt v (length vs))

pub may_widen : (given : Given) (state : State) (node : ℕ) (side : Side) → IsOpen given state → CanWiden given.nodes state.widened state.vertices node side → MayWiden given state node side
may_widen given state node side running can =
    let vs = state.vertices in
    let build = build_node given node side in
    let within = complete_within vs (maker vs build) can.build in
    record {
      running = running;
      repeats = can.repeats;
      unmade = not_made vs node can.unmade;
      fresh = can.fresh;
      build = complete_among vs (maker vs build) build within can.build (maker_has vs build within);
      probe = not_made vs (probe_node given node side) can.probe;
      single = can.single;
    }

pub can_widen : (given : Given) (state : State) (node : ℕ) (side : Side) → plan_faults given.nodes ≡ [] → IsValid given state → MayWiden given state node side
    → CanWiden given.nodes state.widened state.vertices node side
can_widen given state node side good valid may =
    let vs = state.vertices in
    let build = build_node given node side in
    record {
      repeats = may.repeats;
      unmade = unmade vs node may.unmade;
      fresh = may.fresh;
      build = at (among_complete_at vs build may.build);
      probe = unmade vs (probe_node given node side) may.probe;
      single = may.single;
    }
  where
    at : (v : ℕ) × (v < length state.vertices) × (is_complete (vertex_at state.vertices v) ≡ true) × (is_among (vertex_at state.vertices v).vertex.nodes (build_node given node side) ≡ true)
        → is_complete (vertex_at state.vertices (maker state.vertices (build_node given node side))) ≡ true
    at (v, lt, complete, has) =
        let vs = state.vertices in
        let build = build_node given node side in
        let first = maker_first vs v build lt has in
        let under : maker vs build < length vs = omega (arith, first, lt) in
        let same : maker vs build ≡ v = single_law given state good valid (maker vs build) v build under lt (maker_has vs build under) has in
        ap (λ (u : ℕ). is_complete (vertex_at vs u)) same ∙ complete
