-- What a graph keeps where a vertex is made.
use Rattle.std.proofs.Common.{◌≡◌, ℕ, ◌+◌, ◌<◌, ◌≤◌, true, false, not, List, [], ◌∷◌, ◌++◌, length, get_or, refl, sym, ◌∙◌, ap, subst, arith, ⊎_elim}
use Rattle.std.specs.Prelude.{nat_lt}
use Rattle.std.specs.List.{range_with_len}
use Rattle.std.proofs.lemmas.Bool.{cases_lt}
use Rattle.std.proofs.lemmas.List.{length_push, get_or_push, get_or_past, get_or_append_left}
use Rattle.vertex_builder.specs.Chains.{IsChain, is_among}
use Rattle.vertex_builder.specs.Vertices.{last_in, vertex_inputs, vertex_outputs}
use Rattle.vertex_builder.specs.declared.vertex.Vertex.{Vertex}
use Rattle.graph_model.specs.declared.made_vertex.MadeVertex.{MadeVertex}
use Rattle.graph_model.specs.declared.subtask_state.SubtaskState.{SubtaskState}
use Rattle.graph_model.specs.declared.event.Event.TheVariants.{Made}
use Rattle.graph_model.specs.Legal.{IsOpen, MayMake, after, made_of}
use Rattle.graph_model.specs.States.{Given, State, no_vertex, vertex_at, maker, is_decided}
use Rattle.graph_model.proofs.Laws.{keeps_made, maker_has, maker-push, valid_after}
use Rattle.graph_vertices.proofs.Laws.{maker_first}
use Rattle.graph_vertices.specs.Making.{IsNext}
use Rattle.event_graph.specs.Kept.{IsKept, is_undecided, undecided_nodes}
use Rattle.event_graph.specs.Numbers.{Numbering}
use Rattle.event_graph.proofs.Counting.{counts_same}
use Rattle.event_graph.proofs.Numbering.{covered_is, numbering_covered, numbering_made}

-- a node that no vertex has is in no decided one once a vertex is made
in_none : (vs : List MadeVertex) (new : MadeVertex) → new.subtasks ≡ [] → (node : ℕ) → length vs ≤ maker vs node → is_decided (vertex_at (vs ++ new ∷ []) (maker (vs ++ new ∷ []) node)) ≡ false
in_none vs new none node le =
    let us = vs ++ new ∷ [] in
    let u = maker us node in
    let long = length_push vs new in
    ⊎_elim
    (λ (old : u < length vs).
    let same : vertex_at us u ≡ vertex_at vs u = get_or_append_left vs (new ∷ []) no_vertex u old in
    let has : is_among (vertex_at vs u).vertex.nodes node ≡ true = ap (λ (m : MadeVertex). is_among m.vertex.nodes node) (sym same) ∙ maker_has us node (omega (arith, old, long)) in
    let first = maker_first vs u node old has in
    absurd (omega (arith, first, old, le)))
    (λ (past : length vs ≤ u). ⊎_elim
    (λ (lt : u < length us). ap is_decided (get_or_push vs new no_vertex u (omega (arith, past, lt, long))) ∙ ap (λ (subtasks : List SubtaskState). nat_lt 0 (length subtasks)) none)
    (λ (end : length us ≤ u). ap is_decided (get_or_past us u no_vertex end))
    (cases_lt u (length us)))
    (cases_lt u (length vs))

-- a node is in a decided vertex before a vertex is made where it is so afterwards
decided_at : (vs : List MadeVertex) (new : MadeVertex) → new.subtasks ≡ [] → (node : ℕ) → is_decided (vertex_at vs (maker vs node)) ≡ is_decided (vertex_at (vs ++ new ∷ []) (maker (vs ++ new ∷ []) node))
decided_at vs new none node =
    let us = vs ++ new ∷ [] in
    let v = maker vs node in
    let u = maker us node in
    ⊎_elim
    (λ (old : v < length vs).
    let same : vertex_at us u ≡ vertex_at vs v = ap (vertex_at us) (maker-push vs node new old) ∙ get_or_append_left vs (new ∷ []) no_vertex v old in
    sym (ap is_decided same))
    (λ (le : length vs ≤ v). ap is_decided (get_or_past vs v no_vertex le) ∙ sym (in_none vs new none node le))
    (cases_lt v (length vs))

-- the same nodes are in no decided vertex
undecided_made : (given : Given) (vs : List MadeVertex) (new : MadeVertex) → new.subtasks ≡ [] → undecided_nodes given vs ≡ undecided_nodes given (vs ++ new ∷ [])
undecided_made given vs new none = counts_same (is_undecided vs) (is_undecided (vs ++ new ∷ [])) (range_with_len 0 (length given.nodes)) (λ node. ap not (decided_at vs new none node))

pub kept_made : (given : Given) (state : State) (numbering : Numbering) (places : List ℕ) (undecided v : ℕ) (nodes : List ℕ) → IsKept given state numbering undecided
    → MayMake given state v nodes → length state.vertices < length places → ((k : ℕ) → get_or places k 0 ≡ get_or numbering.places k 0)
    → IsKept given (after given state (Made v nodes)) (record numbering { places = places }) undecided
kept_made given state numbering places undecided v nodes kept may more same =
    let vs = state.vertices in
    let new = made_of given state nodes in
    record {
      faultless = kept.faultless;
      few = kept.few;
      valid = valid_after given state (Made v nodes) kept.faultless kept.valid may;
      numbered = numbering_made vs new numbering places refl (keeps_made given state v nodes kept.faultless kept.valid may) (λ u some. (kept.valid.decided u some).fed) more same kept.numbered;
      undecided_is = kept.undecided_is ∙ undecided_made given vs new refl;
    }

-- ---- the vertex of a chain that can be made

-- the event is legal
pub may_make : (given : Given) (state : State) (v : ℕ) (nodes : List ℕ) (vertex : Vertex) → IsOpen given state → v ≡ length state.vertices
    → IsNext given.nodes state.widened given.settings.max_parallelism state.vertices nodes vertex → MayMake given state v nodes
may_make given state v nodes vertex running next is = record {
  running = running;
  next = next;
  makeable = is.makeable;
  chain = subst (λ (l : List ℕ). IsChain given.nodes state.widened (get_or l 0 0) l) is.chain_is is.is.chain;
}

-- and the vertex is that of the chain
pub made_is : (given : Given) (state : State) (nodes : List ℕ) (vertex : Vertex) → IsNext given.nodes state.widened given.settings.max_parallelism state.vertices nodes vertex
    → let made : MadeVertex = record { vertex = vertex; subtasks = [] } in made ≡ made_of given state nodes
made_is given state nodes vertex is =
    let inputs = is.is.inputs ∙ ap (vertex_inputs given.nodes state.widened) is.chain_is in
    let outputs = is.is.outputs ∙ ap (λ (l : List ℕ). vertex_outputs given.nodes given.settings.max_parallelism (last_in l)) is.chain_is in
    let chain = is.chain_is in
    (λ i. record { vertex = record { nodes = chain i; inputs = inputs i; outputs = outputs i }; subtasks = [] })

-- ---- by what the state is then

-- the vertex is pushed
pub kept_made_as : (given : Given) (state : State) (numbering next : Numbering) (undecided v : ℕ) (nodes : List ℕ) (vertex : Vertex) (subtasks : List SubtaskState) (vertices : List MadeVertex)
    → IsKept given state numbering undecided → IsOpen given state → v ≡ length state.vertices
    → IsNext given.nodes state.widened given.settings.max_parallelism state.vertices nodes vertex → subtasks ≡ []
    → vertices ≡ state.vertices ++ record { vertex = vertex; subtasks = subtasks } ∷ [] → length state.vertices + 1 ≤ length next.places
    → ((k : ℕ) → get_or next.places k 0 ≡ get_or numbering.places k 0) → next.subs ≡ numbering.subs → next.tasks ≡ numbering.tasks
    → IsKept given (record state { vertices = vertices }) next undecided
kept_made_as given state numbering next undecided v nodes vertex subtasks vertices kept running at is none pushed more same subs tasks =
    let vs = state.vertices in
    let made : MadeVertex = record { vertex = vertex; subtasks = [] } in
    let may = may_make given state v nodes vertex running at is in
    let bare : List SubtaskState → List MadeVertex = λ l. vs ++ record { vertex = vertex; subtasks = l } ∷ [] in
    let all : vertices ≡ vs ++ made_of given state nodes ∷ [] = pushed ∙ ap bare none ∙ ap (λ (m : MadeVertex). vs ++ m ∷ []) (made_is given state nodes vertex is) in
    let now = kept_made given state numbering next.places undecided v nodes kept may (omega (arith, more)) same in
    subst (λ (us : List MadeVertex). IsKept given (record state { vertices = us }) next undecided) (sym all)
    (subst (λ (n : Numbering). IsKept given (after given state (Made v nodes)) n undecided) (covered_is numbering next subs tasks) now)

-- it isn't, for want of memory
pub kept_covered : (given : Given) (state : State) (numbering next : Numbering) (undecided : ℕ) (vertices : List MadeVertex) → IsKept given state numbering undecided → vertices ≡ state.vertices
    → length numbering.places ≤ length next.places → ((k : ℕ) → get_or next.places k 0 ≡ get_or numbering.places k 0) → next.subs ≡ numbering.subs → next.tasks ≡ numbering.tasks
    → IsKept given (record state { vertices = vertices }) next undecided
kept_covered given state numbering next undecided vertices kept same more places subs tasks =
    let at : IsKept given state next undecided = record {
      faultless = kept.faultless;
      few = kept.few;
      valid = kept.valid;
      numbered = numbering_covered state.vertices numbering next kept.numbered more places subs tasks;
      undecided_is = kept.undecided_is;
    } in
    subst (λ (us : List MadeVertex). IsKept given (record state { vertices = us }) next undecided) (sym same) at
