-- What a graph keeps where a vertex is decided.
use Rattle.std.proofs.Common.{◌≡◌, ℕ, zero, suc, ◌+◌, ◌<◌, Bool, true, false, ◌&&◌, List, [], ◌∷◌, ◌++◌, length, map, get_or, set, Option, Some, None, refl, sym, ◌∙◌, ap, subst, arith, All}
use Rattle.std.specs.Prelude.{⊤, IsTrue}
use Rattle.std.specs.Option.{MatchOption}
use Rattle.std.proofs.lemmas.List.{length-map, get_or_default, get_or-set_same}
use Rattle.std.proofs.lemmas.List.Elements.{All-map, All-weaker}
use Rattle.rect_cover.specs.Cells.{Reads}
use Rattle.rect_cover.specs.Covers.{IsCover}
use Rattle.rect_cover.specs.declared.shape.Shape.{Shape}
use Rattle.vertex_builder.specs.declared.vertex_input.VertexInput.{VertexInput}
use Rattle.graph_model.specs.declared.event.Event.TheVariants.{Decided}
use Rattle.graph_model.specs.declared.made_vertex.MadeVertex.{MadeVertex}
use Rattle.graph_model.specs.Indexes.{sub_at}
use Rattle.graph_model.specs.Legal.{IsDecidable, IsFilled, MayDecide, after}
use Rattle.graph_model.specs.Reads.{ReadEdge, inputs_edges, reads_from, shape_at}
use Rattle.graph_model.specs.States.{Given, State, no_subtask, no_vertex, vertex_at, maker, is_complete, is_decided, are_won, put_decision, unwon}
use Rattle.graph_model.specs.Valid.{IsFed}
use Rattle.graph_model.proofs.Laws.{KeepsFed, SameInput, SameNode, inputs_edges-same, keeps_decided, valid_after}
use Rattle.reader_index.specs.Tasks.{with_tasks}
use Rattle.reader_index.proofs.Laws.{producers_more}
use Rattle.event_graph.specs.Kept.{IsKept}
use Rattle.event_graph.specs.Numbers.{IsNumbering, Numbering, inputs_numbers, own_subs}
use Rattle.event_graph.proofs.Decided.{numbering_decided}
use Rattle.graph_vertices.proofs.Laws.{at_map}
use Rattle.event_graph.proofs.Touched.{inputs_subs, inputs_within}
use Rattle.event_graph.proofs.Undecided.{undecided_less}

both_left : (a b : Bool) → (a && b) ≡ true → a ≡ true
both_left true b e = refl
both_left false b e = e

from_filled : (vs : List MadeVertex) (from : Option ℕ) → MatchOption from ⊤ (λ node. IsTrue (is_complete (vertex_at vs (maker vs node)))) → MatchOption from ⊤ (λ node. IsTrue (is_decided (vertex_at vs (maker vs node))))
from_filled vs None h = tt
from_filled vs (Some node) h = both_left (is_decided (vertex_at vs (maker vs node))) (are_won (vertex_at vs (maker vs node)).subtasks) h

from_same : (vs us : List MadeVertex) → KeepsFed vs us → (from : Option ℕ) → MatchOption from ⊤ (λ node. IsTrue (is_decided (vertex_at vs (maker vs node)))) → MatchOption from ⊤ (λ node. SameNode us vs node)
from_same vs us keeps None fed = tt
from_same vs us keeps (Some node) fed = keeps.node node fed

fed_same : (vs us : List MadeVertex) → KeepsFed vs us → (inputs : List VertexInput) → All (IsFed vs) inputs → All (SameInput us vs) inputs
fed_same vs us keeps inputs fed = All-weaker (IsFed vs) (SameInput us vs) (λ input. from_same vs us keeps input.from) inputs fed

-- the numbers of the subtasks of a vertex that is decided, and of those that they read
abbrev pub numbering_after : Numbering → ℕ → List (List ℕ) → ℕ → Numbering
numbering_after numbering v lists count = record {
  places = set numbering.places v (length numbering.subs);
  subs = numbering.subs ++ own_subs v count;
  tasks = with_tasks numbering.tasks lists;
}

pub kept_decided : (given : Given) (state : State) (numbering : Numbering) (undecided now v : ℕ) (decision : List Reads) → IsKept given state numbering undecided → MayDecide given state v decision
    → undecided ≡ now + length (vertex_at state.vertices v).vertex.nodes
    → let lists = map (inputs_numbers numbering state.vertices (vertex_at state.vertices v).vertex.inputs 0) decision in
    IsKept given (after given state (Decided v decision)) (numbering_after numbering v lists (length decision)) now
kept_decided given state numbering undecided now v decision kept may fewer =
    let vs = state.vertices in
    let us = put_decision vs v decision in
    let inputs = (vertex_at vs v).vertex.inputs in
    let of : Reads → List ℕ = λ reads. inputs_numbers numbering vs inputs 0 reads in
    let lists = map of decision in
    let long : length lists ≡ length decision = length-map decision of in
    let inside : All (All (λ p. p < length numbering.subs)) lists =
    All-map (All (λ p. p < length numbering.subs)) of decision (λ k d lt. inputs_within vs numbering kept.numbered inputs 0 (get_or decision k d)) in
    let fed : All (IsFed vs) inputs = All-weaker (IsFilled vs) (IsFed vs) (λ input. from_filled vs input.from) inputs may.decidable.inputs in
    let keeps = keeps_decided given state v decision kept.valid may in
    let changed : MadeVertex = record (vertex_at vs v) { subtasks = map unwon decision } in
    let at : vertex_at us v ≡ changed = get_or-set_same vs v changed no_vertex may.decidable.made in
    let reads : (k : ℕ) → k < length decision → map (sub_at numbering.subs) (get_or lists k []) ≡ reads_from us (record { vertex = v; subtask = k }) = λ k lt.
    let mine = get_or decision k [] in
    let edges : MadeVertex → List ReadEdge = λ made. inputs_edges us made.vertex.inputs 0 (get_or made.subtasks k no_subtask).reads in
    ap (map (sub_at numbering.subs)) (at_map of decision k [] [] lt)
    ∙ inputs_subs vs numbering kept.numbered inputs 0 mine
    ∙ ap (map (λ (edge : ReadEdge). edge.sub))
    (sym (ap edges at ∙ ap (λ (r : Reads). inputs_edges us inputs 0 r) (reads_at decision k lt) ∙ inputs_edges-same us vs inputs 0 mine (fed_same vs us keeps inputs fed))) in
    let under = producers_more numbering.tasks lists kept.numbered.producers (subst (λ (n : ℕ). All (All (λ p. p < n)) lists) kept.numbered.subs_len inside) in
    record {
      faultless = kept.faultless;
      few = kept.few;
      valid = valid_after given state (Decided v decision) kept.faultless kept.valid may;
      numbered = numbering_decided given state v decision kept.valid may numbering kept.numbered lists long inside reads under;
      undecided_is =
          let less = undecided_less given state v decision kept.faultless kept.valid may in
          let was = kept.undecided_is in
          omega (arith, less, was, fewer);
    }
  where
    reads_at : (decision : List Reads) (k : ℕ) → k < length decision → (get_or (map unwon decision) k no_subtask).reads ≡ get_or decision k []
    reads_at [] k lt = absurd (omega (arith, lt))
    reads_at (reads ∷ decision) zero lt = refl
    reads_at (reads ∷ decision) (suc k) lt = reads_at decision k (omega (arith, lt))

-- what is read has numbers
pub lists_within : (vs : List MadeVertex) (numbering : Numbering) (inputs : List VertexInput) (decision : List Reads) → IsNumbering vs numbering
    → All (All (λ p. p < length numbering.tasks.done)) (map (inputs_numbers numbering vs inputs 0) decision)
lists_within vs numbering inputs decision h =
    All-map (All (λ p. p < length numbering.tasks.done)) (inputs_numbers numbering vs inputs 0) decision
    (λ k d lt. subst (λ (n : ℕ). All (λ p. p < n) (inputs_numbers numbering vs inputs 0 (get_or decision k d))) h.subs_len (inputs_within vs numbering h inputs 0 (get_or decision k d)))

-- by what the state is then
pub kept_decided_as : (given : Given) (state : State) (numbering next : Numbering) (undecided now v : ℕ) (decision : List Reads) (vertices : List MadeVertex) (lists : List (List ℕ))
    → IsKept given state numbering undecided → MayDecide given state v decision → undecided ≡ now + length (vertex_at state.vertices v).vertex.nodes
    → vertices ≡ put_decision state.vertices v decision → lists ≡ map (inputs_numbers numbering state.vertices (vertex_at state.vertices v).vertex.inputs 0) decision
    → next ≡ numbering_after numbering v lists (length lists) → IsKept given (record state { vertices = vertices }) next now
kept_decided_as given state numbering next undecided now v decision vertices lists kept may fewer is read numbered =
    let of = inputs_numbers numbering state.vertices (vertex_at state.vertices v).vertex.inputs 0 in
    let long : length lists ≡ length decision = ap (λ (l : List (List ℕ)). length l) read ∙ length-map decision of in
    let all : next ≡ numbering_after numbering v (map of decision) (length decision) =
    numbered ∙ ap (λ (n : ℕ). numbering_after numbering v lists n) long ∙ ap (λ (l : List (List ℕ)). numbering_after numbering v l (length decision)) read in
    let done = kept_decided given state numbering undecided now v decision kept may fewer in
    subst (λ (us : List MadeVertex). IsKept given (record state { vertices = us }) next now) (sym is)
    (subst (λ (n : Numbering). IsKept given (after given state (Decided v decision)) n now) (sym all) done)

-- ---- what is tried before a decision

-- the vertex, found with another default
pub made_at : (vs list : List MadeVertex) (v : ℕ) (other : MadeVertex) → list ≡ vs → v < length vs → get_or list v other ≡ vertex_at vs v
made_at vs list v other same lt = ap (λ (l : List MadeVertex). get_or l v other) same ∙ get_or_default vs v other no_vertex lt

pub may_decide : (given : Given) (state : State) (v : ℕ) (decision : List Reads) (made : MadeVertex) (shape : Shape) → IsDecidable given state v → made ≡ vertex_at state.vertices v
    → shape ≡ shape_at given state.vertices made.vertex → IsCover shape decision → MayDecide given state v decision
may_decide given state v decision made shape can at is covers = record {
  decidable = can;
  cover = subst (λ (s : Shape). IsCover s decision) (is ∙ ap (λ (m : MadeVertex). shape_at given state.vertices m.vertex) at) covers;
}
