-- A decision leads from a valid state to a valid one.
use Rattle.std.proofs.Common.{◌≡◌, ℕ, zero, suc, ◌<◌, ◌≤◌, Bool, List, [], ◌∷◌, length, map, get_or, Option, Some, None, refl, sym, ◌∙◌, ap, subst, arith, All, true, false, ◌&&◌, ⊎_elim}
use Rattle.std.specs.Prelude.{⊤, IsTrue, IsFalse, nat_lt}
use Rattle.std.specs.List.{AllZip, list_all}
use Rattle.std.specs.Option.{MatchOption, option_map, is_some}
use Rattle.std.proofs.lemmas.Bool.{cases_eq, cases_lt}
use Rattle.std.proofs.lemmas.List.{length-set, get_or_past, get_or-set_same, get_or-set_other}
use Rattle.std.proofs.lemmas.List.Elements.{All-weaker}
use Rattle.std.proofs.lemmas.Bool.Decides.{nat_tests}
use Rattle.rect_cover.specs.Cells.{Reads}
use Rattle.rect_cover.specs.Covers.{IsCover}
use Rattle.rect_cover.specs.declared.shape.Shape.{Shape}
use Rattle.estate.specs.declared.part_name.PartName.{PartName}
use Rattle.vertex_builder.specs.declared.vertex.Vertex.{Vertex}
use Rattle.vertex_builder.specs.declared.vertex_input.VertexInput.{VertexInput}
use Rattle.vertex_builder.specs.declared.vertex_output.VertexOutput.{VertexOutput}
use Rattle.graph_model.specs.declared.made_vertex.MadeVertex.{MadeVertex}
use Rattle.graph_model.specs.declared.sub.Sub.{Sub}
use Rattle.graph_model.specs.declared.subtask_state.SubtaskState.{SubtaskState}
use Rattle.graph_model.specs.declared.win.Win.{Win}
use Rattle.graph_model.specs.Legal.{IsFilled, IsNamed, MayDecide}
use Rattle.graph_model.specs.Reads.{ReadEdge, inputs_edges, read_edges}
use Rattle.graph_model.specs.States.{Given, State, no_vertex, no_subtask, vertex_at, subtasks_at, subtask_at, winner_at, winner_name, is_decided, is_complete, maker, put_decision, unwon}
use Rattle.graph_model.specs.Valid.{IsMade, ComesBefore, IsFed, IsDecided, IsWinner, IsOfSubtask, IsValid, decision_of}
use Rattle.graph_model.proofs.Apart.{apart_same}
use Rattle.graph_model.proofs.Items.{none_is_some}
use Rattle.graph_model.proofs.Same.{SameNode, SameInput, inputs_edges-same, shape-same, maker-set}
use Rattle.graph_model.proofs.Winners.{named_kept, at_each}

-- ---- vertices some of which keep all, where every fed input keeps its node

-- a fed input keeps its vertex, with as many subtasks
pub record KeepsFed (vs us : List MadeVertex) : Type 0 where
  pub node : (node : ℕ) → IsTrue (is_decided (vertex_at vs (maker vs node))) → SameNode us vs node
  pub vertex : (node : ℕ) → IsTrue (is_decided (vertex_at vs (maker vs node))) → (vertex_at us (maker us node)).vertex ≡ (vertex_at vs (maker vs node)).vertex
  pub still : (v : ℕ) → 0 < length (subtasks_at vs v) → vertex_at us v ≡ vertex_at vs v
  -- a subtask that has a winner is in a vertex that is the same
  pub won : (sub : Sub) (win : Win) → winner_at us sub ≡ Some win → vertex_at us sub.vertex ≡ vertex_at vs sub.vertex
  pub stays : (sub : Sub) (win : Win) → winner_at vs sub ≡ Some win → vertex_at us sub.vertex ≡ vertex_at vs sub.vertex

from_same : (vs us : List MadeVertex) → KeepsFed vs us → (from : Option ℕ) → MatchOption from ⊤ (λ node. IsTrue (is_decided (vertex_at vs (maker vs node)))) → MatchOption from ⊤ (λ node. SameNode us vs node)
from_same vs us keeps None fed = tt
from_same vs us keeps (Some node) fed = keeps.node node fed

pub fed_same : (vs us : List MadeVertex) → KeepsFed vs us → (inputs : List VertexInput) → All (IsFed vs) inputs → All (SameInput us vs) inputs
fed_same vs us keeps inputs fed = All-weaker (IsFed vs) (SameInput us vs) (λ input. from_same vs us keeps input.from) inputs fed

from_fed : (vs us : List MadeVertex) → KeepsFed vs us → (from : Option ℕ) → MatchOption from ⊤ (λ node. IsTrue (is_decided (vertex_at vs (maker vs node)))) → MatchOption from ⊤ (λ node. IsTrue (is_decided (vertex_at us (maker us node))))
from_fed vs us keeps None fed = tt
from_fed vs us keeps (Some node) fed = subst (λ (n : ℕ). IsTrue (nat_lt 0 n)) (sym (keeps.node node fed).1) fed

pub fed_on : (vs us : List MadeVertex) → KeepsFed vs us → (inputs : List VertexInput) → All (IsFed vs) inputs → All (IsFed us) inputs
fed_on vs us keeps inputs fed = All-weaker (IsFed vs) (IsFed us) (λ input. from_fed vs us keeps input.from) inputs fed

pub decided_on : (given : Given) (vs us : List MadeVertex) → KeepsFed vs us → (vertex : Vertex) (decision : List Reads) → IsDecided given vs vertex decision → IsDecided given us vertex decision
decided_on given vs us keeps vertex decision h = record {
  fed = fed_on vs us keeps vertex.inputs h.fed;
  cover = subst (λ (shape : Shape). IsCover shape decision) (sym (shape-same given us vs vertex (fed_same vs us keeps vertex.inputs h.fed))) h.cover;
}

-- a subtask with a winner has a vertex that is decided
pub won_decided : (vs : List MadeVertex) (sub : Sub) (win : Win) → winner_at vs sub ≡ Some win → 0 < length (subtasks_at vs sub.vertex)
won_decided vs sub win is = ⊎_elim
    (λ (lt : 0 < length (subtasks_at vs sub.vertex)). lt)
    (λ (le : length (subtasks_at vs sub.vertex) ≤ 0).
    let none : winner_at vs sub ≡ None = ap (λ (t : SubtaskState). t.winner) (get_or_past (subtasks_at vs sub.vertex) sub.subtask no_subtask (omega (arith, le))) in
    absurd (none_is_some win (sym none ∙ is)))
    (cases_lt 0 (length (subtasks_at vs sub.vertex)))

-- what a subtask of a decided vertex reads
pub edges_on : (vs us : List MadeVertex) → KeepsFed vs us → (sub : Sub) → 0 < length (subtasks_at vs sub.vertex) → All (IsFed vs) (vertex_at vs sub.vertex).vertex.inputs → read_edges us sub ≡ read_edges vs sub
edges_on vs us keeps sub some fed =
    let inputs = (vertex_at vs sub.vertex).vertex.inputs in
    let of : MadeVertex → List ReadEdge = λ m. inputs_edges us m.vertex.inputs 0 (get_or m.subtasks sub.subtask no_subtask).reads in
    ap of (keeps.still sub.vertex some) ∙ inputs_edges-same us vs inputs 0 (subtask_at vs sub).reads (fed_same vs us keeps inputs fed)

pub winner_on : (vs us : List MadeVertex) (dones : List PartName) (epoch : ℕ) → KeepsFed vs us
    → ((v : ℕ) → 0 < length (subtasks_at vs v) → All (IsFed vs) (vertex_at vs v).vertex.inputs)
    → ((sub : Sub) (win : Win) → winner_at vs sub ≡ Some win → IsWinner vs dones epoch sub win)
    → (sub : Sub) (win : Win) → winner_at us sub ≡ Some win → IsWinner us dones epoch sub win
winner_on vs us dones epoch keeps fed winners sub win is =
    let same = keeps.won sub win is in
    let was : winner_at vs sub ≡ Some win = ap (λ (m : MadeVertex). (get_or m.subtasks sub.subtask no_subtask).winner) (sym same) ∙ is in
    let h = winners sub win was in
    let some = won_decided vs sub win was in
    let reads = edges_on vs us keeps sub some (fed sub.vertex some) in
    record {
      own = h.own;
      first = h.first;
      last = h.last;
      noted = h.noted;
      named = subst (λ (edges : List ReadEdge). AllZip (IsNamed us) edges win.inputs) (sym reads)
          (named_kept vs us (read_edges vs sub) win.inputs (λ e n has says. kept_name (winner_at vs e.sub) e.sub n refl says) h.named);
      formed = h.formed ∙ ap (λ (m : MadeVertex). map (λ (output : VertexOutput). output.cells) m.vertex.outputs) (sym same);
    }
  where
    kept_name : (o : Option Win) (x : Sub) (n : PartName) → winner_at vs x ≡ o → option_map (λ (w : Win). w.name) o ≡ Some n → winner_name us x ≡ Some n
    kept_name None x n e says = absurd (none_is_some n says)
    kept_name (Some w) x n e says =
        ap (λ (m : MadeVertex). option_map (λ (w : Win). w.name) (get_or m.subtasks x.subtask no_subtask).winner) (keeps.stays x w e)
        ∙ ap (option_map (λ (w : Win). w.name)) e ∙ says

-- an attempt that was done is of a subtask whose vertex is the same
pub done_on : (vs us : List MadeVertex) → KeepsFed vs us → (dones : List PartName) → All (IsOfSubtask vs) dones → All (IsOfSubtask us) dones
done_on vs us keeps dones h = All-weaker (IsOfSubtask vs) (IsOfSubtask us)
    (λ name lt. subst (λ (m : MadeVertex). name.subtask < length m.subtasks) (sym (keeps.still name.vertex (omega (arith, lt)))) lt) dones h

-- ---- a decision

decision_back : (decision : List Reads) → decision_of (map unwon decision) ≡ decision
decision_back [] = refl
decision_back (reads ∷ decision) = ap (λ (l : List Reads). reads ∷ l) (decision_back decision)

no_winner : (decision : List Reads) (k : ℕ) → (get_or (map unwon decision) k no_subtask).winner ≡ None
no_winner [] k = refl
no_winner (reads ∷ decision) zero = refl
no_winner (reads ∷ decision) (suc k) = no_winner decision k

undecided : (subtasks : List SubtaskState) → IsFalse (nat_lt 0 (length subtasks)) → length subtasks ≡ 0
undecided subtasks is = nothing (length subtasks) is
  where
    nothing : (n : ℕ) → nat_lt 0 n ≡ false → n ≡ 0
    nothing n e = grind (arith, nat_tests)

decided_true : (n : ℕ) → IsTrue (nat_lt 0 n) → 0 < n
decided_true n is = grind (arith, nat_tests)

complete_decided : (made : MadeVertex) → IsTrue (is_complete made) → IsTrue (is_decided made)
complete_decided made is = both (is_decided made) (list_all (λ subtask. is_some subtask.winner) made.subtasks) is
  where
    both : (a b : Bool) → IsTrue (a && b) → IsTrue a
    both true b is = refl
    both false b is = is

from_complete : (vs : List MadeVertex) (from : Option ℕ) → MatchOption from ⊤ (λ node. IsTrue (is_complete (vertex_at vs (maker vs node)))) → MatchOption from ⊤ (λ node. IsTrue (is_decided (vertex_at vs (maker vs node))))
from_complete vs None h = tt
from_complete vs (Some node) h = complete_decided (vertex_at vs (maker vs node)) h

module _ (given : Given) (state : State) (v : ℕ) (decision : List Reads) (valid : IsValid given state) (may : MayDecide given state v decision) where
  abbrev vs : List MadeVertex
  vs = state.vertices

  abbrev changed : MadeVertex
  changed = record (vertex_at vs v) { subtasks = map unwon decision }

  abbrev us : List MadeVertex
  us = put_decision vs v decision

  empty : length (subtasks_at vs v) ≡ 0
  empty = undecided (subtasks_at vs v) may.decidable.undecided

  at_v : vertex_at us v ≡ changed
  at_v = get_or-set_same vs v changed no_vertex may.decidable.made

  at_other : (u : ℕ) → (u ≡ v → ⊥) → vertex_at us u ≡ vertex_at vs u
  at_other u ne = get_or-set_other vs v u changed no_vertex ne

  same_made : (u : ℕ) → (vertex_at us u).vertex ≡ (vertex_at vs u).vertex
  same_made u = at_each (λ a b. a.vertex ≡ b.vertex) vs v changed (λ m. refl) refl u

  makers : (node : ℕ) → maker us node ≡ maker vs node
  makers node = maker-set vs v node changed refl

  -- who is decided already is another
  apart : (u : ℕ) → 0 < length (subtasks_at vs u) → u ≡ v → ⊥
  apart u some same = omega (arith, subst (λ (n : ℕ). 0 < length (subtasks_at vs n)) same some, empty)

  pub keeps_decided : KeepsFed vs us
  keeps_decided = record {
    node = λ node is.
        let m = maker vs node in
        (makers node, ap (λ (n : ℕ). length (subtasks_at us n)) (makers node) ∙ ap (λ (made : MadeVertex). length made.subtasks) (at_other m (apart m (decided_true (length (subtasks_at vs m)) is))));
    vertex = λ node is. ap (λ (n : ℕ). (vertex_at us n).vertex) (makers node) ∙ same_made (maker vs node);
    still = λ u some. at_other u (apart u some);
    won = λ sub win is. at_other sub.vertex (λ same.
        let none : winner_at us sub ≡ None = ap (λ (n : ℕ). (get_or (subtasks_at us n) sub.subtask no_subtask).winner) same
        ∙ ap (λ (m : MadeVertex). (get_or m.subtasks sub.subtask no_subtask).winner) at_v ∙ no_winner decision sub.subtask in
        none_is_some win (sym none ∙ is));
    stays = λ sub win is. at_other sub.vertex (apart sub.vertex (won_decided vs sub win is));
  }

  fed_here : All (IsFed vs) (vertex_at vs v).vertex.inputs
  fed_here = All-weaker (IsFilled vs) (IsFed vs) (λ input. from_complete vs input.from) (vertex_at vs v).vertex.inputs may.decidable.inputs

  decided_here : IsDecided given vs (vertex_at vs v).vertex decision
  decided_here = record { fed = fed_here; cover = may.cover }

  from_before : (u : ℕ) (from : Option ℕ) → MatchOption from ⊤ (λ node. maker vs node < u) → MatchOption from ⊤ (λ node. maker us node < u)
  from_before u None h = tt
  from_before u (Some node) lt = subst (λ (n : ℕ). n < u) (sym (makers node)) lt

  decided_next : (u : ℕ) → 0 < length (subtasks_at us u) → IsDecided given us (vertex_at us u).vertex (decision_of (subtasks_at us u))
  decided_next u some =
      let P : MadeVertex → Type 0 = λ m. IsDecided given us m.vertex (decision_of m.subtasks) in
      ⊎_elim
      (λ (same : u ≡ v).
      let here = decided_on given vs us keeps_decided (vertex_at vs v).vertex decision decided_here in
      subst P (sym (ap (vertex_at us) same ∙ at_v)) (subst (λ (d : List Reads). IsDecided given us (vertex_at vs v).vertex d) (sym (decision_back decision)) here))
      (λ (ne : u ≡ v → ⊥).
      let was = subst (λ (m : MadeVertex). 0 < length m.subtasks) (at_other u ne) some in
      subst P (sym (at_other u ne)) (decided_on given vs us keeps_decided (vertex_at vs u).vertex (decision_of (subtasks_at vs u)) (valid.decided u was)))
      (cases_eq u v)

  pub valid_decided : IsValid given (record state { vertices = us })
  valid_decided = record {
    made = λ u lt. subst (IsMade given state.widened) (sym (same_made u)) (valid.made u (subst (λ (n : ℕ). u < n) (length-set vs v changed) lt));
    before = λ u lt.
        let h = valid.before u (subst (λ (n : ℕ). u < n) (length-set vs v changed) lt) in
        subst (λ (x : Vertex). All (ComesBefore us u) x.inputs) (sym (same_made u))
        (All-weaker (ComesBefore vs u) (ComesBefore us u) (λ input. from_before u input.from) (vertex_at vs u).vertex.inputs h);
    apart = apart_same vs us (length-set vs v changed) same_made valid.apart;
    joins = valid.joins;
    decided = decided_next;
    winners = winner_on vs us state.dones state.epoch keeps_decided (λ u some. (valid.decided u some).fed) valid.winners;
    done = done_on vs us keeps_decided state.dones valid.done;
  }
