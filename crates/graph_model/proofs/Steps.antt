-- Events that change winners alone, or nothing of the vertices, lead from a valid state to a valid one.
use Rattle.std.proofs.lemmas.List.{append-nil}
use Rattle.std.proofs.Common.{◌≡◌, ℕ, ◌<◌, Bool, List, [], ◌∷◌, ◌++◌, map, Option, Some, None, refl, sym, ◌∙◌, ap, subst, arith, All, ⊎_elim}
use Rattle.std.specs.Prelude.{⊤, Contains, IsTrue, nat_lt}
use Rattle.std.specs.Option.{MatchOption, option_map, is_some}
use Rattle.std.specs.List.{AllZip}
use Rattle.std.proofs.lemmas.List.Elements.{All-weaker, All-append, All-cons, All-nil, Contains-append_left, Contains-append_right, Contains-get_or}
use Rattle.rect_cover.specs.Cells.{Reads}
use Rattle.rect_cover.specs.Covers.{IsCover}
use Rattle.rect_cover.specs.declared.shape.Shape.{Shape}
use Rattle.estate.specs.declared.part_name.PartName.{PartName}
use Rattle.vertex_builder.specs.declared.vertex.Vertex.{Vertex}
use Rattle.vertex_builder.specs.declared.vertex_output.VertexOutput.{VertexOutput}
use Rattle.vertex_builder.specs.declared.widening.Widening.{Widening}
use Rattle.vertex_laws.specs.VertexRows.{MayRepeat}
use Rattle.graph_model.specs.declared.made_vertex.MadeVertex.{MadeVertex}
use Rattle.graph_model.specs.declared.sub.Sub.{Sub}
use Rattle.graph_model.specs.declared.win.Win.{Win}
use Rattle.graph_model.specs.Closures.{HasReaders}
use Rattle.graph_model.specs.Legal.{HasForm, IsNamed, MayWin}
use Rattle.graph_model.specs.Reads.{ReadEdge, read_edges}
use Rattle.graph_model.specs.States.{Given, State, vertex_at, subtasks_at, winner_at, winner_name, sub_of, is_decided, maker, put_winner, without_winners}
use Rattle.graph_model.specs.Valid.{IsMade, ComesBefore, IsFed, IsDecided, IsWinner, IsOfSubtask, IsValid, decision_of}
use Rattle.graph_model.proofs.Apart.{apart_same}
use Rattle.graph_model.proofs.Items.{none_is_some, in_map}
use Rattle.graph_model.proofs.Same.{shape-same}
use Rattle.graph_model.proofs.Winners.{KeepsReads, same_count, same_node, same_inputs, edges-same, named_kept, put-keeps, put-same, put-other, cases_sub, without-keeps, without-was, without-other, without-gone}

-- ---- where only winners change

carry : (P : Vertex → Type 0) (vs us : List MadeVertex) → KeepsReads vs us → (v : ℕ) → P (vertex_at vs v).vertex → P (vertex_at us v).vertex
carry P vs us keeps v h = subst P (sym (keeps.vertex v)) h

from_kept : (vs us : List MadeVertex) → KeepsReads vs us → (v : ℕ) (from : Option ℕ) → MatchOption from ⊤ (λ node. maker vs node < v) → MatchOption from ⊤ (λ node. maker us node < v)
from_kept vs us keeps v None h = tt
from_kept vs us keeps v (Some node) lt = subst (λ (n : ℕ). n < v) (sym (keeps.makers node)) lt

fed_kept : (vs us : List MadeVertex) → KeepsReads vs us → (from : Option ℕ)
    → MatchOption from ⊤ (λ node. IsTrue (is_decided (vertex_at vs (maker vs node)))) → MatchOption from ⊤ (λ node. IsTrue (is_decided (vertex_at us (maker us node))))
fed_kept vs us keeps None h = tt
fed_kept vs us keeps (Some node) h = subst (λ (n : ℕ). IsTrue (nat_lt 0 n)) (sym (same_node vs us keeps node).1) h

decided_kept : (given : Given) (vs us : List MadeVertex) → KeepsReads vs us → (v : ℕ) → IsDecided given vs (vertex_at vs v).vertex (decision_of (subtasks_at vs v))
    → IsDecided given us (vertex_at us v).vertex (decision_of (subtasks_at us v))
decided_kept given vs us keeps v h =
    let vertex = (vertex_at vs v).vertex in
    let decision = decision_of (subtasks_at vs v) in
    let here : IsDecided given us vertex decision = record {
      fed = All-weaker (IsFed vs) (IsFed us) (λ input. fed_kept vs us keeps input.from) vertex.inputs h.fed;
      cover = subst (λ (shape : Shape). IsCover shape decision) (sym (shape-same given us vs vertex (same_inputs vs us keeps vertex.inputs))) h.cover;
    } in
    carry (λ x. IsDecided given us x (decision_of (subtasks_at us v))) vs us keeps v (subst (λ (d : List Reads). IsDecided given us vertex d) (sym (keeps.reads v)) here)

form_kept : (vs us : List MadeVertex) → KeepsReads vs us → (v : ℕ) (sizes : List (List ℕ)) → HasForm vs v sizes → HasForm us v sizes
form_kept vs us keeps v sizes h = h ∙ ap (λ (vertex : Vertex). map (λ (output : VertexOutput). output.cells) vertex.outputs) (sym (keeps.vertex v))

winner_kept : (vs us : List MadeVertex) → KeepsReads vs us → (dones more : List PartName) (epoch : ℕ) (sub : Sub) (win : Win) → IsWinner vs dones epoch sub win
    → ((edge : ReadEdge) (name : PartName) → Contains (read_edges vs sub) edge → IsNamed vs edge name → IsNamed us edge name) → IsWinner us (dones ++ more) epoch sub win
winner_kept vs us keeps dones more epoch sub win h names = record {
  own = h.own;
  first = h.first;
  last = h.last;
  noted = Contains-append_left dones more win.name h.noted;
  named = subst (λ (edges : List ReadEdge). AllZip (IsNamed us) edges win.inputs) (sym (edges-same vs us keeps sub)) (named_kept vs us (read_edges vs sub) win.inputs names h.named);
  formed = form_kept vs us keeps sub.vertex win.sizes h.formed;
}

of_kept : (vs us : List MadeVertex) → KeepsReads vs us → (dones : List PartName) → All (IsOfSubtask vs) dones → All (IsOfSubtask us) dones
of_kept vs us keeps dones h = All-weaker (IsOfSubtask vs) (IsOfSubtask us) (λ name lt. subst (λ (n : ℕ). name.subtask < n) (sym (same_count vs us keeps name.vertex)) lt) dones h

-- only winners change, and each that stands is one
pub valid_kept : (given : Given) (state next : State) → KeepsReads state.vertices next.vertices → next.widened ≡ state.widened
    → IsValid given state → ((sub : Sub) (win : Win) → winner_at next.vertices sub ≡ Some win → IsWinner next.vertices next.dones next.epoch sub win)
    → All (IsOfSubtask next.vertices) next.dones → IsValid given next
valid_kept given state next keeps same valid winners done =
    let vs = state.vertices in
    let us = next.vertices in
    record {
      made = λ v lt. subst (λ (w : List Widening). IsMade given w (vertex_at us v).vertex) (sym same)
          (carry (IsMade given state.widened) vs us keeps v (valid.made v (subst (λ (n : ℕ). v < n) keeps.len lt)));
      before = λ v lt. carry (λ vertex. All (ComesBefore us v) vertex.inputs) vs us keeps v
          (All-weaker (ComesBefore vs v) (ComesBefore us v) (λ input. from_kept vs us keeps v input.from)
          (vertex_at vs v).vertex.inputs (valid.before v (subst (λ (n : ℕ). v < n) keeps.len lt)));
      apart = apart_same vs us keeps.len keeps.vertex valid.apart;
      joins = subst (MayRepeat given.nodes) (sym same) valid.joins;
      decided = λ v some. decided_kept given vs us keeps v (valid.decided v (subst (λ (n : ℕ). 0 < n) (same_count vs us keeps v) some));
      winners = winners;
      done = done;
    }

-- ---- a winner more

pub valid_won : (given : Given) (state : State) (name : PartName) (inputs : List PartName) (sizes : List (List ℕ)) → IsValid given state → MayWin given state name inputs sizes
    → IsValid given (record state { vertices = put_winner state.vertices (sub_of name) (Some (record { name = name; inputs = inputs; sizes = sizes })); dones = state.dones ++ name ∷ [] })
valid_won given state name inputs sizes valid may =
    let vs = state.vertices in
    let sub : Sub = sub_of name in
    let win : Win = record { name = name; inputs = inputs; sizes = sizes } in
    let us = put_winner vs sub (Some win) in
    let dones = state.dones ++ name ∷ [] in
    let keeps = put-keeps vs sub (Some win) in
    -- who has a winner already is another
    let names : (x : Sub) (n : PartName) → winner_name vs x ≡ Some n → winner_name us x ≡ Some n = λ x n says.
    let ne : x ≡ sub → ⊥ = λ same. none_is_some n (sym (ap (option_map (λ (w : Win). w.name)) may.unfinished.unwon) ∙ subst (λ (s : Sub). winner_name vs s ≡ Some n) same says) in
    ap (option_map (λ (w : Win). w.name)) (put-other vs sub x (Some win) ne) ∙ says in
    let own : IsWinner us dones state.epoch sub win = record {
      own = refl;
      first = subst (λ (n : ℕ). 0 < n) (sym may.epoch) may.opened;
      last = omega (arith, may.epoch);
      noted = Contains-append_right state.dones (name ∷ []) name (Contains-get_or (name ∷ []) 0 name (omega arith));
      named = subst (λ (edges : List ReadEdge). AllZip (IsNamed us) edges inputs) (sym (edges-same vs us keeps sub)) (named_kept vs us (read_edges vs sub) inputs (λ e n has says. names e.sub n says) may.named);
      formed = form_kept vs us keeps name.vertex sizes may.formed;
    } in
    let winners : (x : Sub) (w : Win) → winner_at us x ≡ Some w → IsWinner us dones state.epoch x w = λ x w is. ⊎_elim
    (λ (same : x ≡ sub).
    let here : Some win ≡ Some w = sym (put-same vs sub (Some win) may.unfinished.decided) ∙ subst (λ (s : Sub). winner_at us s ≡ Some w) same is in
    subst (λ (s : Sub). IsWinner us dones state.epoch s w) (sym same) (subst (λ (o : Option Win). MatchOption o ⊤ (λ v. IsWinner us dones state.epoch sub v)) here own))
    (λ (ne : x ≡ sub → ⊥). winner_kept vs us keeps state.dones (name ∷ []) state.epoch x w (valid.winners x w (sym (put-other vs sub x (Some win) ne) ∙ is)) (λ e n has says. names e.sub n says))
    (cases_sub x sub) in
    let done : All (IsOfSubtask us) dones = All-append (IsOfSubtask us) state.dones (name ∷ []) (of_kept vs us keeps state.dones valid.done)
    (of_kept vs us keeps (name ∷ []) (All-cons (IsOfSubtask vs) name [] may.unfinished.decided (All-nil (IsOfSubtask vs)))) in
    valid_kept given state (record state { vertices = us; dones = dones }) keeps refl valid winners done

-- ---- winners fewer

some_true : (o : Option Win) (win : Win) → o ≡ Some win → IsTrue (is_some o)
some_true o win e = subst (λ (x : Option Win). IsTrue (is_some x)) (sym e) refl

pub valid_reset : (given : Given) (state : State) (subs : List Sub) → IsValid given state → HasReaders state.vertices subs
    → IsValid given (record state { vertices = without_winners state.vertices subs })
valid_reset given state subs valid readers =
    let vs = state.vertices in
    let us = without_winners vs subs in
    let keeps = without-keeps vs subs in
    let all : state.dones ++ [] ≡ state.dones = append-nil state.dones in
    let winners : (x : Sub) (w : Win) → winner_at us x ≡ Some w → IsWinner us state.dones state.epoch x w = λ x w is.
    let was = without-was vs subs x w is in
    -- what it reads is left too
    let left : (edge : ReadEdge) → Contains (read_edges vs x) edge → Contains subs edge.sub → ⊥ = λ edge has out.
    without-gone vs subs x w (readers x edge.sub (some_true (winner_at vs x) w was) (in_map (λ (e : ReadEdge). e.sub) (read_edges vs x) edge has) out) is in
    subst (λ (l : List PartName). IsWinner us l state.epoch x w) all (winner_kept vs us keeps state.dones [] state.epoch x w (valid.winners x w was)
    (λ e n has says. ap (option_map (λ (v : Win). v.name)) (without-other vs subs e.sub (left e has)) ∙ says)) in
    valid_kept given state (record state { vertices = us }) keeps refl valid winners (of_kept vs us keeps state.dones valid.done)

-- ---- no winner changes

pub valid_opened : (given : Given) (state : State) (epoch : ℕ) → IsValid given state → state.epoch < epoch → IsValid given (record state { epoch = epoch })
valid_opened given state epoch valid later = record {
  made = valid.made;
  before = valid.before;
  apart = valid.apart;
  joins = valid.joins;
  decided = valid.decided;
  winners = λ sub win is.
      let h = valid.winners sub win is in
      record { own = h.own; first = h.first; last = omega (arith, h.last, later); noted = h.noted; named = h.named; formed = h.formed };
  done = valid.done;
}

pub valid_same : (given : Given) (state : State) (troubles : ℕ) (ended : Option Bool) → IsValid given state → IsValid given (record state { troubles = troubles; ended = ended })
valid_same given state troubles ended valid = record {
  made = valid.made;
  before = valid.before;
  apart = valid.apart;
  joins = valid.joins;
  decided = valid.decided;
  winners = valid.winners;
  done = valid.done;
}
